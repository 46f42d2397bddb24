use Rattle.std.proofs.Common.{◌≡◌, ◌∙◌, [], ◌∷◌, is_some, map, codes, rules, ap, ap₂, sym, lit<}
use Rattle.clap.specs.Words.{found_of, rows_of, takes}
use Rattle.cp_words.specs.Commands.{gen_from}
use Rattle.cp_words.proofs.Numerals.{in_range}
use Rattle.cp_words.proofs.Reading.{gen_takes}
use Rattle.cp_words.proofs.Values.{gen_rows, signed}
use Rattle.cp_words.proofs.generated.read_gen.Goals as goal

pub matches_of-requires : goal.matches_of-requires
matches_of-requires c =
    let words_are : map (λ s. s.now) c.as_slice.result.now ≡ codes "gen" ∷ codes "--" ∷ c.args.items.now ∷ [] = search rules in
    ap₂ takes c.in_ok-reader.ensures words_are ∙ gen_takes c.args.items.now (signed 1 100000 c.args.items.now (lit< tt) (in_range 1 100000 c.args.items.now c.requires))

pub u32_of-requires : goal.u32_of-requires
u32_of-requires c =
    let words_are : map (λ s. s.now) c.as_slice.result.now ≡ codes "gen" ∷ codes "--" ∷ c.args.items.now ∷ [] = search rules in
    ap is_some (gen_rows _ _ c.args.items.now (rows_of (found_of c.in-Ok.matches)) c.in_ok-reader.ensures words_are c.in-Ok.ensures.ok (in_range 1 100000 c.args.items.now c.requires))

pub returns-in-Ok-clause-ok : goal.returns-in-Ok-clause-ok
returns-in-Ok-clause-ok c =
    let words_are : map (λ s. s.now) c.as_slice.result.now ≡ codes "gen" ∷ codes "--" ∷ c.args.items.now ∷ [] = search rules in
    let in_it = in_range 1 100000 c.args.items.now c.requires in
    let rows = gen_rows _ _ c.args.items.now (rows_of (found_of c.in-Ok.matches)) c.in_ok-reader.ensures words_are c.in-Ok.ensures.ok in_it in
    ap gen_from (in_it.value ∙ (sym rows ∙ c.u32_of.ensures))
