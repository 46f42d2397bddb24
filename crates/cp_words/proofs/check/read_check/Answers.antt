use Rattle.std.proofs.Common.{◌≡◌, ◌∙◌, List, ℕ, [], ◌∷◌, is_some, map, codes, rules, ap, ap₂}
use Rattle.clap.specs.Words.{found_of, rows_of, takes}
use Rattle.cp_words.specs.declared.command.Command.TheVariants.{Check}
use Rattle.cp_words.proofs.Reading.{check_takes}
use Rattle.cp_words.proofs.Values.{check_rows, same_text}
use Rattle.cp_words.proofs.check.read_check.Goals as goal

pub matches_of-requires : goal.matches_of-requires
matches_of-requires c =
    let words_are : map (λ s. s.now) c.as_slice.result.now ≡ codes "check" ∷ codes "--" ∷ c.args.file.now ∷ [] = search rules in
    ap₂ takes c.in_ok-reader.ensures words_are ∙ check_takes c.args.file.now

pub str_of-requires : goal.str_of-requires
str_of-requires c =
    let words_are : map (λ s. s.now) c.as_slice.result.now ≡ codes "check" ∷ codes "--" ∷ c.args.file.now ∷ [] = search rules in
    ap is_some (check_rows _ _ c.args.file.now (rows_of (found_of c.in-Ok.matches)) c.in_ok-reader.ensures words_are c.in-Ok.ensures.ok)

pub returns-in_ok-bytes_of-in-Ok-clause-ok : goal.returns-in_ok-bytes_of-in-Ok-clause-ok
returns-in_ok-bytes_of-in-Ok-clause-ok c =
    let words_are : map (λ s. s.now) c.as_slice.result.now ≡ codes "check" ∷ codes "--" ∷ c.args.file.now ∷ [] = search rules in
    let rows = check_rows _ _ c.args.file.now (rows_of (found_of c.in-Ok.matches)) c.in_ok-reader.ensures words_are c.in-Ok.ensures.ok in
    let read = same_text c.str_of.result.now c.args.file.now _ c.str_of.ensures rows in
    ap (λ (l : List ℕ). Check l) (c.in_ok-bytes_of-in-Ok.ensures ∙ (c.as_bytes.ensures.value ∙ read))
