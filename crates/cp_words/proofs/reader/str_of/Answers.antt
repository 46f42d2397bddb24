use Rattle.std.proofs.Common.{◌≡◌, ◌∙◌, List, ℕ, Bor, Option, Some, None, is_some, option_map, true, ap, sym, refl}
use Rattle.clap.specs.Words.{found_of}
use Rattle.clap.proofs.WalkLemmas.{first_value-rows}
use Rattle.cp_words.proofs.reader.str_of.Goals as goal

-- what is lent is there where its text is
some_of : (r : Option (Bor (List ℕ))) → is_some (option_map (λ s. s.now) r) ≡ true → is_some r ≡ true
some_of (Some s) h = refl
some_of None h = h

pub unwrap-requires : goal.unwrap-requires
unwrap-requires c =
    let found = found_of c.args.matches.now in
    some_of c.get_str.result (ap is_some (c.get_str.ensures ∙ first_value-rows found c.args.id.now) ∙ c.requires)

pub returns : goal.returns
returns c =
    let found = found_of c.args.matches.now in
    sym (first_value-rows found c.args.id.now) ∙ (sym c.get_str.ensures ∙ ap (option_map (λ s. s.now)) c.unwrap.ensures)
