-- A command word and the words after it.
use Rattle.std.proofs.Common.{◌≡◌, ◌∙◌, ℕ, ◌≤◌, List, [], ◌∷◌, ◌-◌, length, take, drop, get_or, Some, None, arith, sym, ap, subst}
use Rattle.std.specs.Prelude.{Result, Ok, Err, MatchResult}
use Rattle.std.specs.List.{All}
use Rattle.std.specs.Str.{IsUtf8}
use Rattle.std.proofs.lemmas.List.{take_all}
use Rattle.std.proofs.lemmas.List.Elements.{All-tail}
use Rattle.cp_words.specs.Commands.{IsCommand, command_by, command_in}
use Rattle.cp_words.specs.declared.command.Command.{Command}
use Rattle.cp_words.specs.declared.command.WordsError.{WordsError}
use Rattle.cp_words.specs.declared.command.WordsError.TheVariants.{Usage}

-- the words after the first, as a cut
abbrev pub rest : List (List ℕ) → List (List ℕ)
rest words = take (length words - 1) (drop 1 words)

rest_is : (word : List ℕ) (words : List (List ℕ)) → rest (word ∷ words) ≡ words
rest_is word words = take_all (length (word ∷ words) - 1) words (omega arith)

pub first_and_rest : (words : List (List ℕ)) (word first : List ℕ) → 1 ≤ length words → first ≡ word → word ≡ get_or words 0 word → words ≡ first ∷ rest words
first_and_rest [] word first le same is = absurd (omega arith)
first_and_rest (w ∷ words) word first le same is = λ i. sym (same ∙ is) i ∷ sym (rest_is w words) i

pub utf8_rest : (words : List (List ℕ)) → All IsUtf8 words → 1 ≤ length words → All IsUtf8 (rest words)
utf8_rest [] all le = absurd (omega arith)
utf8_rest (word ∷ words) all le = subst (All IsUtf8) (sym (rest_is word words)) (All-tail IsUtf8 word words all)

pub whole : (words rest : List (List ℕ)) (word : List ℕ) (r : Result Command WordsError) → words ≡ word ∷ rest → All IsUtf8 words
    → MatchResult r (λ c. command_by word rest ≡ Some c) (λ e. e ≡ Usage → command_by word rest ≡ None)
    → MatchResult r (λ c. IsCommand words c) (λ e. e ≡ Usage → (c : Command) → IsCommand words c → ⊥)
whole words rest word (Ok c) is all h = record { utf8 = all; is = ap command_in is ∙ h }
whole words rest word (Err e) is all h = λ usage c given.
    let bad : Some c ≡ None = sym given.is ∙ (ap command_in is ∙ h usage) in
    cc
