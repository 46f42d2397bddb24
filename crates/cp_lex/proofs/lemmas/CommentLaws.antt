-- One byte on towards the end of a comment.
use Rattle.std.proofs.Common.{◌≡◌, ℕ, suc, ◌+◌, ◌<◌, false, cond, List, ◌∷◌, length, drop, get_or, refl, sym, ◌∙◌, ap, subst, arith, drop-cons, add-one, take, ◌-◌, Some, None}
use Rattle.std.proofs.lemmas.List.{take_all}
use Rattle.std.proofs.Math.ListN.{length-drop}
use Rattle.std.specs.Prelude.{Option, option_map}
use Rattle.cp_char.specs.Characters.{begins}
use Rattle.cp_lex.specs.Lexical.{past_comment}

moved : (at : ℕ) (o : Option ℕ) → option_map (λ n. at + 1 + n) o ≡ option_map (λ n. at + n) (option_map (λ n. suc n) o)
moved at None = refl
moved at (Some n) = ap (λ k. Some k) (let e : at + 1 + n ≡ at + suc n = omega arith in e)

not_here : (c : ℕ) (rest : List ℕ) → begins "*/" (c ∷ rest) ≡ false → past_comment (c ∷ rest) ≡ option_map (λ n. suc n) (past_comment rest)
not_here c rest h = ap (λ b. cond b (Some 2) (option_map (λ n. suc n) (past_comment rest))) h

pub comment_step : (at : ℕ) (text : List ℕ) → at < length text → begins "*/" (drop at text) ≡ false →
    option_map (λ n. at + 1 + n) (past_comment (drop (at + 1) text)) ≡ option_map (λ n. at + n) (past_comment (drop at text))
comment_step at text h other =
    let split : drop at text ≡ get_or text at 0 ∷ drop (at + 1) text = rw (add-one, drop-cons text at 0) refl in
    moved at (past_comment (drop (at + 1) text))
    ∙ ap (λ o. option_map (λ n. at + n) o) (sym (not_here (get_or text at 0) (drop (at + 1) text) (subst (λ t. begins "*/" t ≡ false) split other)))
    ∙ ap (λ t. option_map (λ n. at + n) (past_comment t)) (sym split)

-- a slice from a place to the end
pub whole : (at : ℕ) (text : List ℕ) → take (length text - at) (drop at text) ≡ drop at text
whole at text = take_all (length text - at) (drop at text) (omega (arith, length-drop at text))
