use Rattle.std.proofs.Common.{◌≡◌, ◌∙◌, ℕ, ◌+◌, ◌<◌, List, slice_index_or, length, arith, refl, true, false, subst, sym, below_more}
use Rattle.std.specs.Str.{IsUtf8}
use Rattle.std.proofs.lemmas.List.{get_or_default}
use Rattle.cp_words.proofs.text.are_utf8.Goals as goal

pub returns-then-not-is_utf8 : goal.returns-then-not-is_utf8
returns-then-not-is_utf8 c =
    let at : c.loop-word.word-index < length c.args.words.now = omega arith in
    (λ yes. let same : false ≡ true = yes in let none : ⊥ = cc in absurd none, λ all. c.if-not-is_utf8.ensures.1 (subst IsUtf8 (sym (c.as_slice.ensures ∙ c.word-item.is)) (all c.loop-word.word-index c.word-item.result at)))

-- one more word is UTF-8
more : (words : List (List ℕ)) (i : ℕ) (word : List ℕ) → i < length words → word ≡ slice_index_or words i word → IsUtf8 word
    → ((k : ℕ) (d : List ℕ) → k < i → IsUtf8 (slice_index_or words k d))
    → (k : ℕ) (d : List ℕ) → k < i + 1 → IsUtf8 (slice_index_or words k d)
more words i word lt is here below k d le =
    below_more (λ n. (e : List ℕ) → IsUtf8 (slice_index_or words n e)) i (λ n less e. below n e less)
    (λ e. subst IsUtf8 (is ∙ get_or_default words i word e lt) here) k le d

pub loop-word-preserved : goal.loop-word-preserved
loop-word-preserved c =
    let at : c.loop-word.word-index < length c.args.words.now = omega arith in
    more c.args.words.now c.loop-word.word-index c.word-item.result at c.word-item.is
    (subst IsUtf8 c.as_slice.ensures (c.if-not-is_utf8.ensures.0 refl)) c.loop-word.invariant
