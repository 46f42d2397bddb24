-- The rows of the table of marks are those that its entries are, and what they say of a predicate is what its declarations do.
use Rattle.std.proofs.Common.{◌≡◌, true, false, Bool, cond, Some, List, [], ◌∷◌, ◌++◌, map, length, refl, sym, ap, ◌∙◌}
use Rattle.std.specs.Prelude.{◌&&◌, ◌||◌, nat_eq, if◌then◌else◌}
use Rattle.std.specs.Str.{bytes_eq}
use Rattle.std.proofs.lemmas.Bool.{false≢true}
use Rattle.std.specs.Map.{lookup}
use Rattle.indexmap.specs.IndexMap.{insert_entry}
use Rattle.cp_declaration.specs.declared.indicator.Indicator.{Indicator}
use Rattle.cp_module.specs.Causes.{same}
use Rattle.cp_link.specs.Linked.{either_marks}
use Rattle.cp_link.proofs.DistinctLaws.{same_tells, turned}
use Rattle.cp_assemble.specs.declared.mark_table.MarkKey.{MarkKey}
use Rattle.cp_assemble.specs.declared.marks.Marking.{Marking}
use Rattle.cp_assemble.specs.Index.{marks_of, marks_or, is_marking_of, marks_among}
use Rattle.cp_assemble.specs.MarkRows.{marked, row_of}
use Rattle.cp_assemble.proofs.MarkLaws.{either_none}

abbrev pub same_key : MarkKey → MarkKey → Bool
same_key k e = bytes_eq k.name e.name && nat_eq k.count e.count

-- ---- the table

pub looked_up : (k : MarkKey) (es : List (MarkKey × List Bool)) → marks_or (lookup (same_key k) es) ≡ marks_of (map row_of es) (marked k)
looked_up k [] = refl
looked_up k (e ∷ es) = go (same_key k e.0) (looked_up k es)
  where
    go : (b : Bool) → marks_or (lookup (same_key k) es) ≡ marks_of (map row_of es) (marked k) → marks_or (cond b (Some e.1) (lookup (same_key k) es)) ≡ (if b then e.1 else marks_of (map row_of es) (marked k))
    go true ih = refl
    go false ih = ih

twice : (b : Bool) (v w x : List Bool) → (if b then v else x) ≡ (if b then v else if b then w else x)
twice true v w x = refl
twice false v w x = refl

apart : (a b : Bool) (v w x : List Bool) → (a ≡ true → b ≡ true → ⊥) → (if a then w else if b then v else x) ≡ (if b then v else if a then w else x)
apart true true v w x never = absurd (never refl refl)
apart true false v w x never = refl
apart false b v w x never = refl

inserted : (k : MarkKey) (v : List Bool) (es : List (MarkKey × List Bool)) (p : Indicator) → marks_of (map row_of (insert_entry same_key es k v)) p ≡ (if same p (marked k) then v else marks_of (map row_of es) p)
inserted k v [] p = refl
inserted k v (e ∷ es) p = go (same_key k e.0) refl (inserted k v es p)
  where
    go : (b : Bool) → same_key k e.0 ≡ b → marks_of (map row_of (insert_entry same_key es k v)) p ≡ (if same p (marked k) then v else marks_of (map row_of es) p)
        → marks_of (map row_of (cond b ((e.0, v) ∷ es) (e ∷ insert_entry same_key es k v))) p ≡ (if same p (marked k) then v else if same p (marked e.0) then e.1 else marks_of (map row_of es) p)
    go true h ih =
        let is : marked k ≡ marked e.0 = same_tells.alike (marked k) (marked e.0) h in
        twice (same p (marked e.0)) v e.1 (marks_of (map row_of es) p)
        ∙ ap (λ q. if same p q then v else if same p (marked e.0) then e.1 else marks_of (map row_of es) p) (sym is)
    go false h ih =
        ap (λ x. if same p (marked e.0) then e.1 else x) ih
        ∙ apart (same p (marked e.0)) (same p (marked k)) v e.1 (marks_of (map row_of es) p)
        (λ at_e at_k. false≢true (sym h ∙ ap (λ q. same (marked k) q) (sym (same_tells.alike p (marked e.0) at_e)) ∙ ap (λ q. same q p) (sym (same_tells.alike p (marked k) at_k)) ∙ same_tells.itself p))

-- ---- one declaration more

by_key : (rows : List (Indicator × List Bool)) (p q : Indicator) (both marks : List Bool) (b : Bool) → same p q ≡ b → both ≡ either_marks (marks_of rows q) marks
    → (if b then both else marks_of rows p) ≡ cond b (either_marks (marks_of rows p) marks) (marks_of rows p)
by_key rows p q both marks true h e = e ∙ ap (λ r. either_marks (marks_of rows r) marks) (sym (same_tells.alike p q h))
by_key rows p q both marks false h e = refl

pub added : (es more : List (MarkKey × List Bool)) (rows : List (Indicator × List Bool)) (k : MarkKey) (m : Marking) (both : List Bool) (p : Indicator) → map row_of es ≡ rows → k.name ≡ m.name → k.count ≡ length m.marks
    → both ≡ either_marks (marks_or (lookup (same_key k) es)) m.marks → more ≡ insert_entry same_key es k both
    → marks_of (map row_of more) p ≡ cond (is_marking_of p m) (either_marks (marks_of rows p) m.marks) (marks_of rows p)
added es more rows k m both p are is_name is_count is_both is_more =
    ap (λ xs. marks_of (map row_of xs) p) is_more
    ∙ inserted k both es p
    ∙ by_key (map row_of es) p (marked k) both m.marks (same p (marked k)) refl (is_both ∙ ap (λ ms. either_marks ms m.marks) (looked_up k es))
    ∙ ap (λ xs. cond (same p (marked k)) (either_marks (marks_of xs p) m.marks) (marks_of xs p)) are
    ∙ ap (λ b. cond b (either_marks (marks_of rows p) m.marks) (marks_of rows p))
    (sym (turned same same_tells p (marked k) (same p (marked k)) refl)
    ∙ ap (λ n. bytes_eq n p.name && nat_eq k.count p.arity) is_name
    ∙ ap (λ n. bytes_eq m.name p.name && nat_eq n p.arity) is_count)

or_three : (a b c : Bool) → (a || (b || c)) ≡ ((a || b) || c)
or_three true b c = refl
or_three false b c = refl

either_three : (a b c : List Bool) → either_marks a (either_marks b c) ≡ either_marks (either_marks a b) c
either_three [] b c = refl
either_three (x ∷ a) [] c = refl
either_three (x ∷ a) (y ∷ b) [] = refl
either_three (x ∷ a) (y ∷ b) (z ∷ c) =
    ap (λ h. h ∷ either_marks a (either_marks b c)) (or_three x y z) ∙ ap (λ t. ((x || y) || z) ∷ t) (either_three a b c)

pub among_more : (ms : List Marking) (m : Marking) (p : Indicator) → marks_among (ms ++ m ∷ []) p ≡ cond (is_marking_of p m) (either_marks (marks_among ms p) m.marks) (marks_among ms p)
among_more [] m p = ap (λ xs. cond (is_marking_of p m) xs []) (either_none m.marks)
among_more (x ∷ ms) m p =
    ap (λ xs. cond (is_marking_of p x) (either_marks x.marks xs) xs) (among_more ms m p)
    ∙ go (is_marking_of p x) (is_marking_of p m) (marks_among ms p)
  where
    go : (b d : Bool) (rest : List Bool) → cond b (either_marks x.marks (cond d (either_marks rest m.marks) rest)) (cond d (either_marks rest m.marks) rest)
        ≡ cond d (either_marks (cond b (either_marks x.marks rest) rest) m.marks) (cond b (either_marks x.marks rest) rest)
    go true true rest = either_three x.marks rest m.marks
    go true false rest = refl
    go false true rest = refl
    go false false rest = refl
