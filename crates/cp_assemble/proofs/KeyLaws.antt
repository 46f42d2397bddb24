-- The rows of the table of places are those that its entries are.
use Rattle.std.proofs.Common.{◌≡◌, ℕ, true, false, Bool, cond, Some, List, [], ◌∷◌, ◌++◌, map, refl, sym, ap, ◌∙◌}
use Rattle.std.specs.Prelude.{◌&&◌, nat_eq, if◌then◌else◌}
use Rattle.std.specs.Str.{bytes_eq}
use Rattle.std.proofs.lemmas.Bool.{and_parts, false≢true}
use Rattle.std.proofs.lemmas.List.{append-nil}
use Rattle.std.proofs.lemmas.Bool.Decides.{Decides-eqb}
use Rattle.std.proofs.lemmas.Slice.Eq.{bytes_eq-Decides}
use Rattle.std.specs.Map.{lookup}
use Rattle.indexmap.specs.IndexMap.{insert_entry}
use Rattle.cp_declaration.specs.declared.indicator.Indicator.{Indicator}
use Rattle.cp_module.specs.Causes.{same}
use Rattle.cp_assemble.specs.declared.places.Key.{Key}
use Rattle.cp_assemble.specs.Index.{places_in, places_or}
use Rattle.cp_assemble.specs.Rows.{named, row_of}

abbrev pub same_key : Key → Key → Bool
same_key k e = bytes_eq k.name e.name && nat_eq k.arity e.arity

pub same-is : (p q : Indicator) → same p q ≡ true → p ≡ q
same-is p q h =
    let parts = and_parts (bytes_eq p.name q.name) (nat_eq p.arity q.arity) h in
    let n : p.name ≡ q.name = (bytes_eq-Decides p.name q.name).0 parts.0 in
    let k : p.arity ≡ q.arity = (Decides-eqb p.arity q.arity).0 parts.1 in
    ap (λ x. let i : Indicator = record { name = x; arity = p.arity } in i) n ∙ ap (λ x. let i : Indicator = record { name = q.name; arity = x } in i) k

same-self : (p : Indicator) → same p p ≡ true
same-self p =
    ap (λ b. b && nat_eq p.arity p.arity) ((bytes_eq-Decides p.name p.name).1 refl) ∙ (Decides-eqb p.arity p.arity).1 refl

twice : (b : Bool) (v w x : List ℕ) → (if b then v else x) ≡ (if b then v else if b then w else x)
twice true v w x = refl
twice false v w x = refl

apart : (a b : Bool) (v w x : List ℕ) → (a ≡ true → b ≡ true → ⊥) → (if a then w else if b then v else x) ≡ (if b then v else if a then w else x)
apart true true v w x never = absurd (never refl refl)
apart true false v w x never = refl
apart false b v w x never = refl

pub inserted : (k : Key) (v : List ℕ) (es : List (Key × List ℕ)) (p : Indicator) → places_in (map row_of (insert_entry same_key es k v)) p ≡ (if same p (named k) then v else places_in (map row_of es) p)
inserted k v [] p = refl
inserted k v (e ∷ es) p = go (same_key k e.0) refl (inserted k v es p)
  where
    go : (b : Bool) → same_key k e.0 ≡ b → places_in (map row_of (insert_entry same_key es k v)) p ≡ (if same p (named k) then v else places_in (map row_of es) p)
        → places_in (map row_of (cond b ((e.0, v) ∷ es) (e ∷ insert_entry same_key es k v))) p ≡ (if same p (named k) then v else if same p (named e.0) then e.1 else places_in (map row_of es) p)
    go true h ih =
        let is : named k ≡ named e.0 = same-is (named k) (named e.0) h in
        twice (same p (named e.0)) v e.1 (places_in (map row_of es) p)
        ∙ ap (λ q. if same p q then v else if same p (named e.0) then e.1 else places_in (map row_of es) p) (sym is)
    go false h ih =
        ap (λ x. if same p (named e.0) then e.1 else x) ih
        ∙ apart (same p (named e.0)) (same p (named k)) v e.1 (places_in (map row_of es) p)
        (λ at_e at_k. false≢true (sym h ∙ ap (λ q. same (named k) q) (sym (same-is p (named e.0) at_e)) ∙ ap (λ q. same q p) (sym (same-is p (named k) at_k)) ∙ same-self p))

pub looked_up : (k : Key) (es : List (Key × List ℕ)) → places_or (lookup (same_key k) es) ≡ places_in (map row_of es) (named k)
looked_up k [] = refl
looked_up k (e ∷ es) = go (same_key k e.0) (looked_up k es)
  where
    go : (b : Bool) → places_or (lookup (same_key k) es) ≡ places_in (map row_of es) (named k) → places_or (cond b (Some e.1) (lookup (same_key k) es)) ≡ (if b then e.1 else places_in (map row_of es) (named k))
    go true ih = refl
    go false ih = ih

-- a predicate whose places are taken out and written again with one more
pub written_again : (b : Bool) (all places old : List ℕ) (n : ℕ) → (b ≡ true → places ≡ old) → all ≡ places ++ n ∷ [] → (if b then all else if b then [] else old) ≡ old ++ (if b then n ∷ [] else [])
written_again true all places old n h e = e ∙ ap (λ xs. xs ++ n ∷ []) (h refl)
written_again false all places old n h e = sym (append-nil old)
