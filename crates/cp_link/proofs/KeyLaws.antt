-- What the tables of predicates have to do with their lists.
use Rattle.std.proofs.Common.{◌≡◌, refl, sym, ap, ◌∙◌, Bool, true, false, List, [], ◌∷◌, ◌++◌, map}
use Rattle.std.proofs.lemmas.List.{map-append}
use Rattle.std.specs.Prelude.{◌||◌, ◌&&◌, nat_eq, cond, if◌then◌else◌}
use Rattle.std.specs.List.{list_any}
use Rattle.std.specs.Str.{bytes_eq}
use Rattle.indexmap.specs.IndexSet.{insert_key}
use Rattle.cp_declaration.specs.declared.indicator.Indicator.{Indicator}
use Rattle.cp_module.specs.Causes.{same, is_in}
use Rattle.cp_link.specs.declared.pred_list.Key.{Key}
use Rattle.cp_link.specs.Modules.{distinct}
use Rattle.cp_link.specs.Keyed.{named}
use Rattle.cp_link.proofs.DistinctLaws.{with_item, distinct_in, distinct_more}

abbrev pub same_key : Key → Key → Bool
same_key k e = bytes_eq k.name e.name && nat_eq k.arity e.arity

keys_in : (ks : List Key) (k : Key) → list_any (same_key k) ks ≡ is_in (map named ks) (named k)
keys_in [] k = refl
keys_in (e ∷ ks) k = ap (λ b. same_key k e || b) (keys_in ks k)

-- a key finds what the list has
pub found : (ks : List Key) (preds : List Indicator) (k : Key) → map named ks ≡ distinct preds → list_any (same_key k) ks ≡ is_in preds (named k)
found ks preds k e = keys_in ks k ∙ ap (λ ps. is_in ps (named k)) e ∙ distinct_in preds (named k)

inserted : (ks : List Key) (k : Key) → map named (insert_key same_key ks k) ≡ with_item same (map named ks) (named k)
inserted ks k = go (list_any (same_key k) ks) ∙ ap (λ b. cond b (map named ks) (map named ks ++ named k ∷ [])) (keys_in ks k)
  where
    go : (b : Bool) → map named (if b then ks else ks ++ k ∷ []) ≡ cond b (map named ks) (map named ks ++ named k ∷ [])
    go true = refl
    go false = map-append named ks (k ∷ [])

-- and stays so with one more
pub listed_more : (ks more : List Key) (preds all : List Indicator) (k : Key) (p : Indicator) → map named ks ≡ distinct preds → named k ≡ p
    → more ≡ insert_key same_key ks k → all ≡ preds ++ p ∷ [] → map named more ≡ distinct all
listed_more ks more preds all k p e is_key is_more is_all =
    ap (map named) is_more ∙ inserted ks k
    ∙ ap (λ ps. with_item same ps (named k)) e
    ∙ ap (with_item same (distinct preds)) is_key
    ∙ sym (distinct_more preds p)
    ∙ ap distinct (sym is_all)
