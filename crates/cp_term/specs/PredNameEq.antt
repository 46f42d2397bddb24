-- The equality of the names of predicates, as a test.
use Rattle.std.specs.Prelude.{◌≡◌, Bool, true, ◌&&◌, nat_eq}
use Rattle.std.specs.Bool.{Decides}
use Rattle.std.specs.Str.{bytes_eq}
use Rattle.std.specs.Cmp.{IsEquivalence, IsPartialEquivalence, decided, partial_equiv_from_equiv}
use Rattle.std.proofs.Common.{refl, subst}
use Rattle.std.proofs.lemmas.Bool.{and_parts, and_from}
use Rattle.std.proofs.lemmas.Bool.Decides.{Decides-eqb}
use Rattle.std.proofs.lemmas.Slice.Eq.{bytes_eq-Decides}
use Rattle.cp_term.specs.declared.pred_name.PredName.{PredName}

abbrev pub pred_name_eq : PredName → PredName → Bool
pred_name_eq p q = bytes_eq p.module q.module && (bytes_eq p.name q.name && nat_eq p.arity q.arity)

pub pred_name_eq-true : (p q : PredName) → pred_name_eq p q ≡ true → p ≡ q
pred_name_eq-true p q h =
    let first = and_parts (bytes_eq p.module q.module) (bytes_eq p.name q.name && nat_eq p.arity q.arity) h in
    let second = and_parts (bytes_eq p.name q.name) (nat_eq p.arity q.arity) first.1 in
    λ i. record {
      «module» = (bytes_eq-Decides p.module q.module).0 first.0 i;
      name = (bytes_eq-Decides p.name q.name).0 second.0 i;
      arity = (Decides-eqb p.arity q.arity).0 second.1 i;
    }

pub pred_name_eq-refl : (p : PredName) → pred_name_eq p p ≡ true
pred_name_eq-refl p =
    and_from (bytes_eq p.module p.module) (bytes_eq p.name p.name && nat_eq p.arity p.arity)
    ((bytes_eq-Decides p.module p.module).1 refl)
    (and_from (bytes_eq p.name p.name) (nat_eq p.arity p.arity) ((bytes_eq-Decides p.name p.name).1 refl) ((Decides-eqb p.arity p.arity).1 refl))

pub pred_name_eq-Decides : (p q : PredName) → Decides (pred_name_eq p q) (p ≡ q)
pred_name_eq-Decides p q = (pred_name_eq-true p q, λ e. subst (λ x. pred_name_eq p x ≡ true) e (pred_name_eq-refl p))

pub pred_name_eq-equiv : IsEquivalence pred_name_eq
pred_name_eq-equiv = decided pred_name_eq pred_name_eq-Decides

pub pred_name_eq-per : IsPartialEquivalence pred_name_eq
pred_name_eq-per = partial_equiv_from_equiv pred_name_eq-equiv
