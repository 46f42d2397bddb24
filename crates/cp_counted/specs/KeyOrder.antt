-- The order of keys, which tells any two keys apart.
use Rattle.std.specs.Prelude.{◌≡◌}
use Rattle.std.specs.declared.cmp.Ordering.{Ordering}
use Rattle.std.specs.declared.cmp.Ordering.TheVariants.{Less, Equal, Greater}
use Rattle.std.specs.Ordering.{ordering_then, nat_cmp, is_eq}
use Rattle.std.specs.Bool.{Decides}
use Rattle.std.specs.Cmp.{IsTotalOrder, Equal-is, tied_itself, both_ways}
use Rattle.std.specs.Cmp.Lexicographic.{slice_cmp}
use Rattle.std.proofs.Common.{refl, ap, subst, true}
use Rattle.cp_counted.specs.Keys.{key_eq, key_eq-Decides}
use Rattle.std.proofs.lemmas.Map.Lookups.{exact_unsigned, exact_signed, exact_bytes}
use Rattle.cp_counted.specs.declared.key.Key.{Key}
use Rattle.cp_counted.specs.declared.key.Key.TheVariants.{Missing, Int, Atom, Func}
use Rattle.cp_counted.specs.contracts.key.KeyOrd.TheImpl as key_ord
use Rattle.cp_counted.specs.contracts.key.KeyOrd.TheImpl.Laws.{total-law}

abbrev pub key_cmp : Key → Key → Ordering
key_cmp = (key_ord.ghosts).cmp

pub key_cmp-total : IsTotalOrder key_cmp
key_cmp-total = total-law

-- both orders tie
pub both_equal : (a b : Ordering) → ordering_then a b ≡ Equal → (a ≡ Equal) × (b ≡ Equal)
both_equal Equal b h = (refl, h)
both_equal Less b h = cc
both_equal Greater b h = cc

pub key_cmp-exact : (a b : Key) → key_cmp a b ≡ Equal → a ≡ b
key_cmp-exact Missing Missing h = refl
key_cmp-exact (Int i) (Int j) h = ap (λ x. Int x) (exact_signed i j h)
key_cmp-exact (Atom a) (Atom b) h = ap (λ x. Atom x) (exact_bytes a b h)
key_cmp-exact (Func f j) (Func g k) h =
    let p = both_equal (slice_cmp nat_cmp f g) (nat_cmp j k) h in
    λ i. Func (exact_bytes f g p.0 i) (exact_unsigned j k p.1 i)
key_cmp-exact Missing (Int j) h = cc
key_cmp-exact Missing (Atom b) h = cc
key_cmp-exact Missing (Func g k) h = cc
key_cmp-exact (Int i) Missing h = cc
key_cmp-exact (Int i) (Atom b) h = cc
key_cmp-exact (Int i) (Func g k) h = cc
key_cmp-exact (Atom a) Missing h = cc
key_cmp-exact (Atom a) (Int j) h = cc
key_cmp-exact (Atom a) (Func g k) h = cc
key_cmp-exact (Func f j) Missing h = cc
key_cmp-exact (Func f j) (Int i) h = cc
key_cmp-exact (Func f j) (Atom b) h = cc

tie_decides : (a b : Key) → Decides (is_eq (key_cmp a b)) (a ≡ b)
tie_decides a b = (λ e. key_cmp-exact a b ((Equal-is (key_cmp a b)).0 e), λ e. subst (λ x. is_eq (key_cmp a x) ≡ true) e (ap is_eq (tied_itself key_cmp-total a)))

-- the order ties where the keys are the same
pub key_cmp-is_eq : (a b : Key) → is_eq (key_cmp a b) ≡ key_eq a b
key_cmp-is_eq a b = both_ways (is_eq (key_cmp a b)) (key_eq a b) (λ e. (key_eq-Decides a b).1 ((tie_decides a b).0 e)) (λ e. (tie_decides a b).1 ((key_eq-Decides a b).0 e))
