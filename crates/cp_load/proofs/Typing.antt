-- Regular types by the names that are declared so far are those of the files.
use Rattle.std.proofs.Common.{◌≡◌, ℕ, ◌+◌, ◌<◌, refl, sym, ap, ◌∙◌, Bool, true, false, Option, Some, None, List, [], ◌∷◌, ◌++◌, length, get_or, take, drop, append-nil, append_assoc}
use Rattle.std.specs.Prelude.{◌&&◌, ◌||◌, nat_eq, filter}
use Rattle.std.specs.List.{list_any, flat_map}
use Rattle.std.specs.Str.{bytes_eq}
use Rattle.std.proofs.lemmas.Grind.{flat_map-append}
use Rattle.std.proofs.lemmas.List.Folds.{list_any-append}
use Rattle.cp_read.specs.declared.clause.ReadClause.{ReadClause}
use Rattle.cp_code.specs.declared.clause.Clause.{Clause}
use Rattle.cp_code.specs.declared.type_row.TypeRow.{TypeRow}
use Rattle.cp_declaration.specs.declared.declaration.Declaration.{Declaration}
use Rattle.cp_declaration.specs.declared.declaration.Declaration.TheVariants as declares
use Rattle.cp_declaration.specs.declared.indicator.Indicator.{Indicator}
use Rattle.cp_module.specs.declared.cause.Cause.{Cause}
use Rattle.cp_module.specs.declared.refusal.Refusal.{Refusal}
use Rattle.cp_module.specs.declared.why.Why.TheVariants as why
use Rattle.cp_module.specs.Parts.{Part}
use Rattle.cp_module.specs.Causes.{pred_of, unless, cause_on, least}
use Rattle.cp_module.specs.Least.{soonest}
use Rattle.cp_link.specs.Kept.{fault_of}
use Rattle.cp_link.specs.Modules.{said, one, distinct}
use Rattle.cp_link.specs.Refusals.{or_later}
use Rattle.cp_assertion.specs.RegularTypes.{first_irregular, given}
use Rattle.cp_load.specs.Types.{declares_type, is_declared, again, declared_again, is_type_in, type_clauses, irregular, with_types, irregular_types, type_order, causes_in, fault_from, type_fault, typed}
use Rattle.cp_load.specs.Typing.{type_name, declared_names, is_name_in, is_again, again_in, is_type_named, with_type}
use Rattle.cp_load.proofs.LeastLaws.{least-append, least_past}
use Rattle.cp_load.proofs.StepLaws.{taken, flat_mapped, split}
use Rattle.cp_load.proofs.DistinctLaws.{kind_more}

-- ---- names

or_none : (b : Bool) → (b || false) ≡ b
or_none true = refl
or_none false = refl

declares_it : (d : Option Declaration) (t : List ℕ) → is_name_in (one (type_name d)) t ≡ declares_type t d
declares_it (Some (declares.RegType name)) t = or_none (bytes_eq name t)
declares_it other t = refl

pub names_declared : (clauses : List ReadClause) (t : List ℕ) → is_name_in (declared_names clauses) t ≡ is_declared clauses t
names_declared [] t = refl
names_declared (c ∷ clauses) t =
    list_any-append (λ n. bytes_eq n t) (one (type_name (said c))) (declared_names clauses)
    ∙ (λ i. declares_it (said c) t i || names_declared clauses t i)

-- the names that the clauses of files declare
abbrev pub names_of : List Part → List (List ℕ)
names_of parts = flat_map (λ (p : Part). declared_names p.clauses) parts

names_of_declared : (parts : List Part) (t : List ℕ) → is_name_in (names_of parts) t ≡ list_any (λ (p : Part). is_declared p.clauses t) parts
names_of_declared [] t = refl
names_of_declared (p ∷ parts) t =
    list_any-append (λ n. bytes_eq n t) (declared_names p.clauses) (names_of parts)
    ∙ (λ i. names_declared p.clauses t i || names_of_declared parts t i)

again_same : (before : List Part) (above : List ReadClause) (names : List (List ℕ)) (d : Option Declaration) → names ≡ names_of before ++ declared_names above → is_again names d ≡ again before above d
again_same before above names (Some (declares.RegType t)) e =
    ap (λ ns. is_name_in ns t) e ∙ list_any-append (λ n. bytes_eq n t) (names_of before) (declared_names above)
    ∙ (λ i. names_of_declared before t i || names_declared above t i)
again_same before above names other e = refl

one_behind : (above : List ReadClause) (c : ReadClause) → declared_names above ++ one (type_name (said c)) ≡ declared_names (above ++ c ∷ [])
one_behind above c =
    ap (λ ns. declared_names above ++ ns) (sym (append-nil (one (type_name (said c)))))
    ∙ sym (flat_map-append (λ (d : ReadClause). one (type_name (said d))) above (c ∷ []))

in_names : (before : List Part) (above clauses : List ReadClause) (names : List (List ℕ)) → names ≡ names_of before ++ declared_names above → again_in names clauses ≡ declared_again before above clauses
in_names before above [] names e = refl
in_names before above (c ∷ clauses) names e =
    let more : names ++ one (type_name (said c)) ≡ names_of before ++ declared_names (above ++ c ∷ [])
    = ap (λ ns. ns ++ one (type_name (said c))) e ∙ append_assoc (names_of before) (declared_names above) (one (type_name (said c))) ∙ ap (λ ns. names_of before ++ ns) (one_behind above c) in
    let first = again_same before above names (said c) e in
    let rest = in_names before (above ++ c ∷ []) clauses (names ++ one (type_name (said c))) more in
    λ i. cause_on c.line (unless (first i) why.NotRegular None) ++ rest i

-- past a clause
pub record AreNamed (before : List (List ℕ)) (clauses : List ReadClause) (names : List (List ℕ)) (cause : Option Cause) (i : ℕ) : Type 0 where
  pub names_are : names ≡ before ++ declared_names (take i clauses)
  pub causes : soonest cause (least (again_in names (drop i clauses))) ≡ least (again_in before clauses)

pub named_next : (before : List (List ℕ)) (clauses : List ReadClause) (names now : List (List ℕ)) (cause found : Option Cause) (i : ℕ) (c : ReadClause) → i < length clauses → c ≡ get_or clauses i c
    → now ≡ names ++ one (type_name (said c)) → found ≡ soonest cause (least (cause_on c.line (unless (is_again names (said c)) why.NotRegular None))) → AreNamed before clauses names cause i
    → AreNamed before clauses now found (i + 1)
named_next before clauses names now cause found i c lt is_c is_now is_found n = record {
  names_are =
      is_now ∙ ap (λ ns. ns ++ one (type_name (said c))) n.names_are ∙ append_assoc before (declared_names (take i clauses)) (one (type_name (said c)))
      ∙ ap (λ ns. before ++ ns) (flat_mapped (λ (d : ReadClause). one (type_name (said d))) clauses i c lt is_c);
  causes =
      ap (λ ns. soonest found (least (again_in ns (drop (i + 1) clauses)))) is_now
      ∙ least_past cause found (least (again_in before clauses)) (cause_on c.line (unless (is_again names (said c)) why.NotRegular None)) (again_in (names ++ one (type_name (said c))) (drop (i + 1) clauses))
      (ap (λ cs. soonest cause (least (again_in names cs))) (sym (split clauses i c lt is_c)) ∙ n.causes) is_found;
}

-- ---- the order of the types

type_named : (clauses : List ReadClause) (names : List (List ℕ)) (i : Indicator) → names ≡ declared_names clauses → is_type_named names i ≡ is_type_in clauses i
type_named clauses names i e = ap (λ b. nat_eq i.arity 1 && b) (ap (λ ns. is_name_in ns i.name) e ∙ names_declared clauses i.name)

abbrev pub preds_of : List ReadClause → List Indicator
preds_of clauses = flat_map (λ c. one (pred_of c)) clauses

type_more : (clauses : List ReadClause) (names : List (List ℕ)) (xs order : List Indicator) (o : Option Indicator) → names ≡ declared_names clauses → order ≡ filter (is_type_in clauses) (distinct xs)
    → with_type names order o ≡ filter (is_type_in clauses) (distinct (xs ++ one o))
type_more clauses names xs order None e h = h ∙ ap (λ ys. filter (is_type_in clauses) (distinct ys)) (sym (append-nil xs))
type_more clauses names xs order (Some i) e h = kind_more (is_type_in clauses) xs order i (is_type_named names i) (type_named clauses names i e) h

pub order_next : (clauses : List ReadClause) (names : List (List ℕ)) (order now : List Indicator) (i : ℕ) (c : ReadClause) → i < length clauses → c ≡ get_or clauses i c → names ≡ declared_names clauses
    → now ≡ with_type names order (pred_of c) → order ≡ filter (is_type_in clauses) (distinct (preds_of (take i clauses))) → now ≡ filter (is_type_in clauses) (distinct (preds_of (take (i + 1) clauses)))
order_next clauses names order now i c lt is_c e is_now h =
    is_now ∙ type_more clauses names (preds_of (take i clauses)) order (pred_of c) e h
    ∙ ap (λ ys. filter (is_type_in clauses) (distinct ys)) (flat_mapped (λ d. one (pred_of d)) clauses i c lt is_c)

-- ---- the rows of a file

pub record AreGiven (before : List TypeRow) (p : Part) (order : List Indicator) (types : List TypeRow) (cause : Option Cause) (rest : List Indicator) : Type 0 where
  pub causes : soonest cause (least (irregular_types types p rest)) ≡ least (irregular_types before p order)
  pub rows : with_types types p rest ≡ with_types before p order

pub given_next : (before : List TypeRow) (p : Part) (order : List Indicator) (types now : List TypeRow) (cause found here : Option Cause) (i : ℕ) (pred : Indicator) (own : List Clause)
    → i < length order → pred ≡ get_or order i pred → own ≡ type_clauses p pred → here ≡ least (irregular own (first_irregular types pred.name own)) → found ≡ soonest cause here
    → now ≡ given types pred.name own → AreGiven before p order types cause (drop i order) → AreGiven before p order now found (drop (i + 1) order)
given_next before p order types now cause found here i pred own lt is_pred is_own is_here is_found is_now g =
    let rest = drop (i + 1) order in
    let cs = type_clauses p pred in
    let next : now ≡ given types pred.name cs = is_now ∙ ap (given types pred.name) is_own in
    let counts : found ≡ soonest cause (least (irregular cs (first_irregular types pred.name cs)))
    = is_found ∙ ap (soonest cause) (is_here ∙ ap (λ o. least (irregular o (first_irregular types pred.name o))) is_own) in
    record {
      causes =
          ap (λ ts. soonest found (least (irregular_types ts p rest))) next
          ∙ least_past cause found (least (irregular_types before p order)) (irregular cs (first_irregular types pred.name cs)) (irregular_types (given types pred.name cs) p rest)
          (ap (λ is. soonest cause (least (irregular_types types p is))) (sym (split order i pred lt is_pred)) ∙ g.causes) counts;
      rows = ap (λ ts. with_types ts p rest) next ∙ ap (λ is. with_types types p is) (sym (split order i pred lt is_pred)) ∙ g.rows;
    }

-- ---- the types of all files

pub record AreTyped (before : List TypeRow) (parts : List Part) (names : List (List ℕ)) (types : List TypeRow) (i : ℕ) : Type 0 where
  pub names_are : names ≡ names_of (take i parts)
  pub faults : fault_from types (take i parts) (drop i parts) ≡ type_fault before parts
  pub rows : typed types (drop i parts) ≡ typed before parts

abbrev pub cause_in : List TypeRow → (names : List (List ℕ)) → Part → Option Cause
cause_in types names p = soonest (least (again_in names p.clauses)) (least (irregular_types types p (type_order p.clauses)))

pub none_typed : (types : List TypeRow) (parts : List Part) (names : List (List ℕ)) → names ≡ [] → AreTyped types parts names types 0
unfolding type_fault
none_typed types [] names e = record { names_are = e; faults = refl; rows = refl }
none_typed types (p ∷ parts) names e = record { names_are = e; faults = refl; rows = refl }

cause_same : (before : List Part) (types : List TypeRow) (names : List (List ℕ)) (p : Part) → names ≡ names_of before → cause_in types names p ≡ least (causes_in types before p)
cause_same before types names p e =
    ap (λ cs. soonest (least cs) (least (irregular_types types p (type_order p.clauses)))) (in_names before [] p.clauses names (e ∙ sym (append-nil (names_of before))))
    ∙ sym (least-append (declared_again before [] p.clauses) (irregular_types types p (type_order p.clauses)))

-- the faults from a file on
from_file : (types : List TypeRow) (parts : List Part) (i : ℕ) (p : Part) → i < length parts → p ≡ get_or parts i p
    → fault_from types (take i parts) (drop i parts) ≡ or_later p.file (least (causes_in types (take i parts) p)) (fault_from (with_types types p (type_order p.clauses)) (take (i + 1) parts) (drop (i + 1) parts))
from_file types parts i p lt is_p =
    ap (fault_from types (take i parts)) (split parts i p lt is_p)
    ∙ ap (λ ps. or_later p.file (least (causes_in types (take i parts) p)) (fault_from (with_types types p (type_order p.clauses)) ps (drop (i + 1) parts))) (taken parts i p lt is_p)

typed_file : (types : List TypeRow) (p : Part) (parts : List Part) → typed types (p ∷ parts) ≡ typed (with_types types p (type_order p.clauses)) parts
unfolding typed
typed_file types p parts = refl

pub typed_next : (before : List TypeRow) (parts : List Part) (names more : List (List ℕ)) (types now : List TypeRow) (i : ℕ) (p : Part) → i < length parts → p ≡ get_or parts i p
    → None ≡ cause_in types names p → now ≡ with_types types p (type_order p.clauses) → more ≡ names ++ declared_names p.clauses → AreTyped before parts names types i → AreTyped before parts more now (i + 1)
typed_next before parts names more types now i p lt is_p none is_now is_more t =
    let order = type_order p.clauses in
    let causes : least (causes_in types (take i parts) p) ≡ None = sym (cause_same (take i parts) types names p t.names_are) ∙ sym none in
    record {
      names_are = is_more ∙ ap (λ ns. ns ++ declared_names p.clauses) t.names_are ∙ flat_mapped (λ (q : Part). declared_names q.clauses) parts i p lt is_p;
      faults =
          ap (λ ts. fault_from ts (take (i + 1) parts) (drop (i + 1) parts)) is_now
          ∙ ap (λ o. or_later p.file o (fault_from (with_types types p order) (take (i + 1) parts) (drop (i + 1) parts))) (sym causes)
          ∙ sym (from_file types parts i p lt is_p) ∙ t.faults;
      rows = ap (λ ts. typed ts (drop (i + 1) parts)) is_now ∙ sym (typed_file types p (drop (i + 1) parts)) ∙ ap (typed types) (sym (split parts i p lt is_p)) ∙ t.rows;
    }

pub typed_refused : (before : List TypeRow) (parts : List Part) (names : List (List ℕ)) (types : List TypeRow) (i : ℕ) (p : Part) (cause : Cause) (r : Refusal) → i < length parts → p ≡ get_or parts i p
    → Some cause ≡ cause_in types names p → fault_of r ≡ record { file = p.file; cause = cause } → AreTyped before parts names types i → Some (fault_of r) ≡ type_fault before parts
typed_refused before parts names types i p cause r lt is_p found is_r t =
    let causes : least (causes_in types (take i parts) p) ≡ Some cause = sym (cause_same (take i parts) types names p t.names_are) ∙ sym found in
    let rest = fault_from (with_types types p (type_order p.clauses)) (take (i + 1) parts) (drop (i + 1) parts) in
    ap Some is_r ∙ ap (λ o. or_later p.file o rest) (sym causes) ∙ sym (from_file types parts i p lt is_p) ∙ t.faults

no_more : (types : List TypeRow) (before rest : List Part) → rest ≡ [] → (fault_from types before rest ≡ None) × (typed types rest ≡ types)
unfolding typed
no_more types before rest e =
    (ap (fault_from types before) e, ap (typed types) e)

pub all_typed : (before : List TypeRow) (parts : List Part) (names : List (List ℕ)) (types : List TypeRow) (i : ℕ) → drop i parts ≡ [] → AreTyped before parts names types i → (None ≡ type_fault before parts) × (types ≡ typed before parts)
all_typed before parts names types i e t =
    let n = no_more types (take i parts) (drop i parts) e in
    (sym n.0 ∙ t.faults, sym n.1 ∙ t.rows)
