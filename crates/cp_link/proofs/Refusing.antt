-- How far the files of a program are looked at.
use Rattle.std.proofs.Common.{◌≡◌, ℕ, refl, sym, ap, ◌∙◌, Some, None, Option, List, [], ◌∷◌, ◌++◌, ◌+◌, ◌<◌, ◌≤◌, length, get_or, take, drop}
use Rattle.std.proofs.lemmas.List.{drop_more, take_more}
use Rattle.cp_module.specs.declared.refusal.Refusal.{Refusal}
use Rattle.cp_module.specs.declared.cause.Cause.{Cause}
use Rattle.cp_module.specs.Parts.{Part}
use Rattle.cp_link.specs.Refusals.{Fault, part_cause, or_later, refused, refused_from}
use Rattle.cp_link.specs.Kept.{fault_of}
use Rattle.cp_link.proofs.Passing.{drop_past}

pub at_first : (parts : List Part) → refused_from parts (take 0 parts) (drop 0 parts) ≡ refused parts
unfolding refused
at_first [] = refl
at_first (p ∷ parts) = refl

split : (parts : List Part) (i : ℕ) (p : Part) → i < length parts → p ≡ get_or parts i p → drop i parts ≡ p ∷ drop (i + 1) parts
split parts i p lt is_p = drop_more parts i p lt ∙ ap (λ x. x ∷ drop (i + 1) parts) (sym is_p)

as_later : (file : List ℕ) (x : Option Cause) (later : Option Fault) (r : Refusal) → Some (fault_of r) ≡ or_later file x None → Some (fault_of r) ≡ or_later file x later
as_later file (Some c) later r h = h
as_later file None later r h = cc

is_none : (file : List ℕ) (x : Option Cause) (later : Option Fault) → None ≡ or_later file x None → later ≡ or_later file x later
is_none file (Some c) later h = cc
is_none file None later h = refl

pub found_at : (parts : List Part) (i : ℕ) (p : Part) (r : Refusal) → i < length parts → p ≡ get_or parts i p
    → Some (fault_of r) ≡ or_later p.file (part_cause parts (take i parts) p) None
    → refused_from parts (take i parts) (drop i parts) ≡ refused parts → Some (fault_of r) ≡ refused parts
found_at parts i p r lt is_p h so_far =
    as_later p.file (part_cause parts (take i parts) p) (refused_from parts (take i parts ++ p ∷ []) (drop (i + 1) parts)) r h
    ∙ ap (refused_from parts (take i parts)) (sym (split parts i p lt is_p)) ∙ so_far

pub none_at : (parts : List Part) (i : ℕ) (p : Part) → i < length parts → p ≡ get_or parts i p
    → None ≡ or_later p.file (part_cause parts (take i parts) p) None
    → refused_from parts (take i parts) (drop i parts) ≡ refused parts → refused_from parts (take (i + 1) parts) (drop (i + 1) parts) ≡ refused parts
none_at parts i p lt is_p h so_far =
    ap (λ xs. refused_from parts xs (drop (i + 1) parts)) (take_more parts i p lt ∙ ap (λ x. take i parts ++ x ∷ []) (sym is_p))
    ∙ is_none p.file (part_cause parts (take i parts) p) (refused_from parts (take i parts ++ p ∷ []) (drop (i + 1) parts)) h
    ∙ ap (refused_from parts (take i parts)) (sym (split parts i p lt is_p)) ∙ so_far

pub none_in_all : (parts : List Part) (i : ℕ) → length parts ≤ i → refused_from parts (take i parts) (drop i parts) ≡ refused parts → None ≡ refused parts
none_in_all parts i past so_far = ap (refused_from parts (take i parts)) (sym (drop_past parts i past)) ∙ so_far
