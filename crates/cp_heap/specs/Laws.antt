-- What holds of heaps.
use Rattle.std.specs.Prelude.{◌≡◌, ℕ, ◌<◌, ◌≤◌, length}
use Rattle.cp_term.specs.Numbering.{next_variable}
use Rattle.cp_term.specs.Substitution.{apply}
use Rattle.cp_heap.specs.State.{State, term, substitution, IsWellFormed, Extends, instance_at}

-- an instance has variables of the heap alone
abbrev pub InstancesHaveTheVariables : Type 0
InstancesHaveTheVariables = (h : State) → IsWellFormed h → (at : ℕ) → at < length h.terms → next_variable (instance_at h at) ≤ h.variables

-- an instance has no bound variable any more: the bindings leave it as it is
abbrev pub InstancesHaveNoBoundVariable : Type 0
InstancesHaveNoBoundVariable = (h : State) → IsWellFormed h → (at : ℕ) → apply (substitution h) (instance_at h at) ≡ instance_at h at

-- a heap has grown to itself
abbrev pub HeapsExtendThemselves : Type 0
HeapsExtendThemselves = (h : State) → Extends h h

-- what has grown to a heap has grown to all that this one grows to
abbrev pub ExtensionsFollow : Type 0
ExtensionsFollow = (a b c : State) → Extends a b → Extends b c → Extends a c

-- a term keeps its place
abbrev pub TermsStay : Type 0
TermsStay = (old new : State) → Extends old new → (at : ℕ) → at < length old.terms → (at < length new.terms) × (term new at ≡ term old at)
