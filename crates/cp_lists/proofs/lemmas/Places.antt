-- Places of a heap, and one place more.
use Rattle.std.proofs.Common.{◌≡◌, ◌<◌, List, [], ◌∷◌, ◌++◌, length, ◌∙◌, ap, sym}
use Rattle.std.proofs.lemmas.List.{map-append}
use Rattle.std.proofs.lemmas.List.Elements.{All-push}
use Rattle.cp_heap.specs.declared.reference.Ref.{Ref}
use Rattle.cp_heap.specs.State.{State, instance_at, AreRefs}
use Rattle.cp_goal.specs.Lists.{spine}
use Rattle.cp_lists.specs.Places.{instances}
use Rattle.cp_lists.specs.Steps.{behind, Begins}
use Rattle.cp_lists.proofs.lemmas.Spines.{behind-push}

pub live-push : (h : State) (places : List Ref) (r : Ref) → AreRefs h places → r.at < length h.terms → AreRefs h (places ++ r ∷ [])
live-push h places r all one = All-push (λ r. r.at < length h.terms) places r all one

pub instances-push : (h : State) (places : List Ref) (r : Ref) → instances h (places ++ r ∷ []) ≡ instances h places ++ instance_at h r.at ∷ []
instances-push h places r = map-append (λ r. instance_at h r.at) places (r ∷ [])

-- one element further along a list
pub further : (h : State) (at : Ref) (places : List Ref) (tail head next : Ref)
    → spine (instance_at h at.at) ≡ behind (instances h places) (spine (instance_at h tail.at))
    → Begins h (instance_at h tail.at) head next
    → spine (instance_at h at.at) ≡ behind (instances h (places ++ head ∷ [])) (spine (instance_at h next.at))
further h at places tail head next is first =
    is ∙ ap (behind (instances h places)) first.is
    ∙ sym (behind-push (instances h places) (instance_at h head.at) (spine (instance_at h next.at)))
    ∙ ap (λ ts. behind ts (spine (instance_at h next.at))) (sym (instances-push h places head))
