use Rattle.std.proofs.Common.{◌≡◌, ◌∙◌, ap, subst}
use Rattle.std.specs.Prelude.{IfOk}
use Rattle.std.specs.Int.{w64}
use Rattle.std.specs.Fmt.{signed_decimal}
use Rattle.std.proofs.lemmas.Int.{to_z-of_z}
use Rattle.std.proofs.lemmas.Str.{chars-IsAscii}
use Rattle.cp_heap.specs.declared.reference.Ref.{Ref}
use Rattle.cp_heap.specs.State.{term}
use Rattle.cp_goal.specs.Builtins.{codes_term}
use Rattle.cp_lists.proofs.building.digits_list.Goals as goal

pub returns-clause-term : goal.returns-clause-term
returns-clause-term c =
    subst (λ text. IfOk c.codes_list.result (λ (r : Ref). term c.codes_list.new.heap r.at ≡ codes_term text))
    (chars-IsAscii c.format.result.now c.format.ensures.ascii ∙ c.format.ensures.text ∙ ap signed_decimal (to_z-of_z w64 c.args.integer c.ranges.integer))
    c.codes_list.ensures.term
