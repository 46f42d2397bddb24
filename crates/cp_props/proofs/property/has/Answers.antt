use Rattle.std.proofs.Common.{map, sym, ◌∙◌}
use Rattle.cp_heap.specs.State.{instance_at}
use Rattle.cp_code.specs.Programs.{type_of}
use Rattle.cp_props.proofs.Searching.{has_language}
use Rattle.cp_props.proofs.property.has.Goals as goal

pub returns-in-Some : goal.returns-in-Some
returns-in-Some c =
    sym (has_language (map type_of c.args.types.now) c.args.name.now (instance_at c.args.heap.now c.args.at.at) c.in-Some.answer (sym c.in_ok-answer.ensures ∙ c.in-Some.is))
