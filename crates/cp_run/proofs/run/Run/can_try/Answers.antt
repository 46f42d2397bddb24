use Rattle.std.proofs.Common.{◌∙◌, ap}
use Rattle.cp_code.specs.Clauses.{head_of, first_argument, can_match}
use Rattle.cp_run.specs.Shown.{bound, instance_in, here_of}
use Rattle.cp_run.proofs.run.Run.can_try.Goals as goal

pub returns : goal.returns
returns c refused next =
    let head = head_of c.args.clause.now.whole in
    c.candidates_are_enough.ensures.alone (bound (here_of c.args.self.now)) next (instance_in (here_of c.args.self.now) c.args.goal.at) head
    (ap (λ x. can_match (first_argument x) (first_argument head))
    (c.instances_have_the_variables_of_the_heap.ensures.unbound c.args.self.now.heap c.mark-mark.ensures.well_formed c.args.goal.at)
    ∙ c.may_match.ensures refused)
