use Rattle.std.proofs.Common.{◌≡◌, [], length, map, get_or, sym, ◌∙◌, ap, arith}
use Rattle.cp_term.specs.Preorder.{arguments}
use Rattle.cp_heap.specs.State.{substitution, instance_at}
use Rattle.cp_builtin.proofs.ListLaws.{length-instances}
use Rattle.cp_props.specs.Checks.{check_shown}
use Rattle.cp_calls.proofs.GoalLaws.{instance-arguments}
use Rattle.cp_calls.proofs.CheckLaws.{more-arguments}
use Rattle.cp_calls.proofs.exits.broken_at.Goals as goal

pub broken_exit-requires-clause-named : goal.broken_exit-requires-clause-named
broken_exit-requires-clause-named c =
    let h = c.args.run.now.heap in
    let t = get_or h.terms c.args.goal.at [] in
    let e : length c.in_ok-args.args ≡ length (arguments (instance_at h c.args.goal.at)) = sym (length-instances h c.in_ok-args.args) ∙ ap length c.in_ok-args.ensures.instances in
    let le = instance-arguments (substitution h) t in
    more-arguments (length (arguments t)) (length c.in_ok-args.args) (map check_shown c.args.checks.now) (omega arith) c.requires.named
