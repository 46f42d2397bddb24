use Rattle.std.proofs.Common.{sym, ◌∙◌, ap}
use Rattle.std.specs.Prelude.{unwrap_or}
use Rattle.cp_heap.specs.State.{instance_at}
use Rattle.cp_heap.specs.Looks.{name_of}
use Rattle.cp_code.specs.Bodies.{seen_from}
use Rattle.cp_request.specs.Seen.{seer_of}
use Rattle.cp_request.proofs.SeenLaws.{seen-step, seen-other}
use Rattle.cp_request.proofs.seen_goal.SeenGoal.of.Goals as goal

pub modules-preserved : goal.modules-preserved
modules-preserved c =
    let q = c.in-Some.ensures.pair in (
      (q.module_place, q.goal_place),
      λ m. c.modules.invariant.1 m
          ∙ seen-step c.args.heap.now c.modules.seen.goal (c.in-Some.module, c.in-Some.goal) (seer_of c.args.heap.now m c.modules.seen.module) q
          ∙ ap (λ n. seen_from n (instance_at c.args.heap.now c.in-Some.goal.at)) (sym (ap (λ cells. unwrap_or (name_of cells) m) q.module_is)),
    )

pub returns-clause-seen : goal.returns-clause-seen
returns-clause-seen c m =
    c.modules.invariant.1 m
    ∙ seen-other (seer_of c.args.heap.now m c.modules.seen.module) (instance_at c.args.heap.now c.modules.seen.goal.at) c.qualified.ensures.term c.in_default.ensures.pair
