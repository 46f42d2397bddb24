use Rattle.std.proofs.lemmas.Result.{err_from_is_err_and}
use Rattle.cp_heap.specs.State.{instance_at}
use Rattle.cp_request.proofs.engines.check_post.Goals as goal

pub returns-in_err-check_goal : goal.returns-in_err-check_goal
returns-in_err-check_goal c =
    let p = err_from_is_err_and c.from_residual.result c.from_residual.ensures.1 in
    let h = c.args.heap.now in
    rw (p.1, p.2) (λ m ctx. c.in_err-check_goal.ensures m (instance_at h c.args.post.goal.at) (instance_at h c.args.post.engine.at) (instance_at h c.args.post.thread.at) (instance_at h c.args.post.id.at) ctx)
