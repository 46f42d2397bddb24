use Rattle.std.proofs.lemmas.Result.{err_from_is_err_and}
use Rattle.cp_code.specs.Requests.{full_name}
use Rattle.cp_request.proofs.engines.post_goal.Goals as goal

pub returns-in_err-check_post-clause-asks : goal.returns-in_err-check_post-clause-asks
returns-in_err-check_post-clause-asks c =
    let p = err_from_is_err_and c.from_residual.result c.from_residual.ensures.1 in
    rw (p.1, p.2) (c.in_err-check_post.ensures c.args.outer.now (full_name c.args.context.now))
