use Rattle.std.proofs.Common.{◌∙◌, sym}
use Rattle.std.specs.Prelude.{get_or, []}
use Rattle.cp_heap.specs.State.{terms_at}
use Rattle.cp_code.specs.Requests.{full_name}
use Rattle.cp_request.specs.Seen.{seen_shown}
use Rattle.cp_run.specs.Shown.{bound, frames_of, goals_shown, here_of}
use Rattle.cp_enter.proofs.EnterLaws.{unbound-goal}
use Rattle.cp_enter.proofs.entering.enter.Goals as goal

pub returns-then-is_unbound-clause-moved : goal.returns-then-is_unbound-clause-moved
returns-then-is_unbound-clause-moved c code =
    let r = c.args.run.now in
    c.in_ok-raise_unbound.ensures.moved code c.args.level
    ∙ unbound-goal c.args.seer.now (get_or r.heap.terms c.args.goal.at []) (terms_at r.heap c.args.extra.now) (full_name c.args.context.now)
    (goals_shown (here_of r) c.args.rest) (bound (here_of r)) r.heap.variables c.args.level r.units r.copies (frames_of code r)
    (seen_shown r.heap c.args.seer.now c.of-seen.result) (c.of-seen.ensures.seen c.args.seer.now) (sym c.is_unbound.ensures ∙ c.if-is_unbound.true)
