use Rattle.std.proofs.Common.{◌≡◌, [], drop, sym, ◌∙◌, ap, arith}
use Rattle.cp_code.specs.Requests.{full_name}
use Rattle.cp_request.specs.Told.{remote_shown}
use Rattle.cp_run.specs.Shown.{here_of, instance_in, moved}
use Rattle.cp_calls.specs.Rows.{gives_row}
use Rattle.cp_calls.proofs.RemoteLaws.{drop-past}
use Rattle.cp_calls.proofs.giving.give.Goals as goal

pub returns-clause-moved : goal.returns-clause-moved
returns-clause-moved c code =
    let r = c.args.run.now in
    let e = c.len.ensures in
    let past = c.if-from-len.false in
    let none : drop c.args.from c.args.answer.answers ≡ [] = drop-past c.args.answer.answers c.args.from (omega arith) in
    c.in_ok-follow.ensures.moved code c.args.level
    ∙ sym (ap (λ ts. moved code r c.args.rest c.args.level (gives_row ts (remote_shown c.args.pred c.args.answer.behind) (instance_in (here_of r) c.args.goal.at) (full_name c.args.pred))) none)
