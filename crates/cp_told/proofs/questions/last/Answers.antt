use Rattle.std.proofs.Common.{rules, ◌<◌, length}
use Rattle.cp_call.specs.declared.item.Next.TheVariants as request
use Rattle.cp_told.proofs.QuestionLaws.{some-frames}
use Rattle.cp_told.proofs.questions.last.Goals as goal

pub returns : goal.returns
returns c code =
    let some : 0 < length c.args.run.now.frames.items = search rules in
    some-frames code c.args.run.now (request.End c.args.how) some
