use Rattle.std.proofs.Common.{◌∙◌, ap}
use Rattle.cp_run.specs.declared.run.Run.{Run}
use Rattle.cp_back.proofs.BackLaws.{findall-is}
use Rattle.cp_back.proofs.gathering.back_to_findall.Goals as goal

pub returns-clause-moved : goal.returns-clause-moved
returns-clause-moved c code =
    c.in_ok-collect.ensures.moved code
    ∙ findall-is code c.args.run.now c.take_back.new.run c.args.moment c.replace-copies.result c.args.outer c.replace-copies.new.dest c.args.list c.args.rest c.args.level
    c.take_back.ensures (c.replace-copies.ensures.value ∙ ap (λ (r : Run). r.copies) c.take_back.ensures.state) c.replace-copies.ensures.after
