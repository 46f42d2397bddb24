use Rattle.std.proofs.Common.{◌∙◌, ap}
use Rattle.cp_module.specs.Causes.{is_in}
use Rattle.cp_assemble.proofs.IndexLaws.{is_shared_in}
use Rattle.cp_assemble.proofs.kinds.is_shared.Goals as goal

pub returns : goal.returns
returns c =
    let i = c.args.pred.now in
    c.is_in.ensures ∙ ap (λ ps. is_in ps i) c.requires ∙ is_shared_in c.args.part.now.clauses i
