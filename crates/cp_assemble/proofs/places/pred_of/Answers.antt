use Rattle.std.proofs.Common.{◌∙◌, ap, sym}
use Rattle.cp_module.specs.Causes.{pred_of}
use Rattle.cp_link.specs.Modules.{own_preds}
use Rattle.cp_assemble.proofs.IndexLaws.{own_one, popped}
use Rattle.cp_assemble.proofs.places.pred_of.Goals as goal

pub returns : goal.returns
returns c =
    let x = c.args.clause.now in
    popped (pred_of x) c.pop-found.result c.in_ok-preds.preds c.pop-found.new.self c.pop-found.ensures
    (c.in_ok-preds.ensures ∙ ap own_preds c.from_ref.ensures.value ∙ own_one x (sym c.is_declaration.ensures ∙ c.if-is_declaration.false))
