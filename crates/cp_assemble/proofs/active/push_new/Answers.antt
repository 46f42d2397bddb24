use Rattle.std.proofs.Common.{◌≡◌, true, false, ◌∙◌}
use Rattle.std.specs.List.{list_any}
use Rattle.cp_term.specs.PredNameEq.{pred_name_eq}
use Rattle.cp_assemble.proofs.DistinctLaws.{preds_there, preds_new}
use Rattle.cp_assemble.proofs.active.push_new.Goals as goal

pub returns-then-there : goal.returns-then-there
returns-then-there c = λ before e.
    let h : list_any (pred_name_eq c.args.pred) c.args.all.now ≡ true = cc in
    preds_there before c.args.all.now c.args.pred e h

pub returns : goal.returns
returns c = λ before e.
    let h : list_any (pred_name_eq c.args.pred) c.args.all.now ≡ false = cc in
    c.in_ok-push.ensures.ok ∙ preds_new before c.args.all.now c.args.pred e h
