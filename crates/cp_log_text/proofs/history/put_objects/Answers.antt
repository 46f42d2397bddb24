use Rattle.std.proofs.Common.{ℕ, List, ◌++◌, take, ap, ◌∙◌}
use Rattle.std.specs.List.{flat_map}
use Rattle.cp_call.specs.declared.outcome.PredEnd.{PredEnd}
use Rattle.cp_log_text.specs.Line.{lines_text}
use Rattle.cp_log_text.specs.History.{object_lines}
use Rattle.cp_log_text.proofs.Parts.{taken}
use Rattle.cp_log_text.proofs.Texts.{more_blocks}
use Rattle.cp_log_text.proofs.history.put_objects.Goals as goal

pub objects-preserved : goal.objects-preserved
objects-preserved c =
    let xs = c.args.objects.now in
    let i = c.objects.object-index in
    let x = c.object-item.result in
    c.in_ok-put_object.ensures
    ∙ ap (λ (t : List ℕ). t ++ lines_text (object_lines x)) c.objects.invariant
    ∙ more_blocks object_lines c.args.log.now (take i xs) x
    ∙ ap (λ (ys : List PredEnd). c.args.log.now ++ lines_text (flat_map object_lines ys)) (taken xs i x c.object-item.is c.objects-test.true)
