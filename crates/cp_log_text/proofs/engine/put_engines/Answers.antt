use Rattle.std.proofs.Common.{ℕ, List, ◌++◌, take, ap, ◌∙◌}
use Rattle.std.specs.List.{flat_map}
use Rattle.cp_call.specs.declared.outcome.EngineEnd.{EngineEnd}
use Rattle.cp_log_text.specs.Line.{lines_text}
use Rattle.cp_log_text.specs.Engine.{engine_lines}
use Rattle.cp_log_text.proofs.Parts.{taken}
use Rattle.cp_log_text.proofs.Texts.{more_blocks}
use Rattle.cp_log_text.proofs.Elements.{all_at}
use Rattle.cp_log_text.specs.Log.{is_worker}
use Rattle.cp_log_text.proofs.engine.put_engines.Goals as goal

pub engines-preserved : goal.engines-preserved
engines-preserved c =
    let xs = c.args.engines.now in
    let i = c.engines.engine-index in
    let x = c.engine-item.result in
    c.in_ok-put_engine.ensures
    ∙ ap (λ (t : List ℕ). t ++ lines_text (engine_lines x)) c.engines.invariant
    ∙ more_blocks engine_lines c.args.log.now (take i xs) x
    ∙ ap (λ (ys : List EngineEnd). c.args.log.now ++ lines_text (flat_map engine_lines ys)) (taken xs i x c.engine-item.is c.engines-test.true)

pub put_engine-requires : goal.put_engine-requires
put_engine-requires c = all_at is_worker c.args.engines.now c.engines.engine-index _ c.requires c.engine-item.is c.engines-test.true
