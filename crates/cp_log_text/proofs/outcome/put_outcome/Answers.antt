use Rattle.std.proofs.Common.{List, ◌++◌, length, ap, ◌∙◌}
use Rattle.std.specs.List.{flat_map}
use Rattle.cp_term.specs.declared.cell.Cell.{Cell}
use Rattle.cp_call.specs.declared.outcome.PredEnd.{PredEnd}
use Rattle.cp_call.specs.declared.outcome.OutEntry.{OutEntry}
use Rattle.cp_call.specs.declared.outcome.EngineEnd.{EngineEnd}
use Rattle.cp_log_text.specs.Line.{line_text, lines_text, term_with, word}
use Rattle.cp_log_text.specs.History.{object_lines}
use Rattle.cp_log_text.specs.Port.{port_lines}
use Rattle.cp_log_text.specs.Engine.{engine_lines}
use Rattle.cp_log_text.specs.Log.{head_parts}
use Rattle.cp_log_text.proofs.Texts.{outcome_text}
use Rattle.cp_log_text.proofs.outcome.put_outcome.Goals as goal

pub put_engines-requires : goal.put_engines-requires
put_engines-requires c = rw c.as_slice-3.ensures c.requires

pub returns : goal.returns
returns c =
    let o = c.args.outcome.now in
    outcome_text c.args.log.now c.put.new.self c.put_objects.new.log c.put_port.new.log c.put_engines.new.log c.put_word.new.self _
    (term_with (head_parts o.steps (length o.engines))) (flat_map object_lines o.preds) (port_lines o.port) (flat_map engine_lines o.engines) (word "end")
    (c.in_ok-put.ensures ∙ ap (λ (cells : List Cell). c.args.log.now ++ line_text cells) c.in_ok-line.ensures)
    (c.in_ok-put_objects.ensures ∙ ap (λ (xs : List PredEnd). c.put.new.self ++ lines_text (flat_map object_lines xs)) c.as_slice.ensures)
    (c.in_ok-put_port.ensures ∙ ap (λ (xs : List OutEntry). c.put_objects.new.log ++ lines_text (port_lines xs)) c.as_slice-2.ensures)
    (c.in_ok-put_engines.ensures ∙ ap (λ (xs : List EngineEnd). c.put_port.new.log ++ lines_text (flat_map engine_lines xs)) c.as_slice-3.ensures)
    c.in_ok-put_word.ensures
    (cc)
