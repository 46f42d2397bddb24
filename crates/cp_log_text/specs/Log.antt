-- The log of a run: its first line, then the lines of the shared objects by number, of the output port, and of the engines
-- in order, and the last line.
use Rattle.std.specs.Prelude.{ℕ, Bool, not, ◌&&◌, IsTrue, List, [], ◌∷◌, ◌++◌, length}
use Rattle.std.specs.List.{flat_map, list_all}
use Rattle.std.specs.Str.{is_utf8}
use Rattle.cp_term.specs.declared.cell.Cell.{Cell}
use Rattle.cp_call.specs.declared.outcome.OutEntry.{OutEntry}
use Rattle.cp_call.specs.declared.outcome.EngineEnd.{EngineEnd}
use Rattle.cp_call.specs.declared.outcome.Outcome.{Outcome}
use Rattle.cp_call.specs.Sound.{is_lane}
use Rattle.cp_log_text.specs.Line.{functor, word, number, term_with, lines_text}
use Rattle.cp_log_text.specs.History.{object_lines}
use Rattle.cp_log_text.specs.Port.{port_lines}
use Rattle.cp_log_text.specs.Engine.{engine_lines, is_logged}

-- `log(1, STEPS, ENGINES)`, where 1 is the version of this form
abbrev pub head_parts : ℕ → ℕ → List (List Cell)
head_parts steps engines = functor "log" 3 ∷ number 1 ∷ number steps ∷ number engines ∷ []

-- the lines of a log, each as its term
abbrev pub log_lines : Outcome → List (List Cell)
log_lines o =
    term_with (head_parts o.steps (length o.engines))
    ∷ flat_map object_lines o.preds ++ port_lines o.port ++ flat_map engine_lines o.engines ++ word "end" ∷ []

abbrev pub log_text : Outcome → List ℕ
log_text o = lines_text (log_lines o)

-- the engine did nothing that only lanes do
abbrev pub is_worker : EngineEnd → Bool
is_worker e = not (is_lane e.stand) && list_all is_logged e.items

-- the outcome has a log that can be read: its engines are workers, and what was written on the port is text
pub record HasLog (o : Outcome) : Type 0 where
  pub workers : IsTrue (list_all is_worker o.engines)
  pub text : IsTrue (list_all (λ (w : OutEntry). is_utf8 w.bytes) o.port)
