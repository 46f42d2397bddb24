-- What contracts see of a line that is being built.
use Rattle.std.specs.Prelude.{◌≡◌, ℕ, ◌+◌, cond, List, [], ◌∷◌, ◌++◌, length}
use Rattle.std.specs.Char.{len_utf8}
use Rattle.cp_term.specs.declared.cell.Cell.{Cell}
use Rattle.cp_log_text.specs.declared.line.Line.{Line}
use Rattle.cp_log_text.specs.Line.{apart_from, variables_in}
use Rattle.cp_log_text.specs.Port.{fits}

-- the line has grown by these parts
pub record Gains (old new : Line) (parts : List (List Cell)) : Type 0 where
  pub cells : new.cells ≡ old.cells ++ apart_from old.next parts
  pub next : new.next ≡ old.next + variables_in parts

-- the begun piece, where it ends before a character
abbrev pub ended_by : List ℕ → ℕ → List (List ℕ)
ended_by piece c = cond (fits (length piece + len_utf8 c)) [] (piece ∷ [])

-- the begun piece, where the character goes into it
abbrev pub kept_before : List ℕ → ℕ → List ℕ
kept_before piece c = cond (fits (length piece + len_utf8 c)) piece []
