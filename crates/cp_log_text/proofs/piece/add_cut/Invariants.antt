use Rattle.std.proofs.Common.{◌≡◌, [], map}
use Rattle.std.specs.Prelude.{string_bytes}
use Rattle.cp_log_text.specs.Line.{element_parts, atom}
use Rattle.cp_log_text.specs.Building.{Gains}
use Rattle.cp_log_text.proofs.Cuts.{ended, begun}
use Rattle.cp_log_text.proofs.piece.add_cut.Given as goal

abbrev pub invariant-characters : goal.invariant-characters
invariant-characters l = record {
  line : Gains l.initial.line l.line (element_parts (map atom (ended [] l.yielded)));
  piece : string_bytes l.piece ≡ begun [] l.yielded;
}
