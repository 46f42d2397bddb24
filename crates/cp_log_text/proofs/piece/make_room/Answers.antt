use Rattle.std.proofs.Common.{arith}
use Rattle.std.specs.Prelude.{string_bytes}
use Rattle.cp_log_text.proofs.Cuts.{kept, kept_piece, ends, ends_piece}
use Rattle.cp_log_text.proofs.Parts.{same}
use Rattle.cp_log_text.proofs.piece.make_room.Goals as goal

pub returns-then-len-len_utf8-le-MAX_LEN-clause-line : goal.returns-then-len-len_utf8-le-MAX_LEN-clause-line
returns-then-len-len_utf8-le-MAX_LEN-clause-line c = kept c.args.line.now (string_bytes c.args.piece.now) c.args.character (omega arith)

pub returns-then-len-len_utf8-le-MAX_LEN-clause-piece : goal.returns-then-len-len_utf8-le-MAX_LEN-clause-piece
returns-then-len-len_utf8-le-MAX_LEN-clause-piece c = kept_piece (string_bytes c.args.piece.now) c.args.character (omega arith)

pub returns-clause-line : goal.returns-clause-line
returns-clause-line c = ends (string_bytes c.args.piece.now) c.args.character (omega arith) (same c.in_ok-add_element.ensures (cc))

pub returns-clause-piece : goal.returns-clause-piece
returns-clause-piece c = ends_piece (string_bytes c.args.piece.now) _ c.args.character (omega arith) c.clear.ensures.bytes
