use Rattle.std.proofs.Common.{arith, ap, ℕ, List, [], ◌∷◌}
use Rattle.cp_log_text.specs.Line.{atom}
use Rattle.cp_log_text.proofs.Cuts.{one_atom, several_atoms}
use Rattle.cp_log_text.proofs.Parts.{same}
use Rattle.cp_log_text.proofs.piece.add_text.Goals as goal

pub returns-then-text-le-MAX_LEN : goal.returns-then-text-le-MAX_LEN
returns-then-text-le-MAX_LEN c = one_atom c.args.text.now (omega arith) (same c.in_ok-word.ensures (ap (λ (t : List ℕ). atom t ∷ []) c.as_bytes.ensures.value))

pub returns : goal.returns
returns c = several_atoms c.args.text.now (omega arith) (same c.in_ok-add_cut.ensures (cc))
