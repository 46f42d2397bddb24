use Rattle.std.proofs.Common.{◌≡◌, take, drop}
use Rattle.cp_link.specs.Refusals.{refused, refused_from}
use Rattle.cp_link.proofs.whole.refusal_in.Given as goal

abbrev pub invariant-loop-place : goal.invariant-loop-place
invariant-loop-place l = refused_from l.parts (take l.place l.parts) (drop l.place l.parts) ≡ refused l.parts
