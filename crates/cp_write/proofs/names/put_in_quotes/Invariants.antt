use Rattle.std.proofs.Common.{◌≡◌, ◌++◌, ◌∷◌, [], drop}
use Rattle.std.specs.List.{flat_map}
use Rattle.cp_ops.specs.Text.{quoted_byte, in_quotes}
use Rattle.cp_write.proofs.names.put_in_quotes.Given as goal

abbrev pub invariant-loop-byte : goal.invariant-loop-byte
invariant-loop-byte l = l.out.items ++ (flat_map quoted_byte (drop l.byte-index l.name) ++ 39 ∷ []) ≡ l.fn.out.items ++ in_quotes l.name
