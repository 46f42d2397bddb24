-- What a receive of a link in memory answers.
use Rattle.std.specs.Prelude.{ℕ, min, Option, Some, None, List, [], ◌∷◌, length}
use Rattle.cp_io.specs.declared.link.Received.{Received}
use Rattle.cp_io.specs.declared.link.Received.TheVariants.{Took, End, Fault}

-- it fails where it is to fail, else it sees the end where nothing arrives any more, and else it takes as many bytes as
-- arrive and as there is room for
abbrev pub received : Option ℕ → List ℕ → ℕ → Received
received (Some taken) arriving room = Fault
received None [] room = End
received None (byte ∷ arriving) room = Took (min (length (byte ∷ arriving)) room)
