use Rattle.std.proofs.Common.{◌≡◌, map, take}
use Rattle.cp_link.specs.Linked.{peer_of}
use Rattle.cp_assemble.proofs.remote.peers_of.Given as goal

abbrev pub invariant-loop-name : goal.invariant-loop-name
invariant-loop-name l = l.all ≡ map peer_of (take l.name-index l.modules)
