use Rattle.std.proofs.Common.{◌≡◌, ◌++◌}
use Rattle.cp_read.specs.Drafts.{code_pieces}
use Rattle.cp_read.proofs.machine.Machine.codes.Given as goal

abbrev pub invariant-loop-character : goal.invariant-loop-character
invariant-loop-character l = l.self ≡ record l.initial.self { pieces = l.initial.self.pieces ++ code_pieces l.yielded }
