use Rattle.std.proofs.Common.{◌≡◌, drop}
use Rattle.cp_goal.specs.Lists.{codes_of}
use Rattle.cp_lists.specs.Places.{instances}
use Rattle.cp_lists.specs.Texts.{codes_before}
use Rattle.cp_lists.proofs.text.codes_at.Given as goal

abbrev pub invariant-loop-element : goal.invariant-loop-element
invariant-loop-element l =
    codes_of (instances l.heap l.element-items) ≡ codes_before l.codes (codes_of (instances l.heap (drop l.element-index l.element-items)))
