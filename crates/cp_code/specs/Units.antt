-- A run and the one with more units.
use Rattle.std.specs.Prelude.{◌≡◌, ℕ, ◌+◌}
use Rattle.cp_code.specs.Tree.{Done, CutTo, Throw, Steps, Waiting, Left, Run, Ends}

abbrev pub with_more : ℕ → Left → Left
with_more more left = record { units = left.units + more; inputs = left.inputs; copies = left.copies }

-- The same end, with so many units more left over. Nothing is said of a run that ended for want of units.
abbrev pub More : ℕ → Run → Run → Type 0
More more (Ends Done left) r = r ≡ Ends Done (with_more more left)
More more (Ends (CutTo l) left) r = r ≡ Ends (CutTo l) (with_more more left)
More more (Ends (Throw b ks) left) r = r ≡ Ends (Throw b ks) (with_more more left)
More more (Ends Steps left) r = Unit {0}
More more (Ends (Waiting n) left) r = r ≡ Ends (Waiting n) (with_more more left)
