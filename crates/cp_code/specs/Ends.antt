-- The levels and catchers that goals and ends name.
use Rattle.std.specs.Prelude.{ℕ, List, [], ◌∷◌}
use Rattle.cp_code.specs.Tree.{Item, Goal, AskFrom, CutNow, Leave, Copy, Exit, Demands, Renamed, Done, CutTo, Throw, Steps, Waiting, Run, Ends}

abbrev pub Each : (ℕ → Type 0) → List ℕ → Type 0
Each P [] = Unit {0}
Each P (k ∷ ks) = P k × Each P ks

-- the numbers that goals name
abbrev pub Named : (ℕ → Type 0) → List Item → Type 0
Named P [] = Unit {0}
Named P (Goal b l ∷ rest) = P l × Named P rest
Named P (AskFrom a place ∷ rest) = Named P rest
Named P (CutNow l ∷ rest) = P l × Named P rest
Named P (Leave k ∷ rest) = P k × Named P rest
Named P (Copy x ctx ∷ rest) = Named P rest
Named P (Exit p cs g ∷ rest) = Named P rest
Named P (Demands p cs g ∷ rest) = Named P rest
Named P (Renamed p cs g ∷ rest) = Named P rest

-- the numbers that an end names
abbrev pub Ended : (ℕ → Type 0) → Run → Type 0
Ended P (Ends Done left) = Unit {0}
Ended P (Ends (CutTo l) left) = P l
Ended P (Ends (Throw b ks) left) = Each P ks
Ended P (Ends Steps left) = Unit {0}
Ended P (Ends (Waiting n) left) = Unit {0}
