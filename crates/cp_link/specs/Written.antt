-- The goals of a body that are written with a module in front of them. They are looked for in the places of goals, through
-- `,`, `;`, `->` and `\+`; of several modules in front of a goal the inner one counts. What stands behind another module is
-- not taken apart.
use Rattle.std.specs.Prelude.{ℕ, zero, suc, ◌||◌, if◌then◌else◌, cond, List, [], ◌∷◌, ◌++◌, Option, Some, None}
use Rattle.std.specs.Str.{bytes_eq}
use Rattle.cp_term.specs.declared.cell.Cell.{Cell}
use Rattle.cp_term.specs.declared.cell.Cell.TheVariants.{Atom, Func}
use Rattle.cp_goal.specs.Folds.{of_terms}
use Rattle.cp_code.specs.Bodies.{is}
use Rattle.cp_code.specs.Clauses.{is_neck}
use Rattle.cp_module.specs.Causes.{headed}
use Rattle.cp_link.specs.declared.spot.Written.{Written}
use Rattle.cp_link.specs.declared.spot.Spot.{Spot}

abbrev pub nothing : Cell → Spot
nothing c = record { first = c; inside = []; behind = None }

-- the goals that a term holds behind another module, by that module
abbrev pub or_itself : List ℕ → Cell → Option (List Written) → List Written
or_itself m first (Some found) = found
or_itself m first None = record { module_name = m; pred = headed (first ∷ []) } ∷ []

abbrev pub behind_module : (own : List ℕ) → List ℕ → Spot → List Written
behind_module own m g = cond (bytes_eq own m) g.inside (or_itself m g.first g.behind)

abbrev pub seen_alike : Cell → List Written → Spot
seen_alike c found = record { first = c; inside = found; behind = Some found }

-- `M:G`; where M is no atom it is no goal
abbrev pub within : (own : List ℕ) → Cell → Cell → Spot → Spot
within own c (Atom m) g = seen_alike c (behind_module own m g)
within own c other g = seen_alike c []

abbrev pub holds : Cell → List Written → Spot
holds c found = record { first = c; inside = found; behind = None }

abbrev pub of_pair : (own : List ℕ) → Cell → List ℕ → Spot → Spot → Spot
of_pair own c f a b =
    if is f ":" then within own c a.first b
    else if is f "," || is f ";" || is f "->" then holds c (a.inside ++ b.inside)
    else nothing c

abbrev pub of_one : Cell → List ℕ → Spot → Spot
of_one c f a = if is f "\\+" then holds c a.inside else nothing c

abbrev pub of_compound : (own : List ℕ) → Cell → List ℕ → ℕ → List Spot → Spot
of_compound own c f (suc zero) (a ∷ []) = of_one c f a
of_compound own c f (suc (suc zero)) (a ∷ b ∷ []) = of_pair own c f a b
of_compound own c f k spots = nothing c

abbrev pub spot_at : (own : List ℕ) → Cell → List Spot → Spot
spot_at own (Func f k) spots = of_compound own (Func f k) f k spots
spot_at own c spots = nothing c

-- what the second of these terms holds
abbrev pub second_inside : List Spot → List Written
second_inside (a ∷ b ∷ spots) = b.inside
second_inside spots = []

-- the goals that are written with another module in the body of a clause of a file of this module; a fact has no body
abbrev pub written_in : (own : List ℕ) → List Cell → List Written
written_in own [] = []
written_in own (c ∷ cells) = cond (is_neck c) (second_inside (of_terms (spot_at own) cells)) []
