-- Headers by their cells.
use Rattle.std.specs.Prelude.{Bool, false, ◌||◌, ◌&&◌, nat_eq, List, [], ◌∷◌}
use Rattle.cp_term.specs.declared.cell.Cell.{Cell}
use Rattle.cp_term.specs.declared.cell.Cell.TheVariants.{Func}
use Rattle.cp_code.specs.Bodies.{is}

-- the term behind the first cell is `module` of two or three arguments
abbrev pub names_module : List Cell → Bool
names_module (c ∷ Func f k ∷ cells) = is f "module" && (nat_eq k 2 || nat_eq k 3)
names_module cells = false
