-- Lists and joined predicates, one step along their cells.
use Rattle.std.proofs.Common.{◌≡◌, false, List, ◌∷◌, ap, if◌then◌else◌}
use Rattle.cp_term.specs.declared.cell.Cell.{Cell}
use Rattle.cp_declaration.specs.Lists.{before, is_comma, indicator, joined}

pub joined-item : (c d e : Cell) (rest : List Cell) → is_comma c ≡ false → joined (c ∷ d ∷ e ∷ rest) ≡ before (indicator c d e) (joined rest)
joined-item c d e rest h = ap (λ b. if b then joined (d ∷ e ∷ rest) else before (indicator c d e) (joined rest)) h
