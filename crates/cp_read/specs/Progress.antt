-- What contracts see of a machine that reads a clause.
use Rattle.std.specs.Prelude.{List}
use Rattle.cp_term.specs.declared.cell.Cell.{Cell}
use Rattle.cp_lex.specs.declared.token.Token.{Token}
use Rattle.cp_read.specs.declared.frame.Frame.{Frame}
use Rattle.cp_read.specs.SeenNames.{Seen}

-- the tokens that are left, the variables seen, the pieces of cells, and the frames, the innermost last
pub record Progress : Type 0 where
  pub tokens : List Token
  pub seen : Seen
  pub pieces : List (List Cell)
  pub frames : List Frame
