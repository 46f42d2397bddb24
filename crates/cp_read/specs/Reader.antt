-- What contracts see of a reader.
use Rattle.std.specs.Prelude.{List, Option}
use Rattle.cp_lex.specs.declared.token.Token.{Token}
use Rattle.cp_read.specs.declared.error.ReadError.{ReadError}
use Rattle.cp_read.specs.declared.bounds.Bounds.{Bounds}

-- the tokens that are left, the bounds of a clause, and the refusal that it has answered, if any
pub record Reading : Type 0 where
  pub rest : List Token
  pub bounds : Bounds
  pub failed : Option ReadError
