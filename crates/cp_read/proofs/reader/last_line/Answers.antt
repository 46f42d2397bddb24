use Rattle.std.proofs.Common.{sym, ◌∙◌, ap}
use Rattle.cp_read.specs.Clauses.{last_line}
use Rattle.cp_read.proofs.lemmas.ReadLaws.{last_line-is}
use Rattle.cp_read.proofs.reader.last_line.Goals as goal

pub returns-in-Some : goal.returns-in-Some
returns-in-Some c = sym (ap last_line (c.in-Some.ensures.cases.0) ∙ last_line-is c.in-Some.field-0-1.now c.in-Some.token.now)
