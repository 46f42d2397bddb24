use Rattle.std.proofs.Common.{◌≡◌, ℕ, List, ap, subst}
use Rattle.std.specs.Prelude.{Some, None, drop, if◌then◌else◌}
use Rattle.cp_lex.specs.declared.token.Token.{Token}
use Rattle.cp_read.specs.Lexemes.{lexemes}
use Rattle.cp_read.specs.Grammar.{behind_end}
use Rattle.cp_read.specs.Progress.{Progress}
use Rattle.cp_read.proofs.lemmas.CloseLaws.{by_end}
use Rattle.cp_read.proofs.machine.Machine.end.Goals as goal

pub returns : goal.returns
returns c = λ s h.
    by_end c.args.ops.now 0 0 c.args.self.now c.end_by.new.self s c.end_by.result c.ends_clause-ends.result h
    (subst (λ (ts : List Token). (list : List (List ℕ)) → behind_end (lexemes list ts) ≡ (if c.ends_clause-ends.result then Some (lexemes list (drop 1 ts)) else None)) (ap (λ (p : Progress). p.tokens) c.self.view_is) c.ends_clause-ends.ensures)
    c.end_by.ensures.yes c.end_by.ensures.no
