use Rattle.std.proofs.Common.{◌≡◌, ℕ, List, ap, subst}
use Rattle.std.specs.Prelude.{Some, None, drop, if◌then◌else◌}
use Rattle.cp_lex.specs.declared.token.Token.{Token}
use Rattle.cp_read.specs.Lexemes.{lexemes}
use Rattle.cp_read.specs.Grammar.{behind_close, behind_brace, behind_bracket}
use Rattle.cp_read.specs.Progress.{Progress}
use Rattle.cp_read.specs.declared.frame.Construct.{Construct}
use Rattle.cp_read.specs.Stands.{IsClosing}
use Rattle.cp_read.proofs.lemmas.CloseLaws.{close_operand, by_parentheses, by_braces, by_tail}
use Rattle.cp_read.proofs.machine.Machine.close.Goals as goal

pub returns-in-Operand : goal.returns-in-Operand
returns-in-Operand c = λ s h.
    close_operand c.args.ops.now c.in-Operand.priority c.args.frame.start c.args.frame.max c.args.self.now s
    (subst (λ (k : Construct). IsClosing c.args.ops.now k c.args.frame.start c.args.frame.max c.args.self.now s) c.in-Operand.is h)

pub returns-in-Parentheses : goal.returns-in-Parentheses
returns-in-Parentheses c = λ s h.
    by_parentheses c.args.ops.now c.args.frame.start c.args.frame.max c.args.self.now c.close_by.new.self s c.close_by.result c.closes-closes.result
    (subst (λ (k : Construct). IsClosing c.args.ops.now k c.args.frame.start c.args.frame.max c.args.self.now s) c.in-Parentheses.is h)
    (subst (λ (ts : List Token). (list : List (List ℕ)) → behind_close (lexemes list ts) ≡ (if c.closes-closes.result then Some (lexemes list (drop 1 ts)) else None)) (ap (λ (p : Progress). p.tokens) c.self.view_is) c.closes-closes.ensures)
    c.close_by.ensures.yes c.close_by.ensures.no

pub returns-in-Braces : goal.returns-in-Braces
returns-in-Braces c = λ s h.
    by_braces c.args.ops.now c.args.frame.start c.args.frame.max c.args.self.now c.close_by-in-Braces.new.self s c.close_by-in-Braces.result c.closes_braces-closes.result
    (subst (λ (k : Construct). IsClosing c.args.ops.now k c.args.frame.start c.args.frame.max c.args.self.now s) c.in-Braces.is h)
    (subst (λ (ts : List Token). (list : List (List ℕ)) → behind_brace (lexemes list ts) ≡ (if c.closes_braces-closes.result then Some (lexemes list (drop 1 ts)) else None)) (ap (λ (p : Progress). p.tokens) c.self-in-Braces.view_is) c.closes_braces-closes.ensures)
    c.close_by-in-Braces.ensures.yes c.close_by-in-Braces.ensures.no

pub returns-in-Tail : goal.returns-in-Tail
returns-in-Tail c = λ s h.
    by_tail c.args.ops.now c.args.frame.start c.args.frame.max c.args.self.now c.close_by-in-Tail.new.self s c.close_by-in-Tail.result c.closes_list-closes.result
    (subst (λ (k : Construct). IsClosing c.args.ops.now k c.args.frame.start c.args.frame.max c.args.self.now s) c.in-Tail.is h)
    (subst (λ (ts : List Token). (list : List (List ℕ)) → behind_bracket (lexemes list ts) ≡ (if c.closes_list-closes.result then Some (lexemes list (drop 1 ts)) else None)) (ap (λ (p : Progress). p.tokens) c.self-in-Tail.view_is) c.closes_list-closes.ensures)
    c.close_by-in-Tail.ensures.yes c.close_by-in-Tail.ensures.no
