use Rattle.std.proofs.Common.{◌≡◌, ℕ, List, [], ◌∷◌, ◌++◌, subst}
use Rattle.std.specs.Prelude.{drop, Some, None, Option, option_map}
use Rattle.cp_term.specs.declared.cell.Cell.TheVariants.{Func}
use Rattle.cp_read.specs.declared.frame.Turn.TheVariants as turns
use Rattle.cp_read.specs.declared.frame.Construct.TheVariants as constructs
use Rattle.cp_read.specs.Look.{infix_seen}
use Rattle.cp_read.specs.Lexemes.{lexemes}
use Rattle.cp_read.specs.Grammar.{admitted_by, infix_at}
use Rattle.cp_read.specs.Progress.{Progress}
use Rattle.cp_read.proofs.lemmas.MoreLaws.{made}
use Rattle.std.specs.Prelude.{slice_set, slice_index_or}
use Rattle.cp_read.specs.declared.operators.Infix as declared
use Rattle.cp_read.proofs.lemmas.OperandLaws.{infix_taken, ended_here}
use Rattle.cp_read.proofs.machine.Machine.go_on.Goals as goal

pub returns-in-Some : goal.returns-in-Some
returns-in-Some c = λ s h.
    made c.args.ops.now s c.infix.result (turns.Expects c.in-Some.op.right) c.infix.new.self
    (record c.args.self.now { tokens = drop 1 c.args.self.now.tokens; pieces = slice_set c.args.self.now.pieces c.args.start (Func c.in-Some.op.name.now 2 ∷ slice_index_or c.args.self.now.pieces c.args.start []); frames = c.args.self.now.frames ++ record { construct = constructs.Operand c.in-Some.op.priority; start = c.args.start; max = c.args.max } ∷ [] })
    c.infix.ensures.turn c.infix.ensures.ok c.infix.ensures.err
    (infix_taken c.args.ops.now s c.args.self.now c.in-Some.op c.args.start c.args.priority c.args.max h
    (subst (λ (p : Progress). (list : List (List ℕ)) → Some (infix_seen (lexemes list (drop 1 p.tokens)) c.in-Some.op) ≡ admitted_by c.args.ops.now c.args.max c.args.priority (infix_at c.args.ops.now (lexemes list p.tokens))) c.self.view_is
    (subst (λ (o : Option declared.Infix). (list : List (List ℕ)) → option_map (infix_seen (lexemes list (drop 1 c.self.inside.tokens.now))) o ≡ admitted_by c.args.ops.now c.args.max c.args.priority (infix_at c.args.ops.now (lexemes list c.self.inside.tokens.now))) c.in-Some.is c.admitted.ensures)))

pub returns-in-None : goal.returns-in-None
returns-in-None c = λ s h.
    c.term_ends.ensures s (ended_here c.args.ops.now s c.args.self.now c.args.start c.args.priority c.args.max h
    (subst (λ (p : Progress). (list : List (List ℕ)) → None ≡ admitted_by c.args.ops.now c.args.max c.args.priority (infix_at c.args.ops.now (lexemes list p.tokens))) c.self.view_is
    (subst (λ (o : Option declared.Infix). (list : List (List ℕ)) → option_map (infix_seen (lexemes list (drop 1 c.self.inside.tokens.now))) o ≡ admitted_by c.args.ops.now c.args.max c.args.priority (infix_at c.args.ops.now (lexemes list c.self.inside.tokens.now))) c.in-None.is c.admitted.ensures)))
