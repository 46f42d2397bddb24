use Rattle.std.proofs.Common.{◌≡◌, List, [], ◌∷◌, ◌++◌, length, ap, subst, sym, ◌∙◌, refl}
use Rattle.std.specs.Prelude.{drop, Option, option_map}
use Rattle.cp_term.specs.declared.cell.Cell.TheVariants.{Atom, Func}
use Rattle.cp_lex.specs.declared.token.Token.{Token}
use Rattle.cp_ops.specs.Operators.{look_up}
use Rattle.cp_read.specs.declared.frame.Turn.TheVariants as turns
use Rattle.cp_read.specs.declared.frame.Construct.TheVariants as constructs
use Rattle.cp_read.specs.Look.{prefix_seen}
use Rattle.cp_read.specs.Lexemes.{lexemes}
use Rattle.cp_read.specs.Grammar.{begins_operand, prefix_by}
use Rattle.cp_read.specs.Progress.{Progress}
use Rattle.cp_read.proofs.lemmas.MoreLaws.{made}
use Rattle.cp_read.specs.declared.operators.Prefix as declared
use Rattle.cp_read.proofs.lemmas.OperandLaws.{cell_made, atom_comes, lone_prefix_comes, prefix_opens}
use Rattle.cp_read.proofs.machine.Machine.plain_word.Goals as goal

pub returns-in-None : goal.returns-in-None
returns-in-None c = λ s front plain h.
    cell_made c.args.ops.now s c.args.self.now c.primary.new.self c.primary.result c.args.max c.behind-rest.result.now (drop 1 c.args.self.now.tokens) _ (Atom c.args.name.now)
    c.primary.ensures.turn c.primary.ensures.ok c.primary.ensures.err
    (c.behind-rest.ensures ∙ ap (λ (p : Progress). drop 1 p.tokens) c.self.view_is) refl
    (atom_comes c.args.ops.now s c.args.self.now c.args.max c.args.name front plain
    (subst (λ (o : Option declared.Prefix). option_map prefix_seen o ≡ prefix_by c.args.max (look_up c.args.ops.now.prefixes c.args.name.now)) c.in-None.is c.prefix_within.ensures) h)

pub returns-then-begins_operand : goal.returns-then-begins_operand
returns-then-begins_operand c = λ s front plain h.
    let rest : c.behind-rest.result.now ≡ drop 1 c.args.self.now.tokens = c.behind-rest.ensures ∙ ap (λ (p : Progress). drop 1 p.tokens) c.self.view_is in
    made c.args.ops.now s c.prefix.result (turns.Expects c.in-Some.op.right) c.prefix.new.self
    (record c.args.self.now { tokens = drop 1 c.args.self.now.tokens; pieces = c.args.self.now.pieces ++ (Func c.args.name.now 1 ∷ []) ∷ []; frames = c.args.self.now.frames ++ record { construct = constructs.Operand c.in-Some.op.priority; start = length c.args.self.now.pieces; max = c.args.max } ∷ [] })
    c.prefix.ensures.turn c.prefix.ensures.ok c.prefix.ensures.err
    (prefix_opens c.args.ops.now s c.args.self.now c.args.max c.args.name c.in-Some.op front plain
    (subst (λ (o : Option declared.Prefix). option_map prefix_seen o ≡ prefix_by c.args.max (look_up c.args.ops.now.prefixes c.args.name.now)) c.in-Some.is c.prefix_within.ensures)
    (λ list. sym c.if-begins_operand.true ∙ c.begins_operand.ensures list ∙ ap (λ (ts : List Token). begins_operand c.args.ops.now c.in-Some.op.right (lexemes list ts)) rest) h)

pub returns-else-begins_operand : goal.returns-else-begins_operand
returns-else-begins_operand c = λ s front plain h.
    let rest : c.behind-rest.result.now ≡ drop 1 c.args.self.now.tokens = c.behind-rest.ensures ∙ ap (λ (p : Progress). drop 1 p.tokens) c.self.view_is in
    cell_made c.args.ops.now s c.args.self.now c.primary-else-begins_operand.new.self c.primary-else-begins_operand.result c.args.max c.behind-rest.result.now (drop 1 c.args.self.now.tokens) _ (Atom c.args.name.now)
    c.primary-else-begins_operand.ensures.turn c.primary-else-begins_operand.ensures.ok c.primary-else-begins_operand.ensures.err
    rest refl
    (lone_prefix_comes c.args.ops.now s c.args.self.now c.args.max c.args.name c.in-Some.op front plain
    (subst (λ (o : Option declared.Prefix). option_map prefix_seen o ≡ prefix_by c.args.max (look_up c.args.ops.now.prefixes c.args.name.now)) c.in-Some.is c.prefix_within.ensures)
    (λ list. sym c.if-begins_operand.false ∙ c.begins_operand.ensures list ∙ ap (λ (ts : List Token). begins_operand c.args.ops.now c.in-Some.op.right (lexemes list ts)) rest) h)
