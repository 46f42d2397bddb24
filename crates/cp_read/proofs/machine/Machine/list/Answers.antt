use Rattle.std.proofs.Common.{◌≡◌, List, [], ◌∷◌, ◌++◌, length, ap, subst, ◌∙◌, Bool}
use Rattle.std.specs.Prelude.{drop, Some, None, if◌then◌else◌}
use Rattle.cp_term.specs.declared.cell.Cell.TheVariants.{Atom}
use Rattle.cp_lex.specs.declared.token.Token.{Token}
use Rattle.cp_read.specs.declared.frame.Turn.TheVariants as turns
use Rattle.cp_read.specs.declared.frame.Construct.TheVariants as constructs
use Rattle.cp_read.specs.Lexemes.{lexemes}
use Rattle.cp_read.specs.Grammar.{empty_list, list_cell, behind_bracket}
use Rattle.cp_read.specs.Progress.{Progress}
use Rattle.cp_read.proofs.lemmas.MoreLaws.{made}
use Rattle.cp_read.proofs.lemmas.OperandLaws.{cell_made, empty_list_comes, list_opens_here}
use Rattle.cp_read.proofs.machine.Machine.list.Goals as goal

pub returns-then-closes_list : goal.returns-then-closes_list
returns-then-closes_list c = λ ops s front h.
    let rest : c.behind-rest.result.now ≡ drop 1 c.args.self.now.tokens = c.behind-rest.ensures ∙ ap (λ (p : Progress). drop 1 p.tokens) c.self.view_is in
    cell_made ops s c.args.self.now c.primary.new.self c.primary.result c.args.max c.behind-more.result.now (drop 1 (drop 1 c.args.self.now.tokens)) _ (empty_list)
    c.primary.ensures.turn c.primary.ensures.ok c.primary.ensures.err
    (c.behind-more.ensures ∙ ap (λ (ts : List Token). drop 1 ts) rest) (ap Atom c.as_slice.ensures)
    (empty_list_comes ops s c.args.self.now c.args.max front (λ list.
    subst (λ (ts : List Token). behind_bracket (lexemes list ts) ≡ Some (lexemes list (drop 1 ts))) rest
    (subst (λ (b : Bool). behind_bracket (lexemes list c.behind-rest.result.now) ≡ (if b then Some (lexemes list (drop 1 c.behind-rest.result.now)) else None)) c.if-closes_list.true (c.closes_list.ensures list))) h)

pub returns-else-closes_list : goal.returns-else-closes_list
returns-else-closes_list c = λ ops s front h.
    let rest : c.behind-rest.result.now ≡ drop 1 c.args.self.now.tokens = c.behind-rest.ensures ∙ ap (λ (p : Progress). drop 1 p.tokens) c.self.view_is in
    made ops s c.begin_list.result (turns.Expects 999) c.begin_list.new.self
    (record c.args.self.now { tokens = drop 1 c.args.self.now.tokens; pieces = c.args.self.now.pieces ++ (list_cell ∷ []) ∷ []; frames = c.args.self.now.frames ++ record { construct = constructs.Elements; start = length c.args.self.now.pieces; max = c.args.max } ∷ [] })
    c.begin_list.ensures.turn c.begin_list.ensures.ok c.begin_list.ensures.err
    (list_opens_here ops s c.args.self.now c.args.max front (λ list.
    subst (λ (ts : List Token). behind_bracket (lexemes list ts) ≡ None) rest
    (subst (λ (b : Bool). behind_bracket (lexemes list c.behind-rest.result.now) ≡ (if b then Some (lexemes list (drop 1 c.behind-rest.result.now)) else None)) c.if-closes_list.false (c.closes_list.ensures list))) h)
