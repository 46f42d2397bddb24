use Rattle.std.proofs.Common.{◌≡◌, List, [], ◌∷◌, ◌++◌, length, ap, subst, ◌∙◌, Bool}
use Rattle.std.specs.Prelude.{drop, Some, None, codes, if◌then◌else◌}
use Rattle.cp_term.specs.declared.cell.Cell.TheVariants.{Atom, Func}
use Rattle.cp_lex.specs.declared.token.Token.{Token}
use Rattle.cp_read.specs.declared.frame.Turn.TheVariants as turns
use Rattle.cp_read.specs.declared.frame.Construct.TheVariants as constructs
use Rattle.cp_read.specs.Lexemes.{lexemes}
use Rattle.cp_read.specs.Grammar.{behind_brace}
use Rattle.cp_read.specs.Progress.{Progress}
use Rattle.cp_read.proofs.lemmas.MoreLaws.{made}
use Rattle.cp_read.proofs.lemmas.OperandLaws.{cell_made, empty_braces_come, braces_open_here}
use Rattle.cp_read.proofs.machine.Machine.braces.Goals as goal

pub returns-then-closes_braces : goal.returns-then-closes_braces
returns-then-closes_braces c = λ ops s front h.
    let rest : c.behind-rest.result.now ≡ drop 1 c.args.self.now.tokens = c.behind-rest.ensures ∙ ap (λ (p : Progress). drop 1 p.tokens) c.self.view_is in
    cell_made ops s c.args.self.now c.primary.new.self c.primary.result c.args.max c.behind-more.result.now (drop 1 (drop 1 c.args.self.now.tokens)) _ (Atom (codes "{}"))
    c.primary.ensures.turn c.primary.ensures.ok c.primary.ensures.err
    (c.behind-more.ensures ∙ ap (λ (ts : List Token). drop 1 ts) rest) (ap Atom c.as_slice.ensures)
    (empty_braces_come ops s c.args.self.now c.args.max front (λ list.
    subst (λ (ts : List Token). behind_brace (lexemes list ts) ≡ Some (lexemes list (drop 1 ts))) rest
    (subst (λ (b : Bool). behind_brace (lexemes list c.behind-rest.result.now) ≡ (if b then Some (lexemes list (drop 1 c.behind-rest.result.now)) else None)) c.if-closes_braces.true (c.closes_braces.ensures list))) h)

pub returns-else-closes_braces : goal.returns-else-closes_braces
returns-else-closes_braces c = λ ops s front h.
    let rest : c.behind-rest.result.now ≡ drop 1 c.args.self.now.tokens = c.behind-rest.ensures ∙ ap (λ (p : Progress). drop 1 p.tokens) c.self.view_is in
    made ops s c.begin_braces.result (turns.Expects 1200) c.begin_braces.new.self
    (record c.args.self.now { tokens = drop 1 c.args.self.now.tokens; pieces = c.args.self.now.pieces ++ (Func (codes "{}") 1 ∷ []) ∷ []; frames = c.args.self.now.frames ++ record { construct = constructs.Braces; start = length c.args.self.now.pieces; max = c.args.max } ∷ [] })
    c.begin_braces.ensures.turn c.begin_braces.ensures.ok c.begin_braces.ensures.err
    (braces_open_here ops s c.args.self.now c.args.max front (λ list.
    subst (λ (ts : List Token). behind_brace (lexemes list ts) ≡ None) rest
    (subst (λ (b : Bool). behind_brace (lexemes list c.behind-rest.result.now) ≡ (if b then Some (lexemes list (drop 1 c.behind-rest.result.now)) else None)) c.if-closes_braces.false (c.closes_braces.ensures list))) h)
