use Rattle.std.proofs.Common.{◌≡◌, ℤ, List, [], ◌∷◌, ◌++◌, length, ap, subst, sym, ◌∙◌}
use Rattle.std.proofs.lemmas.Int.{to_z-of_z}
use Rattle.std.proofs.Common.{rules, w64}
use Rattle.std.specs.Prelude.{drop, Some, None, Option}
use Rattle.cp_term.specs.declared.cell.Cell.TheVariants.{Int, Func}
use Rattle.cp_lex.specs.declared.token.Token.{Token}
use Rattle.cp_read.specs.declared.frame.Turn.TheVariants as turns
use Rattle.cp_read.specs.declared.frame.Construct.TheVariants as constructs
use Rattle.cp_read.specs.declared.look.Look.TheVariants as looks
use Rattle.cp_read.specs.Look.{IsFront, IsNegative}
use Rattle.cp_read.specs.Lexemes.{lexemes}
use Rattle.cp_read.specs.Grammar.{is_call}
use Rattle.cp_read.specs.Progress.{Progress}
use Rattle.cp_read.proofs.lemmas.MoreLaws.{made}
use Rattle.cp_read.proofs.lemmas.OperandLaws.{cell_made, call_opens_here, negative_comes, plain_here}
use Rattle.cp_read.proofs.machine.Machine.word.Goals as goal

pub returns-then-is_call : goal.returns-then-is_call
returns-then-is_call c = λ s front h.
    let rest : c.behind-rest.result.now ≡ drop 1 c.args.self.now.tokens = c.behind-rest.ensures ∙ ap (λ (p : Progress). drop 1 p.tokens) c.self.view_is in
    made c.args.ops.now s c.call.result (turns.Expects 999) c.call.new.self
    (record c.args.self.now { tokens = drop 1 (drop 1 c.args.self.now.tokens); pieces = c.args.self.now.pieces ++ (Func c.args.name.now 0 ∷ []) ∷ []; frames = c.args.self.now.frames ++ record { construct = constructs.Arguments c.args.name 0; start = length c.args.self.now.pieces; max = c.args.max } ∷ [] })
    c.call.ensures.turn c.call.ensures.ok c.call.ensures.err
    (call_opens_here c.args.ops.now s c.args.self.now c.args.max c.args.name front (subst (λ (ts : List Token). IsFront (Some looks.CallOpens) ts) rest (c.is_call.ensures.front c.if-is_call.true)) h)

pub returns-in-Some : goal.returns-in-Some
returns-in-Some c = λ s front h.
    let rest : c.behind-rest.result.now ≡ drop 1 c.args.self.now.tokens = c.behind-rest.ensures ∙ ap (λ (p : Progress). drop 1 p.tokens) c.self.view_is in
    cell_made c.args.ops.now s c.args.self.now c.integer.new.self c.integer.result c.args.max c.behind-more.result.now (drop 1 (drop 1 c.args.self.now.tokens)) _ (Int c.in-Some.value)
    c.integer.ensures.turn c.integer.ensures.ok c.integer.ensures.err
    (c.behind-more.ensures ∙ ap (λ (ts : List Token). drop 1 ts) rest) (ap Int (to_z-of_z w64 c.in-Some.value (search rules)))
    (negative_comes c.args.ops.now s c.args.self.now c.args.max c.args.name c.in-Some.value front
    (subst (λ (p : Progress). IsNegative (Some c.in-Some.value) p.tokens) c.self.view_is (subst (λ (o : Option ℤ). IsNegative o c.self.inside.tokens.now) c.in-Some.is c.negative_at.ensures)) h)

pub returns-in-None : goal.returns-in-None
returns-in-None c = λ s front h.
    let rest : c.behind-rest.result.now ≡ drop 1 c.args.self.now.tokens = c.behind-rest.ensures ∙ ap (λ (p : Progress). drop 1 p.tokens) c.self.view_is in
    c.plain_word.ensures s front (plain_here c.args.ops.now s c.args.self.now c.args.max
    (λ list. sym c.if-is_call.false ∙ c.is_call.ensures.call list ∙ ap (λ (ts : List Token). is_call (lexemes list ts)) rest)
    (subst (λ (p : Progress). IsNegative None p.tokens) c.self.view_is (subst (λ (o : Option ℤ). IsNegative o c.self.inside.tokens.now) c.in-None.is c.negative_at.ensures))) h
