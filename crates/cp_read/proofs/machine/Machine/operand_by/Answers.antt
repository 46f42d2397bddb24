use Rattle.std.proofs.Common.{[], ◌∷◌, ◌++◌, length, subst, refl}
use Rattle.std.specs.Prelude.{drop, Some}
use Rattle.cp_term.specs.declared.cell.Cell.TheVariants.{Var}
use Rattle.cp_read.specs.declared.frame.Turn.TheVariants as turns
use Rattle.cp_read.specs.declared.frame.Construct.TheVariants as constructs
use Rattle.cp_read.specs.declared.look.Look.{Look}
use Rattle.cp_read.specs.declared.look.Look.TheVariants as looks
use Rattle.cp_read.specs.Look.{IsFront}
use Rattle.cp_read.specs.SeenNames.{number_of, seen_with}
use Rattle.cp_read.proofs.lemmas.MoreLaws.{made}
use Rattle.cp_read.proofs.lemmas.OperandLaws.{variable_comes, parentheses_open, call_parentheses_open, stands_refused}
use Rattle.cp_read.proofs.machine.Machine.operand_by.Goals as goal

pub returns-in-Variable : goal.returns-in-Variable
returns-in-Variable c = λ s front h.
    made c.args.ops.now s c.variable.result (turns.Has (length c.args.self.now.pieces) 0 c.args.max) c.variable.new.self
    (record { tokens = drop 1 c.args.self.now.tokens; seen = seen_with c.args.self.now.seen c.in-Variable.name.now; pieces = c.args.self.now.pieces ++ (Var (number_of c.args.self.now.seen c.in-Variable.name.now) ∷ []) ∷ []; frames = c.args.self.now.frames })
    c.variable.ensures.turn c.variable.ensures.ok c.variable.ensures.err
    (variable_comes c.args.ops.now s c.args.self.now c.args.max c.in-Variable.name (subst (λ (l : Look). IsFront (Some l) c.args.self.now.tokens) c.in-Variable.is front) h)

pub returns-in-CallOpens : goal.returns-in-CallOpens
returns-in-CallOpens c = λ s front h.
    made c.args.ops.now s c.parentheses.result (turns.Expects 1200) c.parentheses.new.self
    (record c.args.self.now { tokens = drop 1 c.args.self.now.tokens; frames = c.args.self.now.frames ++ record { construct = constructs.Parentheses; start = length c.args.self.now.pieces; max = c.args.max } ∷ [] })
    c.parentheses.ensures.turn c.parentheses.ensures.ok c.parentheses.ensures.err
    (call_parentheses_open c.args.ops.now s c.args.self.now c.args.max (subst (λ (l : Look). IsFront (Some l) c.args.self.now.tokens) c.in-CallOpens.is front) h)

pub returns-in-Opens : goal.returns-in-Opens
returns-in-Opens c = λ s front h.
    made c.args.ops.now s c.parentheses-in-Opens.result (turns.Expects 1200) c.parentheses-in-Opens.new.self
    (record c.args.self.now { tokens = drop 1 c.args.self.now.tokens; frames = c.args.self.now.frames ++ record { construct = constructs.Parentheses; start = length c.args.self.now.pieces; max = c.args.max } ∷ [] })
    c.parentheses-in-Opens.ensures.turn c.parentheses-in-Opens.ensures.ok c.parentheses-in-Opens.ensures.err
    (parentheses_open c.args.ops.now s c.args.self.now c.args.max (subst (λ (l : Look). IsFront (Some l) c.args.self.now.tokens) c.in-Opens.is front) h)

pub returns-in-Closes : goal.returns-in-Closes
returns-in-Closes c = λ s front h.
    stands_refused c.args.ops.now s c.args.self.now c.args.max looks.Closes c.unexpected.result refl (subst (λ (l : Look). IsFront (Some l) c.args.self.now.tokens) c.in-Closes.is front) h c.unexpected.ensures

pub returns-in-ListCloses : goal.returns-in-ListCloses
returns-in-ListCloses c = λ s front h.
    stands_refused c.args.ops.now s c.args.self.now c.args.max looks.ListCloses c.unexpected-in-ListCloses.result refl (subst (λ (l : Look). IsFront (Some l) c.args.self.now.tokens) c.in-ListCloses.is front) h c.unexpected-in-ListCloses.ensures

pub returns-in-BracesClose : goal.returns-in-BracesClose
returns-in-BracesClose c = λ s front h.
    stands_refused c.args.ops.now s c.args.self.now c.args.max looks.BracesClose c.unexpected-in-BracesClose.result refl (subst (λ (l : Look). IsFront (Some l) c.args.self.now.tokens) c.in-BracesClose.is front) h c.unexpected-in-BracesClose.ensures

pub returns-in-Comma : goal.returns-in-Comma
returns-in-Comma c = λ s front h.
    stands_refused c.args.ops.now s c.args.self.now c.args.max looks.Comma c.unexpected-in-Comma.result refl (subst (λ (l : Look). IsFront (Some l) c.args.self.now.tokens) c.in-Comma.is front) h c.unexpected-in-Comma.ensures

pub returns-in-Bar : goal.returns-in-Bar
returns-in-Bar c = λ s front h.
    stands_refused c.args.ops.now s c.args.self.now c.args.max looks.Bar c.unexpected-in-Bar.result refl (subst (λ (l : Look). IsFront (Some l) c.args.self.now.tokens) c.in-Bar.is front) h c.unexpected-in-Bar.ensures

pub returns-in-ClauseEnds : goal.returns-in-ClauseEnds
returns-in-ClauseEnds c = λ s front h.
    stands_refused c.args.ops.now s c.args.self.now c.args.max looks.ClauseEnds c.unexpected-in-ClauseEnds.result refl (subst (λ (l : Look). IsFront (Some l) c.args.self.now.tokens) c.in-ClauseEnds.is front) h c.unexpected-in-ClauseEnds.ensures

pub returns-in-Stray : goal.returns-in-Stray
returns-in-Stray c = λ s front h.
    stands_refused c.args.ops.now s c.args.self.now c.args.max looks.Stray c.unexpected-in-Stray.result refl (subst (λ (l : Look). IsFront (Some l) c.args.self.now.tokens) c.in-Stray.is front) h c.unexpected-in-Stray.ensures
