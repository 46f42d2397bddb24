use Rattle.std.proofs.Common.{◌≡◌, ℕ, suc, ◌+◌, List, [], ◌∷◌, ◌++◌, ap, subst, arith}
use Rattle.std.specs.Prelude.{drop, slice_set}
use Rattle.cp_term.specs.declared.cell.Cell.TheVariants.{Func}
use Rattle.cp_read.specs.declared.behind.Behind as declared
use Rattle.cp_read.specs.declared.frame.Turn.TheVariants as turns
use Rattle.cp_read.specs.declared.frame.Construct.TheVariants as constructs
use Rattle.cp_read.specs.Lexemes.{lexemes}
use Rattle.cp_read.specs.Grammar.{Behind, behind_argument}
use Rattle.cp_read.specs.Look.{IsBehind}
use Rattle.cp_read.specs.Machine.{behind_one}
use Rattle.cp_read.specs.Progress.{Progress}
use Rattle.cp_read.specs.Stands.{Keeps}
use Rattle.cp_read.proofs.lemmas.MoreLaws.{arguments_end, argument_follows, argument_refused, made}
use Rattle.cp_read.proofs.machine.Machine.argument.Goals as goal

-- what stands behind the argument, of the machine's tokens
seen_behind : (a b : Progress) (x y : declared.Behind) → a ≡ b → x ≡ y → ((list : List (List ℕ)) → IsBehind x (behind_argument (lexemes list a.tokens)) (lexemes list (drop 1 a.tokens))) →
    (list : List (List ℕ)) → IsBehind y (behind_argument (lexemes list b.tokens)) (lexemes list (drop 1 b.tokens))
seen_behind a b x y e f h = subst (λ (p : Progress). (list : List (List ℕ)) → IsBehind y (behind_argument (lexemes list p.tokens)) (lexemes list (drop 1 p.tokens))) e
    (subst (λ (z : declared.Behind). (list : List (List ℕ)) → IsBehind z (behind_argument (lexemes list a.tokens)) (lexemes list (drop 1 a.tokens))) f h)

one_more : (n m : ℕ) → m ≡ n + 1 → suc n ≡ m
one_more n m e = omega (arith, e)

pub returns-in-Closes : goal.returns-in-Closes
returns-in-Closes c = λ s h.
    made c.args.ops.now s c.arguments_end.result (turns.Has c.args.frame.start 0 c.args.frame.max) c.arguments_end.new.self
    (record c.args.self.now { tokens = drop 1 c.args.self.now.tokens; pieces = slice_set c.args.self.now.pieces c.args.frame.start (Func c.args.name.now c.in-Some.count ∷ []) })
    c.arguments_end.ensures.turn c.arguments_end.ensures.ok c.arguments_end.ensures.err
    (subst (λ (n : ℕ). Keeps c.args.ops.now s (turns.Has c.args.frame.start 0 c.args.frame.max) (record c.args.self.now { tokens = drop 1 c.args.self.now.tokens; pieces = slice_set c.args.self.now.pieces c.args.frame.start (Func c.args.name.now n ∷ []) }))
    (one_more c.args.before c.in-Some.count c.in-Some.ensures.1)
    (arguments_end c.args.ops.now c.args.name c.args.before c.args.frame.start c.args.frame.max c.args.self.now s h (seen_behind _ c.args.self.now _ _ c.self.view_is c.in-Closes.is c.behind_argument.ensures)))

pub returns-in-Comma : goal.returns-in-Comma
returns-in-Comma c = λ s h.
    made c.args.ops.now s c.next_argument.result (turns.Expects 999) c.next_argument.new.self
    (record c.args.self.now { tokens = drop 1 c.args.self.now.tokens; frames = c.args.self.now.frames ++ record { construct = constructs.Arguments c.args.name c.in-Some.count; start = c.args.frame.start; max = c.args.frame.max } ∷ [] })
    c.next_argument.ensures.turn c.next_argument.ensures.ok c.next_argument.ensures.err
    (subst (λ (n : ℕ). Keeps c.args.ops.now s (turns.Expects 999) (record c.args.self.now { tokens = drop 1 c.args.self.now.tokens; frames = c.args.self.now.frames ++ record { construct = constructs.Arguments c.args.name n; start = c.args.frame.start; max = c.args.frame.max } ∷ [] }))
    (one_more c.args.before c.in-Some.count c.in-Some.ensures.1)
    (argument_follows c.args.ops.now c.args.name c.args.before c.args.frame.start c.args.frame.max c.args.self.now s h (seen_behind _ c.args.self.now _ _ c.self.view_is c.in-Comma.is c.behind_argument.ensures)))

pub returns-in-Bar : goal.returns-in-Bar
returns-in-Bar c = λ s h.
    argument_refused c.args.ops.now c.args.name c.args.before c.args.frame.start c.args.frame.max c.args.self.now s c.refused.result h
    (λ list name cells x e. ap (λ (b : Behind). behind_one c.args.ops.now name c.args.before cells x b) (seen_behind _ c.args.self.now _ _ c.self.view_is c.in-Bar.is c.behind_argument.ensures list)) c.refused.ensures

pub returns-in-Other : goal.returns-in-Other
returns-in-Other c = λ s h.
    argument_refused c.args.ops.now c.args.name c.args.before c.args.frame.start c.args.frame.max c.args.self.now s c.refused-in-Other.result h
    (λ list name cells x e. ap (λ (b : Behind). behind_one c.args.ops.now name c.args.before cells x b) (seen_behind _ c.args.self.now _ _ c.self.view_is c.in-Other.is c.behind_argument.ensures list)) c.refused-in-Other.ensures
