use Rattle.std.proofs.Common.{◌≡◌, ℕ, List, [], ◌∷◌, ◌++◌, subst}
use Rattle.std.specs.Prelude.{drop}
use Rattle.cp_read.specs.declared.behind.Behind as declared
use Rattle.cp_read.specs.declared.frame.Turn.TheVariants as turns
use Rattle.cp_read.specs.declared.frame.Construct.TheVariants as constructs
use Rattle.cp_read.specs.Lexemes.{lexemes}
use Rattle.cp_read.specs.Grammar.{behind_element, empty_list, list_cell}
use Rattle.cp_read.specs.Look.{IsBehind}
use Rattle.cp_read.specs.Progress.{Progress}
use Rattle.cp_read.proofs.lemmas.MoreLaws.{list_ends, element_follows, tail_follows, element_refused, made}
use Rattle.cp_read.proofs.machine.Machine.element.Goals as goal

-- what stands behind the element, of the machine's tokens
seen_behind : (a b : Progress) (x y : declared.Behind) → a ≡ b → x ≡ y → ((list : List (List ℕ)) → IsBehind x (behind_element (lexemes list a.tokens)) (lexemes list (drop 1 a.tokens))) →
    (list : List (List ℕ)) → IsBehind y (behind_element (lexemes list b.tokens)) (lexemes list (drop 1 b.tokens))
seen_behind a b x y e f h = subst (λ (p : Progress). (list : List (List ℕ)) → IsBehind y (behind_element (lexemes list p.tokens)) (lexemes list (drop 1 p.tokens))) e
    (subst (λ (z : declared.Behind). (list : List (List ℕ)) → IsBehind z (behind_element (lexemes list a.tokens)) (lexemes list (drop 1 a.tokens))) f h)

pub returns-in-Closes : goal.returns-in-Closes
returns-in-Closes c = λ s h.
    made c.args.ops.now s c.list_end.result (turns.Has c.args.frame.start 0 c.args.frame.max) c.list_end.new.self (record c.args.self.now { tokens = drop 1 c.args.self.now.tokens; pieces = c.args.self.now.pieces ++ (empty_list ∷ []) ∷ [] })
    c.list_end.ensures.turn c.list_end.ensures.ok c.list_end.ensures.err
    (list_ends c.args.ops.now c.args.frame.start c.args.frame.max c.args.self.now s h (seen_behind _ c.args.self.now _ _ c.self.view_is c.in-Closes.is c.behind_element.ensures))

pub returns-in-Comma : goal.returns-in-Comma
returns-in-Comma c = λ s h.
    made c.args.ops.now s c.next_element.result (turns.Expects 999) c.next_element.new.self (record c.args.self.now { tokens = drop 1 c.args.self.now.tokens; pieces = c.args.self.now.pieces ++ (list_cell ∷ []) ∷ []; frames = c.args.self.now.frames ++ record { construct = constructs.Elements; start = c.args.frame.start; max = c.args.frame.max } ∷ [] })
    c.next_element.ensures.turn c.next_element.ensures.ok c.next_element.ensures.err
    (element_follows c.args.ops.now c.args.frame.start c.args.frame.max c.args.self.now s h (seen_behind _ c.args.self.now _ _ c.self.view_is c.in-Comma.is c.behind_element.ensures))

pub returns-in-Bar : goal.returns-in-Bar
returns-in-Bar c = λ s h.
    made c.args.ops.now s c.list_tail.result (turns.Expects 999) c.list_tail.new.self (record c.args.self.now { tokens = drop 1 c.args.self.now.tokens; frames = c.args.self.now.frames ++ record { construct = constructs.Tail; start = c.args.frame.start; max = c.args.frame.max } ∷ [] })
    c.list_tail.ensures.turn c.list_tail.ensures.ok c.list_tail.ensures.err
    (tail_follows c.args.ops.now c.args.frame.start c.args.frame.max c.args.self.now s h (seen_behind _ c.args.self.now _ _ c.self.view_is c.in-Bar.is c.behind_element.ensures))

pub returns-in-Other : goal.returns-in-Other
returns-in-Other c = λ s h.
    element_refused c.args.ops.now c.args.frame.start c.args.frame.max c.args.self.now s c.refused.result h
    (seen_behind _ c.args.self.now _ _ c.self.view_is c.in-Other.is c.behind_element.ensures) c.refused.ensures
