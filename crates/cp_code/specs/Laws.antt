-- What holds of trees.
use Rattle.std.specs.Prelude.{◌≡◌, ◌*◌, ◌<◌, ◌≤◌, Bool, IsTrue, ℕ, suc, ℤ, List, [], ◌∷◌, length, Some, codes}
use Rattle.cp_term.specs.declared.cell.Cell.{Cell}
use Rattle.cp_term.specs.Numbering.{next_variable}
use Rattle.cp_term.specs.Substitution.{Substitution}
use Rattle.cp_goal.specs.Builtins.{context}
use Rattle.cp_code.specs.Code.{Code}
use Rattle.cp_code.specs.Properties.{TypeRow, Test, without_types, test_by, has_within, has}
use Rattle.cp_call.specs.declared.item.Input.{Input}
use Rattle.cp_code.specs.Ends.{Named, Ended}
use Rattle.cp_code.specs.Units.{with_more, More}
use Rattle.cp_code.specs.Instrument.{instrument, ArePlain}
use Rattle.cp_call.specs.declared.item.How.TheVariants as how
use Rattle.cp_call.specs.declared.item.Next.{Next}
use Rattle.cp_call.specs.declared.item.Next.TheVariants as request
use Rattle.cp_call.specs.Life as life
use Rattle.cp_call.specs.Life.{runs_on}
use Rattle.cp_goal.specs.Errors.{word}
use Rattle.cp_code.specs.declared.program.Program.{Program}
use Rattle.cp_code.specs.Programs.{code_of}
use Rattle.cp_code.specs.Machine.{State, first_state, meaning, move, ready, told}
use Rattle.cp_code.specs.Valid.{Ok as StateOk}
use Rattle.cp_code.specs.Walk.{walk}
use Rattle.cp_code.specs.Tree.{asks, Item, Left, Run, Ends, Done, enter, tree, whole_row}

-- a tree is what its first goal's row says of the trees of the other lists of goals; its bound is never met
abbrev pub TreeIsRow : Type 0
TreeIsRow = (code : Code) (goal : List Cell) (items : List Item) (s : Substitution) (next level : ℕ) (left : Left) → tree code goal items s next level left ≡ whole_row (tree code goal) code goal items s next level left

-- an instrumented program asks what the program with its assertions asks
abbrev pub InstrumentedAsks : Type 0
InstrumentedAsks = (code : Code) → ArePlain code.preds → (goal : List Cell) (inputs : List Input) → asks code goal inputs ≡ asks (instrument code) goal inputs

-- instrumenting again changes nothing
abbrev pub InstrumentedAgain : Type 0
InstrumentedAgain = (code : Code) → instrument (instrument code) ≡ instrument code

-- a program as it is loaded has no predicate that only instrumenting makes
abbrev pub ProgramsArePlain : Type 0
ProgramsArePlain = (p : Program) (budget : ℕ) → ArePlain (code_of p budget).preds

-- so an instrumented program asks what the program asks as it was loaded
abbrev pub InstrumentedProgramAsks : Type 0
InstrumentedProgramAsks = (p : Program) (budget : ℕ) (goal : List Cell) (inputs : List Input) → asks (code_of p budget) goal inputs ≡ asks (instrument (code_of p budget)) goal inputs

-- the tree of a goal that is started, on these inputs
abbrev pub goal_tree : Code → List Cell → List Input → Run
goal_tree code goal inputs =
    enter (tree code goal) code.first goal [] (context code.first (codes "call") 1) [] [] (next_variable goal) 0
    (record { units = code.budget; inputs = inputs; copies = [] })

-- A goal whose tree ends Done has failed: what a worker that runs it tells of it is `fail`.
abbrev pub DoneTreeIsFailure : Type 0
DoneTreeIsFailure = (code : Code) (goal : List Cell) (inputs : List Input) (number : ℤ) (left : Left) → goal_tree code goal inputs ≡ Ends Done left → runs_on (asks code) number goal inputs ≡ life.Ends number (word (codes "fail"))

-- so a goal that has no more answers is told as `fail`
abbrev pub DoneIsFailure : Type 0
DoneIsFailure = (code : Code) (goal : List Cell) (inputs : List Input) (number : ℤ) → asks code goal inputs ≡ request.End how.Done → runs_on (asks code) number goal inputs ≡ life.Ends number (word (codes "fail"))

-- and it tells `fail` of no goal that has an answer, runs out of units, ends by a ball or still asks something
abbrev pub FailureIsDone : Type 0
FailureIsDone = (code : Code) (goal : List Cell) (inputs : List Input) (number : ℤ) → runs_on (asks code) number goal inputs ≡ life.Ends number (word (codes "fail")) → asks code goal inputs ≡ request.End how.Done

-- A tree ends by a cut or a throw only to levels and catchers that its goals name, or that it opened itself: whatever passes
-- for all levels above the last one and for all that the goals name passes for all that the end names.
abbrev pub EndsAreNamed : Type 0
EndsAreNamed = (passes : ℕ → Bool) (code : Code) (goal : List Cell) (items : List Item) (s : Substitution) (next level : ℕ) (left : Left)
    → ((j : ℕ) → level < j → IsTrue (passes j)) → Named (λ j. IsTrue (passes j)) items → Ended (λ j. IsTrue (passes j)) (tree code goal items s next level left)

-- What the machine is ready to ask, once it has taken all inputs, is what the goal's tree asks on them.
abbrev pub MachineAsksAsTheTree : Type 0
MachineAsksAsTheTree = (code : Code) (goal : List Cell) (inputs : List Input) (steps : ℕ) (n : Next) → walk code goal steps (first_state code goal) inputs ≡ Some n → asks code goal inputs ≡ n

-- a tree that does not end for want of units is the same with more of them, which are left over
abbrev pub MoreUnitsChangeNothing : Type 0
MoreUnitsChangeNothing = (code : Code) (goal : List Cell) (items : List Item) (s : Substitution) (next level : ℕ) (left : Left) (more : ℕ)
    → More more (tree code goal items s next level left) (tree code goal items s next level (with_more more left))

-- a property of the language or a regular type holds of a term at every greater depth where it holds at that of `has`, and
-- nowhere else
abbrev pub DepthIsEnough : Type 0
DepthIsEnough = (types : List TypeRow) (name : List ℕ) (t : List Cell) (n : ℕ) → suc (length types) * suc (length t) ≤ n → has_within types n name t ≡ has types name t

-- what `has` says of a term is what the clauses of the type say, with `has` itself for the properties that they demand
abbrev pub HasIsItsRow : Type 0
HasIsItsRow = (types : List TypeRow) (name : List ℕ) (t : List Cell) → has types name t ≡ test_by types (has types) (without_types name t) name t

-- and it is the least test of which this is so: it holds nowhere where a test does not that holds where the clauses say so
abbrev pub HasIsLeast : Type 0
HasIsLeast = (types : List TypeRow) (test : Test)
    → ((name : List ℕ) (t : List Cell) → IsTrue (test_by types test (without_types name t) name t) → IsTrue (test name t))
    → (name : List ℕ) (t : List Cell) → IsTrue (has types name t) → IsTrue (test name t)

-- from a state the machine comes to a request, an answer or an end behind all inputs, in some number of steps
abbrev pub Comes : Code → List Cell → State → List Input → Type 0
Comes code goal st inputs = (steps : ℕ) × (n : Next) × (walk code goal steps st inputs ≡ Some n)

abbrev pub MachineComesToAnAnswer : Type 0
MachineComesToAnAnswer = (code : Code) (goal : List Cell) (st : State) (inputs : List Input) → Comes code goal st inputs

-- from its first state it comes to what the goal's tree asks
abbrev pub MachineComesToTheAnswer : Type 0
MachineComesToTheAnswer = (code : Code) (goal : List Cell) (inputs : List Input) → (steps : ℕ) × (walk code goal steps (first_state code goal) inputs ≡ Some (asks code goal inputs))

-- The first state stands for the goal's tree, and its side condition holds.
abbrev pub FirstStateMeansTheTree : Type 0
FirstStateMeansTheTree = (code : Code) (goal : List Cell) → StateOk (first_state code goal) × ((inputs : List Input) → asks code goal inputs ≡ meaning (tree code goal) (first_state code goal) inputs)

-- A move keeps what a state stands for, and the side condition.
abbrev pub MovesKeepTheMeaning : Type 0
MovesKeepTheMeaning = (code : Code) (goal : List Cell) (st : State) → StateOk st
    → StateOk (move code goal st) × ((inputs : List Input) → meaning (tree code goal) st inputs ≡ meaning (tree code goal) (move code goal st) inputs)

-- A state that is ready asks what it stands for where no input is left, and an input that it takes is the first of those
-- for which it stands.
abbrev pub InputsKeepTheMeaning : Type 0
InputsKeepTheMeaning = (code : Code) (goal : List Cell) (st : State) (n : Next) → ready st ≡ Some n
    → (meaning (tree code goal) st [] ≡ n) × ((i : Input) → (StateOk st → StateOk (told st i)) × ((inputs : List Input) → meaning (tree code goal) st (i ∷ inputs) ≡ meaning (tree code goal) (told st i) inputs))
