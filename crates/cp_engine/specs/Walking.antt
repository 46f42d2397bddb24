-- A run of a goal that was started, and what it stands for.
use Rattle.std.specs.Prelude.{◌≡◌, ℕ, Bool, false, List, ◌++◌, Some}
use Rattle.cp_term.specs.declared.cell.Cell.{Cell}
use Rattle.cp_term.specs.Preorder.{arguments}
use Rattle.cp_term.specs.Substitution.{apply}
use Rattle.cp_call.specs.declared.item.Input.{Input}
use Rattle.cp_call.specs.declared.item.Next.{Next}
use Rattle.cp_code.specs.declared.by_tree.ProgramCode.{ProgramCode}
use Rattle.cp_code.specs.declared.program.Program.{Program}
use Rattle.cp_code.specs.Bodies.{seen_from}
use Rattle.cp_code.specs.Code.{Code}
use Rattle.cp_code.specs.Programs.{code_of}
use Rattle.cp_code.specs.Requests.{full_name, handed_out}
use Rattle.cp_code.specs.Tree.{asks, tree, without_module, goal_context}
use Rattle.cp_code.specs.Machine as machine
use Rattle.cp_code.specs.Machine.{meaning, ready}
use Rattle.cp_code.specs.Valid.{Ok}
use Rattle.cp_run.specs.declared.run.Run.{Run}
use Rattle.cp_run.specs.Gaining.{Row}
use Rattle.cp_run.specs.Shown.{shown}
use Rattle.cp_run.specs.Stands.{Stands}
use Rattle.cp_engine.specs.declared.started.Started.{Started}
use Rattle.cp_engine.specs.Good.{IsGood}

-- the goals of a program with its step budget
abbrev pub code : ProgramCode → Code
code c = code_of c.program c.steps

-- what an answer of a goal is an instance of, and what its error names
pub record IsStarted (p : Program) (s : Started) : Type 0 where
  pub answer : s.answer ≡ without_module s.goal (arguments s.goal)
  pub context : (budget : ℕ) → full_name s.context ≡ goal_context (code_of p budget) (seen_from p.first s.goal)

-- the goal has an answer
abbrev pub answer_row : Code → (goal : List Cell) → Row
answer_row c g rest s next level = machine.answers_move c g (handed_out (apply s (without_module g (arguments g))))

-- a run stands for what is still to come of a goal, once it was handed these inputs
pub record IsWalking (c : Code) (goal : List Cell) (past : List Input) (r : Run) : Type 0 where
  pub stands : Stands r
  pub valid : Ok (shown c r)
  pub left : (inputs : List Input) → meaning (tree c goal) (shown c r) inputs ≡ asks c goal (past ++ inputs)

-- it is ready to ask, behind some inputs
pub record IsReady (c : Code) (goal : List Cell) (r : Run) : Type 0 where
  pub past : List Input
  pub walking : IsWalking c goal past r
  pub due : Next
  pub asks : ready (shown c r) ≡ Some due

-- an engine: its program, the goal that was started, its run, and whether memory has stopped it
pub record State : Type 0 where
  pub code : ProgramCode
  pub started : Started
  pub run : Run
  pub failed : Bool

pub record IsEngine (e : State) : Type 0 where
  pub good : IsGood e.code.program
  pub runs : e.failed ≡ false → IsStarted e.code.program e.started × IsReady (code e.code) e.started.goal e.run

-- what its goal does next, behind these inputs
abbrev pub continuation : State → List Input → Next
continuation e inputs = meaning (tree (code e.code) e.started.goal) (shown (code e.code) e.run) inputs
