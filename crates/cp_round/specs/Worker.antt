-- A worker of a crew: the shell of an engine with what it asks, writes and calls by.
use Rattle.std.specs.Prelude.{◌≡◌, ℕ, Bool, IsTrue, true, false, List, ◌++◌, length}
use Rattle.cp_call.specs.declared.call.Entry.{Entry}
use Rattle.cp_call.specs.declared.item.Item.{Item}
use Rattle.cp_call.specs.declared.item.RemoteCall.{RemoteCall}
use Rattle.cp_call.specs.declared.item.RemoteReply.{RemoteReply}
use Rattle.cp_call.specs.declared.outcome.OutEntry.{OutEntry}
use Rattle.cp_call.specs.Added.{Leads}
use Rattle.cp_call.specs.Life.{Rule}
use Rattle.cp_call.specs.Running.{IsRunning}
use Rattle.cp_call.specs.Sound.{Object}
use Rattle.cp_shell.specs.Shell.{ShellView}

-- a worker: its engine's shell, whom it asks, where it writes, and who calls remote goals for it
pub record WorkerView (M A P C : Type 0) : Type 0 where
  pub shell : ShellView M
  pub asker : A
  pub port : P
  pub caller : C

-- A worker's engine is tied to what the worker asks and writes by: these have the engine's objects and serve its number, and
-- its events are a worker's life that tells just what was seen of the objects and written for it.
pub record IsTied (rule : Rule) (count : ℕ) (objects : List Object) (serves writes : ℕ → Bool) (seen : ℕ → ℕ → List Entry) (wrote : ℕ → List OutEntry) (n : ℕ) (items : List Item) : Type 0 where
  pub counts : count ≡ length objects
  pub asks : IsTrue (serves n)
  pub puts : IsTrue (writes n)
  pub running : IsRunning rule objects (seen n) (wrote n) n items

-- A worker later on: the same engine with events more, at the same objects and port. Once memory has stopped it, it stays
-- stopped. Where memory has not, the remote calls among these events led its caller from then to now.
pub record HasWorked {M A P C Code : Type 0} (code : M → Code) (stays : A → A → Type 0) (port_stays : P → P → Type 0) (went : C → RemoteCall → RemoteReply → C → Type 0) (w now : WorkerView M A P C) : Type 0 where
  pub number : now.shell.number ≡ w.shell.number
  pub code_is : code now.shell.machine ≡ code w.shell.machine
  pub asker : stays w.asker now.asker
  pub port : port_stays w.port now.port
  pub added : List Item
  pub items : now.shell.items ≡ w.shell.items ++ added
  pub stops : w.shell.is_stopped ≡ true → now.shell.is_stopped ≡ true
  pub calls : now.shell.is_stopped ≡ false → Leads went w.caller added now.caller
