-- What a worker has done, one turn after another.
use Rattle.std.proofs.Common.{◌≡◌, ℕ, List, [], ◌++◌, refl, sym, ◌∙◌, ap, subst, append-nil, append_assoc, Bool, true, false}
use Rattle.std.specs.Prelude.{Result, Ok, Err, OnOk, MatchResult, IsTrue}
use Rattle.cp_call.specs.declared.call.Entry.{Entry}
use Rattle.cp_call.specs.declared.outcome.OutEntry.{OutEntry}
use Rattle.cp_call.specs.declared.item.Item.{Item}
use Rattle.cp_call.specs.declared.item.RemoteCall.{RemoteCall}
use Rattle.cp_call.specs.declared.item.RemoteReply.{RemoteReply}
use Rattle.cp_call.specs.Added.{HasAdded, AsksForOne, WritesForOne}
use Rattle.cp_call.specs.Life.{Rule, IsWorkersLife}
use Rattle.cp_call.specs.Sound.{Object}
use Rattle.cp_call.proofs.Running.{IsRunning-added}
use Rattle.cp_shell.specs.Shell.{ShellView}
use Rattle.cp_shell.proofs.Calling.{leads_on}
use Rattle.cp_round.specs.Worker.{WorkerView, IsTied, HasWorked}

awake_before : (b now : Bool) → (b ≡ true → now ≡ true) → now ≡ false → b ≡ false
awake_before true now stops is = let w : ⊥ = cc (stops refl, is) in absurd w
awake_before false now stops is = refl

module _ {M A P C Code : Type 0} (code : M → Code) (stays : A → A → Type 0) (port_stays : P → P → Type 0) (went : C → RemoteCall → RemoteReply → C → Type 0) where
  pub nothing_yet : ((a : A) → stays a a) → ((p : P) → port_stays p p) → (w : WorkerView M A P C) → HasWorked code stays port_stays went w w
  nothing_yet here port_here w = record {
    number = refl;
    code_is = refl;
    asker = here w.asker;
    port = port_here w.port;
    added = [];
    items = sym (append-nil w.shell.items);
    stops = λ h. h;
    calls = λ h. refl;
  }

  pub works_on : ((a b c : A) → stays a b → stays b c → stays a c) → ((p q r : P) → port_stays p q → port_stays q r → port_stays p r)
      → (w x y : WorkerView M A P C) → HasWorked code stays port_stays went w x → HasWorked code stays port_stays went x y → HasWorked code stays port_stays went w y
  works_on on port_on w x y a b = record {
    number = b.number ∙ a.number;
    code_is = b.code_is ∙ a.code_is;
    asker = on w.asker x.asker y.asker a.asker b.asker;
    port = port_on w.port x.port y.port a.port b.port;
    added = a.added ++ b.added;
    items = b.items ∙ (ap (λ xs. xs ++ b.added) a.items ∙ append_assoc w.shell.items a.added b.added);
    stops = λ h. b.stops (a.stops h);
    calls = λ h. leads_on went w.caller a.added b.added x.caller y.caller (a.calls (awake_before x.shell.is_stopped y.shell.is_stopped b.stops h)) (b.calls h);
  }

-- a turn leaves an engine tied to what it asks and writes by
pub still_tied : {M A P Code : Type 0} (code : M → Code) (asks : Code → Rule) (count : Code → ℕ) (objects : A → List Object) (serves : A → ℕ → Bool) (writes : P → ℕ → Bool) (seen : A → ℕ → ℕ → List Entry) (looked : A → ℕ → ℕ → ℕ) (wrote : P → ℕ → List OutEntry)
    (s t : ShellView M) (a b : A) (p q : P) (added : List Item)
    → IsTied (asks (code s.machine)) (count (code s.machine)) (objects a) (serves a) (writes p) (seen a) (wrote p) s.number s.items
    → t.number ≡ s.number → code t.machine ≡ code s.machine → t.items ≡ s.items ++ added
    → HasAdded (objects a) (seen a s.number) (seen b s.number) (wrote p s.number) (wrote q s.number) s.number added
    → (IsWorkersLife (asks (code s.machine)) s.items → IsWorkersLife (asks (code s.machine)) t.items)
    → AsksForOne s.number (objects a) (objects b) (serves a) (serves b) (seen a) (seen b) (looked a) (looked b)
    → WritesForOne s.number (writes p) (writes q) (wrote p) (wrote q)
    → IsTied (asks (code t.machine)) (count (code t.machine)) (objects b) (serves b) (writes q) (seen b) (wrote q) t.number t.items
still_tied {M} {A} {P} {Code} code asks count objects serves writes seen looked wrote s t a b p q added tied number code_is items has life others others_written =
    subst (λ k. IsTied (asks k) (count k) (objects b) (serves b) (writes q) (seen b) (wrote q) t.number t.items) (sym code_is)
    (subst (λ os. IsTied rule (count (code s.machine)) os (serves b) (writes q) (seen b) (wrote q) t.number t.items) (sym others.objects_stay)
    (subst (λ n. IsTied rule (count (code s.machine)) (objects a) (serves b) (writes q) (seen b) (wrote q) n t.items) (sym number)
    (subst (λ xs. IsTied rule (count (code s.machine)) (objects a) (serves b) (writes q) (seen b) (wrote q) s.number xs) (sym items) here)))
  where
    rule : Rule
    rule = asks (code s.machine)

    here : IsTied rule (count (code s.machine)) (objects a) (serves b) (writes q) (seen b) (wrote q) s.number (s.items ++ added)
    here = record {
      counts = tied.counts;
      asks = subst (λ x. IsTrue x) (sym (others.serves_stay s.number)) tied.asks;
      puts = subst (λ x. IsTrue x) (sym (others_written.serves_stay s.number)) tied.puts;
      running = IsRunning-added rule (objects a) (seen a s.number) (seen b s.number) (wrote p s.number) (wrote q s.number) s.number s.items added tied.running has
          (subst (λ xs. IsWorkersLife rule xs) items (life tied.running.life));
    }
