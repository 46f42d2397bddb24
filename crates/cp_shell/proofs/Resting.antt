-- Where a turn leaves a worker, by its events.
use Rattle.std.proofs.Common.{◌≡◌, inl, inr, ℕ, zero, suc, ◌+◌, List, [], ◌∷◌, ◌++◌, length, refl, sym, ◌∙◌, ap, subst, true, false, Bool, Option, Some, None, arith}
use Rattle.std.specs.Prelude.{MatchOption, slice_get, is_some}
use Rattle.std.specs.List.{list_all}
use Rattle.std.proofs.lemmas.Bool.{and_parts}
use Rattle.cp_call.specs.declared.call.Call.{Call}
use Rattle.cp_call.specs.declared.call.Reply.TheVariants as reply
use Rattle.cp_call.specs.declared.call.Entry.{Entry}
use Rattle.cp_call.specs.declared.item.Item.{Item}
use Rattle.cp_call.specs.declared.item.Item.TheVariants as item
use Rattle.cp_call.specs.declared.item.Input.{Input}
use Rattle.cp_call.specs.declared.item.Next.{Next}
use Rattle.cp_call.specs.declared.outcome.OutEntry.{OutEntry}
use Rattle.cp_call.specs.Added.{HasAdded}
use Rattle.cp_call.specs.Life as life
use Rattle.cp_call.specs.Running.{IsRunning}
use Rattle.cp_call.specs.Sound.{Object, AgreeOn, AgreeFrom, Agrees, EndsParkedOn}
use Rattle.cp_call.proofs.Adding.{Agrees-added}
use Rattle.cp_call.proofs.Resting.{waiting_rests}
use Rattle.cp_shell.specs.declared.stage.Stage.{Stage}
use Rattle.cp_shell.specs.Asked.{StillWaits}
use Rattle.cp_shell.specs.Stage.{IsAt, is_settled}
use Rattle.cp_shell.specs.Parked.{parked_by, parked_after, parked_object, is_remote, is_remote_request, HasMade}
use Rattle.cp_shell.specs.Turn.{HasGone, IsParkedAt, HasTurned}
use Rattle.cp_shell.specs.Shell.{ShellView, IsAtTurn, HasTakenTurn}
use Rattle.cp_shell.proofs.Calling.{at_as, unasked_by}

-- what an engine tells of one object
agree_at : (q : ℕ) (os : List Object) (h : ℕ → List Entry) (n : ℕ) (items : List Item) (k : ℕ) (o : Object) (p : ℕ) → AgreeFrom q os h n items → slice_get os k ≡ Some o → p ≡ q + k → AgreeOn o p (h p) n items
agree_at q [] h n items k o p a e is = absurd (let z : ⊥ = cc in z)
agree_at q (x ∷ os) h n items zero o p a e is =
    let here : p ≡ q = omega (arith, is) in
    let same : x ≡ o = cc in
    subst (λ y. AgreeOn y p (h p) n items) same (subst (λ i. AgreeOn x i (h i) n items) (sym here) a.0)
agree_at q (x ∷ os) h n items (suc k) o p a e is = agree_at (q + 1) os h n items k o p a.1 e (omega (arith, is))

pub still_rests : (rule : life.Rule) (objects : List Object) (seen : ℕ → List Entry) (wrote : List OutEntry) (n : ℕ) (now : List Item) (p : ℕ) (c : Call) (o : Option Object)
    → slice_get objects p ≡ o → StillWaits o (seen p) n c → IsRunning rule objects seen wrote n now → EndsParkedOn p now
still_rests rule objects seen wrote n now p c None e s running = absurd s
still_rests rule objects seen wrote n now p c (Some o) e s running = waiting_rests rule o p (seen p) n now c running.life (agree_at 0 objects seen n now p o p running.agrees.asked e (omega arith)) s

-- a worker that is parked after a turn was parked by its last event
pub rests_after : (rule : life.Rule) (objects : List Object) (seen : ℕ → List Entry) (wrote : List OutEntry) (n : ℕ) (before now : List Item) (p : ℕ) → IsParkedAt rule objects seen n before now p → IsRunning rule objects seen wrote n now → EndsParkedOn p now
rests_after rule objects seen wrote n before now p parked running = elim parked.cause [
  | inl is ↦ (before, parked.call, is)
  | inr still ↦ still_rests rule objects seen wrote n now p parked.call (slice_get objects p) refl still.1 running
]

pub parked_after-append : (w : Option ℕ) (xs ys : List Item) → parked_after w (xs ++ ys) ≡ parked_after (parked_after w xs) ys
parked_after-append w [] ys = refl
parked_after-append w (x ∷ xs) ys = parked_after-append (parked_by x) xs ys

parked_remote : (calls : List Item) → list_all is_remote calls ≡ true → parked_after None calls ≡ None
parked_remote [] h = refl
parked_remote (item.Asked p c r ∷ calls) h = let w : ⊥ = cc in absurd w
parked_remote (item.Wrote bytes r ∷ calls) h = let w : ⊥ = cc in absurd w
parked_remote (item.Remote c r ∷ calls) h = parked_remote calls h
parked_remote (item.Given c ∷ calls) h = let w : ⊥ = cc in absurd w
parked_remote (item.Answered r ∷ calls) h = let w : ⊥ = cc in absurd w

-- a worker that went on is not parked
parked_gone : (before now : List Item) → HasGone before now → parked_object now ≡ None
parked_gone before now gone =
    ap parked_object gone.made.added
    ∙ (parked_after-append None before (gone.made.event ∷ gone.made.calls)
    ∙ (ap (λ w. parked_after w gone.made.calls) gone.awake ∙ parked_remote gone.made.calls gone.made.remote))

-- one that was parked by its last event is parked there
pub parked_rests : (p : ℕ) (items : List Item) → EndsParkedOn p items → parked_object items ≡ Some p
parked_rests p items ends = ap parked_object ends.2 ∙ parked_after-append None ends.0 (item.Asked p ends.1 reply.Parked ∷ [])

parked_turned : (rule : life.Rule) (objects : List Object) (before now : List Item) (seen : ℕ → List Entry) (wrote : List OutEntry) (n : ℕ) (parked : Option ℕ)
    → MatchOption parked (HasGone before now) (IsParkedAt rule objects seen n before now) → IsRunning rule objects seen wrote n now → parked ≡ parked_object now
parked_turned rule objects before now seen wrote n None event running = sym (parked_gone before now event)
parked_turned rule objects before now seen wrote n (Some p) event running = sym (parked_rests p now (rests_after rule objects seen wrote n before now p event running))

-- what a worker's events tell stays so
pub runs_on : (rule : life.Rule) (objects : List Object) (seen now : ℕ → List Entry) (wrote wrote_now : List OutEntry) (n : ℕ) (items items_now added : List Item)
    → IsRunning rule objects seen wrote n items → (life.IsWorkersLife rule items → life.IsWorkersLife rule items_now) → items_now ≡ items ++ added → HasAdded objects seen now wrote wrote_now n added
    → IsRunning rule objects now wrote_now n items_now
runs_on rule objects seen now wrote wrote_now n items items_now added running lives is has = record {
  life = lives running.life;
  agrees = subst (λ x. Agrees objects now wrote_now n x) (sym is) (Agrees-added objects seen now wrote wrote_now n items added running.agrees has);
}

-- what a shell keeps after a turn
pub kept_after : {Code : Type 0} (asks : Code → life.Rule) (count : Code → ℕ) (k k0 : Code) (objects : List Object) (continuation : List Input → Next) (failed : Bool) (before now : List Item) (seen : ℕ → List Entry) (wrote : List OutEntry) (n : ℕ) (s : Stage) (parked : Option ℕ)
    → k ≡ k0 → count k0 ≡ length objects
    → HasTurned (asks k0) objects continuation failed before now seen n s parked → is_settled s ≡ true → IsRunning (asks k0) objects seen wrote n now
    → IsAtTurn (asks k) (count k) continuation failed now parked s
kept_after asks count k k0 objects continuation failed before now seen wrote n s parked e same turned settled running = record {
  at = λ l. at_as asks count k0 k continuation failed now s (sym e)
      (subst (λ x. IsAt (asks k0) x continuation failed (life.last_stage (asks k0) life.Idle now) s) (sym same) turned.at);
  settled = settled;
  parked_is = parked_turned (asks k0) objects before now seen wrote n parked turned.event running;
}

-- how a turn went
pub taken : (rule : life.Rule) (objects : List Object) (before now : List Item) (seen : ℕ → List Entry) (n : ℕ) (parked : Option ℕ)
    → MatchOption parked (HasGone before now) (IsParkedAt rule objects seen n before now) → HasTakenTurn objects seen n before now
taken rule objects before now seen n None event = inl event.made
taken rule objects before now seen n (Some p) event = elim event.cause [
  | inl is ↦ inl (record { event = item.Asked p event.call reply.Parked; own = refl; calls = []; awake = inr refl; added = is; remote = refl })
  | inr still ↦ inr (p, event.call, still.0, still.1)
]

-- and that no remote call is due after it
pub unasked_after : (rule : life.Rule) (objects : List Object) (continuation : List Input → Next) (failed : Bool) (before now : List Item) (seen : ℕ → List Entry) (n : ℕ) (s : Stage) (parked : Option ℕ)
    → HasTurned rule objects continuation failed before now seen n s parked → is_settled s ≡ true → is_remote_request (life.pending_request rule now) ≡ false
unasked_after rule objects continuation failed before now seen n s parked turned settled = unasked_by rule (length objects) continuation failed (life.last_stage rule life.Idle now) s turned.at settled

-- the shell works, and its worker runs, by what contracts see of it
abbrev pub IsAtWork : {M : Type 0} → (rule : M → life.Rule) → (objects : List Object) → (seen : ℕ → ℕ → List Entry) → (wrote : ℕ → List OutEntry) → ShellView M → Type 0
IsAtWork rule objects seen wrote v = v.is_stopped ≡ false → IsRunning (rule v.machine) objects (seen v.number) (wrote v.number) v.number v.items
