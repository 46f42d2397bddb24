-- Remote calls that are due are made.
use Rattle.std.proofs.Common.{◌≡◌, inl, inr, ℕ, ℤ, ◌++◌, List, [], ◌∷◌, length, refl, sym, ◌∙◌, ap, subst, Bool, true, false, Option, Some, None, append_assoc}
use Rattle.std.specs.Prelude.{not, MatchOption}
use Rattle.std.specs.List.{list_all}
use Rattle.std.proofs.lemmas.Bool.{and_from, and_parts}
use Rattle.cp_term.specs.declared.cell.Cell.{Cell}
use Rattle.cp_call.specs.declared.call.Entry.{Entry}
use Rattle.cp_call.specs.declared.item.Item.{Item}
use Rattle.cp_call.specs.declared.item.Item.TheVariants as item
use Rattle.cp_call.specs.declared.item.Input.{Input}
use Rattle.cp_call.specs.declared.item.Input.TheVariants as input
use Rattle.cp_call.specs.declared.item.Next.{Next}
use Rattle.cp_call.specs.declared.item.Next.TheVariants as next
use Rattle.cp_call.specs.declared.item.RemoteCall.{RemoteCall}
use Rattle.cp_call.specs.declared.item.RemoteReply.{RemoteReply}
use Rattle.cp_call.specs.declared.outcome.OutEntry.{OutEntry}
use Rattle.cp_call.specs.Added.{HasAdded, Leads}
use Rattle.cp_call.specs.Life as life
use Rattle.cp_call.specs.Sound.{Object}
use Rattle.cp_call.proofs.Adding.{HasAdded-none, HasAdded-silent, HasAdded-append}
use Rattle.cp_call.proofs.Growing.{append_nil}
use Rattle.cp_shell.specs.declared.stage.Stage.{Stage}
use Rattle.cp_shell.specs.declared.stage.Stage.TheVariants as stage
use Rattle.cp_shell.specs.Stage.{IsAt, IsRunningGoal, is_settled}
use Rattle.cp_shell.specs.Parked.{is_remote, is_remote_request, HasMade, HasMadeOne, HasMadeAtMost}
use Rattle.cp_shell.specs.Turn.{HasGone, IsParkedAt, HasTurned}
use Rattle.cp_shell.proofs.Turning.{last_stage-push}

-- the goal was handed the reply of its remote call
pub at_by_call : (rule : life.Rule) (count : ℕ) (was_continuation continuation : List Input → Next) (was_failed failed : Bool) (before now : List Item) (number : ℤ) (c : RemoteCall) (r : RemoteReply) (s : Stage)
    → IsRunningGoal rule count was_continuation was_failed (life.last_stage rule life.Idle before) number (next.Remote c)
    → now ≡ before ++ item.Remote c r ∷ []
    → ((goal : List Cell) (inputs : List Input) → ((more : List Input) → was_continuation more ≡ rule goal (inputs ++ more)) → IsAt rule count continuation failed (life.runs_on rule number goal (inputs ++ input.Remote r ∷ [])) s)
    → IsAt rule count continuation failed (life.last_stage rule life.Idle now) s
at_by_call rule count was_continuation continuation was_failed failed before now number c r s running is at =
    subst (λ x. IsAt rule count continuation failed (life.last_stage rule life.Idle x) s) (sym is)
    (subst (λ x. IsAt rule count continuation failed x s) (sym (last_stage-push rule life.Idle before (item.Remote c r)))
    (subst (λ x. IsAt rule count continuation failed (life.handed rule x (input.Remote r)) s) (sym running.stage) (at running.goal running.inputs running.goes_on)))

-- the code is the one that it was
pub at_as : {Code : Type 0} (asks : Code → life.Rule) (count : Code → ℕ) (k k0 : Code) (continuation : List Input → Next) (failed : Bool) (items : List Item) (s : Stage)
    → k ≡ k0 → IsAt (asks k) (count k) continuation failed (life.last_stage (asks k) life.Idle items) s → IsAt (asks k0) (count k0) continuation failed (life.last_stage (asks k0) life.Idle items) s
at_as asks count k k0 continuation failed items s e at = subst (λ x. IsAt (asks x) (count x) continuation failed (life.last_stage (asks x) life.Idle items) s) e at

pub life_as : {Code : Type 0} (asks : Code → life.Rule) (k k0 : Code) (items now : List Item)
    → k ≡ k0 → (life.IsWorkersLife (asks k) items → life.IsWorkersLife (asks k) now) → life.IsWorkersLife (asks k0) items → life.IsWorkersLife (asks k0) now
life_as asks k k0 items now e l = subst (λ x. life.IsWorkersLife (asks x) items → life.IsWorkersLife (asks x) now) e l

pub remote_append : (xs ys : List Item) → list_all is_remote xs ≡ true → list_all is_remote ys ≡ true → list_all is_remote (xs ++ ys) ≡ true
remote_append [] ys a b = b
remote_append (x ∷ xs) ys a b = and_from (is_remote x) (list_all is_remote (xs ++ ys)) (and_parts (is_remote x) (list_all is_remote xs) a).0 (remote_append xs ys (and_parts (is_remote x) (list_all is_remote xs) a).1 b)

-- remote calls lead on
pub leads_on : {C : Type 0} (went : C → RemoteCall → RemoteReply → C → Type 0) (from : C) (xs ys : List Item) (between to : C) → Leads went from xs between → Leads went between ys to → Leads went from (xs ++ ys) to
leads_on {C} went from [] ys between to e l = subst (λ x. Leads went x ys to) (sym e) l
leads_on {C} went from (item.Asked p c r ∷ xs) ys between to h l = leads_on went from xs ys between to h l
leads_on {C} went from (item.Wrote bytes r ∷ xs) ys between to h l = leads_on went from xs ys between to h l
leads_on {C} went from (item.Remote c r ∷ xs) ys between to h l = (h.0, (h.1.0, leads_on went h.0 xs ys between to h.1.1 l))
leads_on {C} went from (item.Given c ∷ xs) ys between to h l = leads_on went from xs ys between to h l
leads_on {C} went from (item.Answered r ∷ xs) ys between to h l = leads_on went from xs ys between to h l

-- an event that is no remote call leads nowhere
pub leads_nowhere : {C : Type 0} (went : C → RemoteCall → RemoteReply → C → Type 0) (from : C) (i : Item) → is_remote i ≡ false → Leads went from (i ∷ []) from
leads_nowhere went from (item.Asked p c r) h = refl
leads_nowhere went from (item.Wrote bytes r) h = refl
leads_nowhere went from (item.Remote c r) h = let z : true ≡ false = h in let w : ⊥ = cc in absurd w
leads_nowhere went from (item.Given c) h = refl
leads_nowhere went from (item.Answered r) h = refl

pub cancel : {X : Type 0} (xs ys zs : List X) → xs ++ ys ≡ xs ++ zs → ys ≡ zs
cancel [] ys zs e = e
cancel (x ∷ xs) ys zs e = cancel xs ys zs (let z : xs ++ ys ≡ xs ++ zs = cc in z)

-- what an event adds leads nowhere
pub leads_by_one : {C : Type 0} (went : C → RemoteCall → RemoteReply → C → Type 0) (from : C) (before now added : List Item) → HasMadeOne before now → now ≡ before ++ added → Leads went from added from
leads_by_one went from before now added (inl same) is =
    subst (λ x. Leads went from x from) (cancel before [] added (append_nil before ∙ (sym same ∙ is))) refl
leads_by_one went from before now added (inr one) is =
    subst (λ x. Leads went from x from) (cancel before (one.0 ∷ []) added (sym one.1 ∙ is)) (leads_nowhere went from one.0 one.2)

-- remote calls tell nothing of objects and port
pub HasAdded-remote : (os : List Object) (seen : ℕ → List Entry) (wrote : List OutEntry) (n : ℕ) (calls : List Item) → list_all is_remote calls ≡ true → HasAdded os seen seen wrote wrote n calls
HasAdded-remote os seen wrote n [] h = HasAdded-none os seen wrote n
HasAdded-remote os seen wrote n (item.Asked p c r ∷ calls) h = let w : ⊥ = cc in absurd w
HasAdded-remote os seen wrote n (item.Wrote bytes r ∷ calls) h = let w : ⊥ = cc in absurd w
HasAdded-remote os seen wrote n (item.Remote c r ∷ calls) h =
    HasAdded-append os seen seen seen wrote wrote wrote n (item.Remote c r ∷ []) calls (HasAdded-silent os seen wrote n (item.Remote c r) refl) (HasAdded-remote os seen wrote n calls h)
HasAdded-remote os seen wrote n (item.Given c ∷ calls) h = let w : ⊥ = cc in absurd w
HasAdded-remote os seen wrote n (item.Answered r ∷ calls) h = let w : ⊥ = cc in absurd w

pub made_at_most : (before now : List Item) → HasMadeOne before now → HasMadeAtMost before now
made_at_most before now (inl same) = inl same
made_at_most before now (inr one) = inr (record { event = one.0; own = one.2; calls = []; awake = inr refl; added = one.1; remote = refl })

pub gone_then : (before between now calls : List Item) → HasGone before between → now ≡ between ++ calls → list_all is_remote calls ≡ true → HasGone before now
gone_then before between now calls gone is remote = record {
  made = record {
    event = gone.made.event;
    own = gone.made.own;
    awake = inl gone.awake;
    calls = gone.made.calls ++ calls;
    added = is ∙ (ap (λ x. x ++ calls) gone.made.added ∙ append_assoc before (gone.made.event ∷ gone.made.calls) calls);
    remote = remote_append gone.made.calls calls gone.made.remote remote;
  };
  awake = gone.awake;
}

-- one that goes on with remote calls has made an event at most before them
pub made_then : (rule : life.Rule) (objects : List Object) (continuation : List Input → Next) (failed : Bool) (before between now calls : List Item) (seen : ℕ → List Entry) (n : ℕ) (was : Stage) (parked : Option ℕ)
    → HasTurned rule objects continuation failed before between seen n was parked → parked ≡ None → now ≡ between ++ calls → list_all is_remote calls ≡ true → HasMadeAtMost before now
made_then rule objects continuation failed before between now calls seen n was parked turned none is remote =
    inr (gone_then before between now calls (subst (λ p. MatchOption p (HasGone before between) (IsParkedAt rule objects seen n before between)) none turned.event) is remote).made

-- a turn goes on with remote calls
pub turned_then : (rule : life.Rule) (objects : List Object) (was_continuation continuation : List Input → Next) (was_failed failed : Bool) (before between now calls : List Item) (seen : ℕ → List Entry) (n : ℕ) (was s : Stage) (parked : Option ℕ)
    → HasTurned rule objects was_continuation was_failed before between seen n was parked → parked ≡ None
    → now ≡ between ++ calls → list_all is_remote calls ≡ true
    → IsAt rule (length objects) continuation failed (life.last_stage rule life.Idle now) s
    → (life.IsWorkersLife rule between → life.IsWorkersLife rule now)
    → HasTurned rule objects continuation failed before now seen n s None
turned_then rule objects was_continuation continuation was_failed failed before between now calls seen n was s parked turned none is remote at lives = record {
  event = gone_then before between now calls (subst (λ p. MatchOption p (HasGone before between) (IsParkedAt rule objects seen n before between)) none turned.event) is remote;
  at = at;
  life = λ l. lives (turned.life l);
}

-- no remote call is due where none is asked for
pub settled_by : (rule : life.Rule) (count : ℕ) (continuation : List Input → Next) (failed : Bool) (at : life.WorkerStage) (s : Stage)
    → IsAt rule count continuation failed at s → is_remote_request (life.request_at at) ≡ false → is_settled s ≡ true
settled_by rule count continuation failed at stage.Idle h e = refl
settled_by rule count continuation failed at (stage.Runs number request) h e =
    ap not (ap is_remote_request (sym (ap life.request_at h.stage)) ∙ e)
settled_by rule count continuation failed at (stage.Ends number end) h e = refl

-- and none is asked for where none is due
pub unasked_by : (rule : life.Rule) (count : ℕ) (continuation : List Input → Next) (failed : Bool) (at : life.WorkerStage) (s : Stage)
    → IsAt rule count continuation failed at s → is_settled s ≡ true → is_remote_request (life.request_at at) ≡ false
unasked_by rule count continuation failed at stage.Idle h e = ap (λ x. is_remote_request (life.request_at x)) h
unasked_by rule count continuation failed at (stage.Runs number request) h e = ap is_remote_request (ap life.request_at h.stage) ∙ not_true (is_remote_request request) e
  where
    not_true : (b : Bool) → not b ≡ true → b ≡ false
    not_true true k = let w : ⊥ = cc in absurd w
    not_true false k = refl
unasked_by rule count continuation failed at (stage.Ends number end) h e = ap (λ x. is_remote_request (life.request_at x)) h

-- a turn that leaves the worker parked leaves no remote call due
pub settled_by_parking : (rule : life.Rule) (objects : List Object) (continuation : List Input → Next) (failed : Bool) (before now : List Item) (seen : ℕ → List Entry) (n : ℕ) (s : Stage) (p : ℕ)
    → HasTurned rule objects continuation failed before now seen n s (Some p) → is_settled s ≡ true
settled_by_parking rule objects continuation failed before now seen n s p turned =
    settled_by rule (length objects) continuation failed (life.last_stage rule life.Idle now) s turned.at (ap is_remote_request turned.event.pending)

-- the same for a machine of the objects' number
pub at_for : {Code : Type 0} (asks : Code → life.Rule) (count : Code → ℕ) (k k0 : Code) (objects : ℕ) (continuation : List Input → Next) (failed : Bool) (items : List Item) (s : Stage)
    → k ≡ k0 → count k0 ≡ objects → IsAt (asks k) (count k) continuation failed (life.last_stage (asks k) life.Idle items) s → IsAt (asks k0) objects continuation failed (life.last_stage (asks k0) life.Idle items) s
at_for asks count k k0 objects continuation failed items s e same at =
    subst (λ n. IsAt (asks k0) n continuation failed (life.last_stage (asks k0) life.Idle items) s) same (at_as asks count k k0 continuation failed items s e at)

-- what an event added, and the remote calls after it, are added as a whole
pub added_then : (os : List Object) (seen now : ℕ → List Entry) (wrote wrote_now : List OutEntry) (n : ℕ) (before between after first calls : List Item)
    → between ≡ before ++ first → HasAdded os seen now wrote wrote_now n first → after ≡ between ++ calls → list_all is_remote calls ≡ true
    → (after ≡ before ++ (first ++ calls)) × HasAdded os seen now wrote wrote_now n (first ++ calls)
added_then os seen now wrote wrote_now n before between after first calls is has then remote = (
  then ∙ (ap (λ x. x ++ calls) is ∙ append_assoc before first calls),
  HasAdded-append os seen now now wrote wrote_now wrote_now n first calls has (HasAdded-remote os now wrote_now n calls remote),
)
