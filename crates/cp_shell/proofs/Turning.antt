-- An event of a worker, from what was answered.
use Rattle.std.proofs.Common.{◌≡◌, inl, inr, ℕ, ℤ, ◌++◌, List, [], ◌∷◌, length, refl, sym, ◌∙◌, ap, subst, Bool, true, false, cond, Option, Some, None}
use Rattle.std.specs.Prelude.{MatchOption, slice_get, Result, Ok, Err, IfOk}
use Rattle.cp_term.specs.declared.cell.Cell.{Cell}
use Rattle.cp_term.specs.declared.cell.Cell.TheVariants.{Var}
use Rattle.cp_call.specs.declared.call.Call.TheVariants as call
use Rattle.cp_call.specs.declared.item.PutReply.{PutReply}
use Rattle.cp_call.specs.declared.item.Input.TheVariants as input
use Rattle.cp_call.specs.declared.call.Call.{Call}
use Rattle.cp_call.specs.declared.call.Entry.{Entry}
use Rattle.cp_call.specs.declared.call.Reply.{Reply}
use Rattle.cp_call.specs.declared.call.Reply.TheVariants as reply
use Rattle.cp_call.specs.declared.item.Item.{Item}
use Rattle.cp_call.specs.declared.item.Item.TheVariants as item
use Rattle.cp_call.specs.declared.item.Next.{Next}
use Rattle.cp_call.specs.declared.item.Next.TheVariants as next
use Rattle.cp_call.specs.declared.item.Input.{Input}
use Rattle.cp_call.specs.Life as life
use Rattle.cp_call.specs.Sound.{Object}
use Rattle.cp_call.proofs.Growing.{IsWorkersLife-push}
use Rattle.cp_shell.specs.declared.stage.Stage.{Stage}
use Rattle.cp_shell.specs.Stage.{IsAt, IsRunningGoal}
use Rattle.cp_shell.specs.Asked.{HasAskedOnce, StillWaits}
use Rattle.cp_shell.specs.Parked.{is_parking, is_remote, parked_by, HasMadeOne, HasMade}
use Rattle.cp_shell.specs.Turn.{parked_at, after_answer, HasGone, IsParkedAt, HasTurned}

pub last_stage-push : (rule : life.Rule) (s : life.WorkerStage) (items : List Item) (i : Item) → life.last_stage rule s (items ++ i ∷ []) ≡ life.stage_after rule (life.last_stage rule s items) i
last_stage-push rule s [] i = refl
last_stage-push rule s (x ∷ items) i = last_stage-push rule (life.stage_after rule s x) items i

pub parking_is : (r : Reply) → is_parking r ≡ true → r ≡ reply.Parked
parking_is (reply.Added place woken) h = cc
parking_is (reply.Found place fact) h = cc
parking_is reply.NoMore h = cc
parking_is reply.Parked h = refl
parking_is (reply.Purged count) h = cc
parking_is (reply.Replaced place woken) h = cc
parking_is (reply.Closed woken) h = cc
parking_is reply.Reopened h = cc
parking_is reply.Left h = cc
parking_is reply.NotParked h = cc
parking_is (reply.Full by count) h = cc

-- one event that the worker's stage asked for
pub turned_by_event : (rule : life.Rule) (objects : List Object) (continuation : List Input → Next) (failed : Bool) (before now : List Item) (seen : ℕ → List Entry) (n : ℕ) (i : Item) (stage : Stage) (parked : Option ℕ)
    → life.IsRequest (life.pending_request rule before) i
    → now ≡ before ++ i ∷ []
    → IsAt rule (length objects) continuation failed (life.stage_after rule (life.last_stage rule life.Idle before) i) stage
    → MatchOption parked (HasGone before now) (IsParkedAt rule objects seen n before now)
    → HasTurned rule objects continuation failed before now seen n stage parked
turned_by_event rule objects continuation failed before now seen n i stage parked request is at event = record {
  event = event;
  at = subst (λ x. IsAt rule (length objects) continuation failed (life.last_stage rule life.Idle x) stage) (sym is)
      (subst (λ x. IsAt rule (length objects) continuation failed x stage) (sym (last_stage-push rule life.Idle before i)) at);
  life = λ l. subst (λ x. life.IsWorkersLife rule x) (sym is) (IsWorkersLife-push rule before i l request);
}

gone_by : (before now : List Item) (i : Item) → now ≡ before ++ i ∷ [] → is_remote i ≡ false → parked_by i ≡ None → HasGone before now
gone_by before now i is own awake = record { made = record { event = i; own = own; calls = []; awake = inr refl; added = is; remote = refl }; awake = awake }

-- asking an object makes one event at most
pub made_by_asking : (before now : List Item) (p : ℕ) (c : Call) → HasAskedOnce before now p c → HasMadeOne before now
made_by_asking before now p c (inl same) = inl same
made_by_asking before now p c (inr more) = inr (item.Asked p c more.0, more.1, refl)

replied_same : (rule : life.Rule) (s : life.WorkerStage) → life.request_at (life.replied rule s reply.Parked) ≡ life.request_at s
replied_same rule life.Idle = refl
replied_same rule (life.Runs number goal inputs request) = refl
replied_same rule (life.Ends number end) = refl

-- a worker that was parked asks the same again
pending_parked : (rule : life.Rule) (before : List Item) (p : ℕ) (c : Call) → life.pending_request rule (before ++ item.Asked p c reply.Parked ∷ []) ≡ life.pending_request rule before
pending_parked rule before p c = ap life.request_at (last_stage-push rule life.Idle before (item.Asked p c reply.Parked)) ∙ replied_same rule (life.last_stage rule life.Idle before)

-- the event of a reply leaves the engine where the reply says
event_of_reply : (rule : life.Rule) (objects : List Object) (before now : List Item) (seen : ℕ → List Entry) (n p : ℕ) (c : Call) (r : Reply) (b : Bool) → life.pending_request rule before ≡ next.Ask p c → is_parking r ≡ b → now ≡ before ++ item.Asked p c r ∷ []
    → MatchOption (cond b (Some p) None) (HasGone before now) (IsParkedAt rule objects seen n before now)
event_of_reply rule objects before now seen n p c r true pending h is =
    let parked : now ≡ before ++ item.Asked p c reply.Parked ∷ [] = is ∙ ap (λ x. before ++ item.Asked p c x ∷ []) (parking_is r h) in
    record {
      call = c;
      pending = ap (life.pending_request rule) parked ∙ (pending_parked rule before p c ∙ pending);
      cause = inl parked;
    }
event_of_reply rule objects before now seen n p c r false pending h is = gone_by before now (item.Asked p c r) is refl (ap (λ b. cond b (Some p) None) h)

-- a call was answered, or the engine still waits
pub turned_by_answer : (rule : life.Rule) (objects : List Object) (continuation : List Input → Next) (failed : Bool) (before now : List Item) (seen : ℕ → List Entry) (n p : ℕ) (c : Call) (answer : Option Reply) (stage : Stage) (parked : Option ℕ)
    → life.pending_request rule before ≡ next.Ask p c
    → MatchOption answer (now ≡ before) (λ r. now ≡ before ++ item.Asked p c r ∷ [])
    → (answer ≡ None → StillWaits (slice_get objects p) (seen p) n c)
    → IsAt rule (length objects) continuation failed (after_answer rule (life.last_stage rule life.Idle before) answer) stage
    → parked ≡ parked_at p answer
    → HasTurned rule objects continuation failed before now seen n stage parked
turned_by_answer rule objects continuation failed before now seen n p c None stage parked pending is still at parked_is = record {
  event = subst (λ x. MatchOption x (HasGone before now) (IsParkedAt rule objects seen n before now)) (sym parked_is) (record { call = c; pending = ap (life.pending_request rule) is ∙ pending; cause = inr (is, still refl) });
  at = subst (λ x. IsAt rule (length objects) continuation failed (life.last_stage rule life.Idle x) stage) (sym is) at;
  life = λ l. subst (λ x. life.IsWorkersLife rule x) (sym is) l;
}
turned_by_answer rule objects continuation failed before now seen n p c (Some r) stage parked pending is still at parked_is =
    turned_by_event rule objects continuation failed before now seen n (item.Asked p c r) stage parked pending is at
    (subst (λ x. MatchOption x (HasGone before now) (IsParkedAt rule objects seen n before now)) (sym parked_is)
    (event_of_reply rule objects before now seen n p c r (is_parking r) pending refl is))

-- what follows from two things that hold of a result holds of it too
pub if_ok2 : {T E : Type 0} (r : Result T E) {A B C : T → Type 0} → IfOk r A → IfOk r B → ((x : T) → A x → B x → C x) → IfOk r C
if_ok2 (Ok x) h k f = f x h k
if_ok2 (Err e) h k f = tt

-- the list of goals was asked
pub turned_by_look : (rule : life.Rule) (count : ℕ) (objects : List Object) (continuation : List Input → Next) (failed : Bool) (before now : List Item) (seen : ℕ → List Entry) (n : ℕ) (pattern : List Cell) (answer : Option Reply) (stage : Stage) (parked : Option ℕ)
    → pattern ≡ Var 0 ∷ []
    → life.last_stage rule life.Idle before ≡ life.Idle
    → count ≡ length objects
    → MatchOption answer (now ≡ before) (λ r. now ≡ before ++ item.Asked 0 (call.Take pattern None) r ∷ [])
    → (answer ≡ None → StillWaits (slice_get objects 0) (seen 0) n (call.Take pattern None))
    → IsAt rule count continuation failed (after_answer rule life.Idle answer) stage
    → parked ≡ parked_at 0 answer
    → HasTurned rule objects continuation failed before now seen n stage parked
turned_by_look rule count objects continuation failed before now seen n pattern answer stage parked any idle same is still at parked_is =
    turned_by_answer rule objects continuation failed before now seen n 0 (call.Take pattern None) answer stage parked
    (ap life.request_at idle ∙ ap (λ t. next.Ask 0 (call.Take t None)) (sym any)) is still
    (subst (λ k. IsAt rule k continuation failed (after_answer rule (life.last_stage rule life.Idle before) answer) stage) same
    (subst (λ s. IsAt rule count continuation failed (after_answer rule s answer) stage) (sym idle) at))
    parked_is

-- a goal asked an object
pub turned_by_ask : (rule : life.Rule) (count : ℕ) (objects : List Object) (was_continuation continuation : List Input → Next) (was_failed failed : Bool) (before now : List Item) (seen : ℕ → List Entry) (n : ℕ) (number : ℤ) (p : ℕ) (c : Call) (answer : Option Reply) (stage : Stage) (parked : Option ℕ)
    → IsRunningGoal rule count was_continuation was_failed (life.last_stage rule life.Idle before) number (next.Ask p c)
    → count ≡ length objects
    → MatchOption answer (now ≡ before) (λ r. now ≡ before ++ item.Asked p c r ∷ [])
    → (answer ≡ None → StillWaits (slice_get objects p) (seen p) n c)
    → IsAt rule count continuation failed (after_answer rule (life.last_stage rule life.Idle before) answer) stage
    → parked ≡ parked_at p answer
    → HasTurned rule objects continuation failed before now seen n stage parked
turned_by_ask rule count objects was_continuation continuation was_failed failed before now seen n number p c answer stage parked running same is still at parked_is =
    turned_by_answer rule objects continuation failed before now seen n p c answer stage parked
    (ap life.request_at running.stage) is still
    (subst (λ k. IsAt rule k continuation failed (after_answer rule (life.last_stage rule life.Idle before) answer) stage) same at)
    parked_is

-- the list of ended goals was told
pub turned_by_end : (rule : life.Rule) (objects : List Object) (continuation : List Input → Next) (failed : Bool) (before now : List Item) (seen : ℕ → List Entry) (n : ℕ) (number : ℤ) (end fact : List Cell) (answer : Option Reply) (stage : Stage) (parked : Option ℕ)
    → life.last_stage rule life.Idle before ≡ life.Ends number end
    → fact ≡ life.ended_fact number end
    → MatchOption answer (now ≡ before) (λ r. now ≡ before ++ item.Asked 1 (call.AddBack fact) r ∷ [])
    → (answer ≡ None → StillWaits (slice_get objects 1) (seen 1) n (call.AddBack fact))
    → IsAt rule (length objects) continuation failed (after_answer rule (life.Ends number end) answer) stage
    → parked ≡ parked_at 1 answer
    → HasTurned rule objects continuation failed before now seen n stage parked
turned_by_end rule objects continuation failed before now seen n number end fact answer stage parked ends fact_is is still at parked_is =
    turned_by_answer rule objects continuation failed before now seen n 1 (call.AddBack fact) answer stage parked
    (ap life.request_at ends ∙ ap (λ t. next.Ask 1 (call.AddBack t)) (sym fact_is)) is still
    (subst (λ s. IsAt rule (length objects) continuation failed (after_answer rule s answer) stage) (sym ends) at)
    parked_is

-- a goal wrote
pub turned_by_put : (rule : life.Rule) (count : ℕ) (objects : List Object) (was_continuation continuation : List Input → Next) (was_failed failed : Bool) (before now : List Item) (seen : ℕ → List Entry) (n : ℕ) (number : ℤ) (bytes : List ℕ) (r : PutReply) (stage : Stage)
    → IsRunningGoal rule count was_continuation was_failed (life.last_stage rule life.Idle before) number (next.Put bytes)
    → count ≡ length objects
    → now ≡ before ++ item.Wrote bytes r ∷ []
    → ((goal : List Cell) (inputs : List Input) → ((more : List Input) → was_continuation more ≡ rule goal (inputs ++ more)) → IsAt rule count continuation failed (life.runs_on rule number goal (inputs ++ input.Put r ∷ [])) stage)
    → HasTurned rule objects continuation failed before now seen n stage None
turned_by_put rule count objects was_continuation continuation was_failed failed before now seen n number bytes r stage running same is at =
    turned_by_event rule objects continuation failed before now seen n (item.Wrote bytes r) stage None
    (ap life.request_at running.stage) is
    (subst (λ s. IsAt rule (length objects) continuation failed (life.handed rule s (input.Put r)) stage) (sym running.stage)
    (subst (λ k. IsAt rule k continuation failed (life.runs_on rule number running.goal (running.inputs ++ input.Put r ∷ [])) stage) same (at running.goal running.inputs running.goes_on)))
    (gone_by before now (item.Wrote bytes r) is refl refl)
