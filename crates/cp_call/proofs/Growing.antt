-- What one event more does to a run: one entry at the end of a history, and one item at the end of an engine's.
use Rattle.std.proofs.Common.{◌≡◌, ℕ, ◌==◌, List, [], ◌∷◌, ◌++◌, refl, sym, ◌∙◌, ap, subst, true, false, Bool, cond, append_assoc}
use Rattle.std.specs.Prelude.{MatchBool}
use Rattle.cp_term.specs.declared.cell.Cell.{Cell}
use Rattle.cp_call.specs.declared.call.ObjectKind.{ObjectKind}
use Rattle.cp_call.specs.declared.call.Call.{Call}
use Rattle.cp_call.specs.declared.call.Reply.{Reply}
use Rattle.cp_call.specs.declared.call.Reply.TheVariants as reply
use Rattle.cp_call.specs.declared.call.Entry.{Entry}
use Rattle.cp_call.specs.declared.item.Item.{Item}
use Rattle.cp_call.specs.declared.item.Item.TheVariants as item
use Rattle.cp_call.specs.Object.{State, step, opening_state}
use Rattle.cp_call.specs.History.{state_from, state_after, MayFollow, LegalAfter, Legal, Limit}
use Rattle.cp_call.specs.Life as life
use Rattle.cp_call.specs.Sound.{Object, own_entries, entry_unless_full, asked_entries, wrote_entries, WasFull, IsRight, IsRightEvent, RightRefusals, AgreeOn}

pub append_nil : {X : Type 0} (xs : List X) → xs ++ [] ≡ xs
append_nil [] = refl
append_nil (x ∷ xs) = ap (λ r. x ∷ r) (append_nil xs)

pub state_from-append : (s : State) (xs ys : List Entry) → state_from s (xs ++ ys) ≡ state_from (state_from s xs) ys
state_from-append s [] ys = refl
state_from-append s (x ∷ xs) ys = state_from-append (step s x.caller x.call).state xs ys

-- the state after one entry more is a step further
pub state_after-push : (k : ObjectKind) (o : List (List Cell)) (history : List Entry) (e : Entry) → state_after k o (history ++ e ∷ []) ≡ (step (state_after k o history) e.caller e.call).state
state_after-push k o history e = state_from-append (opening_state k o) history (e ∷ [])

-- one more entry that may follow keeps a history legal
pub LegalAfter-push : (k : ObjectKind) (o : List (List Cell)) (before history : List Entry) (e : Entry) → LegalAfter k o before history → MayFollow k o (before ++ history) e → LegalAfter k o before (history ++ e ∷ [])
LegalAfter-push k o before [] e h f = let g : MayFollow k o before e = subst (λ b. MayFollow k o b e) (append_nil before) f in (g, tt)
LegalAfter-push k o before (x ∷ xs) e h f =
    let g : MayFollow k o ((before ++ x ∷ []) ++ xs) e = subst (λ b. MayFollow k o b e) (sym (append_assoc before (x ∷ []) xs)) f in
    (h.0, LegalAfter-push k o (before ++ x ∷ []) xs e h.1 g)

pub Legal-push : (k : ObjectKind) (o : List (List Cell)) (history : List Entry) (e : Entry) → Legal k o history → MayFollow k o history e → Legal k o (history ++ e ∷ [])
Legal-push k o history e h f = LegalAfter-push k o [] history e h f

-- one more event that is the pending request keeps a worker's life
pub IsLifeFrom-push : (rule : life.Rule) (s : life.WorkerStage) (items : List Item) (i : Item) → life.IsLifeFrom rule s items → life.IsRequest (life.request_at (life.last_stage rule s items)) i → life.IsLifeFrom rule s (items ++ i ∷ [])
IsLifeFrom-push rule s [] i h r = (r, tt)
IsLifeFrom-push rule s (x ∷ xs) i h r = (h.0, IsLifeFrom-push rule (life.stage_after rule s x) xs i h.1 r)

pub IsWorkersLife-push : (rule : life.Rule) (items : List Item) (i : Item) → life.IsWorkersLife rule items → life.IsRequest (life.pending_request rule items) i → life.IsWorkersLife rule (items ++ i ∷ [])
IsWorkersLife-push rule items i h r = IsLifeFrom-push rule life.Idle items i h r

entry_unless_full-append : (n : ℕ) (c : Call) (r : Reply) (xs ys : List Entry) → entry_unless_full n c r (xs ++ ys) ≡ entry_unless_full n c r xs ++ ys
entry_unless_full-append n c (reply.Added place woken) xs ys = refl
entry_unless_full-append n c (reply.Found place fact) xs ys = refl
entry_unless_full-append n c reply.NoMore xs ys = refl
entry_unless_full-append n c reply.Parked xs ys = refl
entry_unless_full-append n c (reply.Purged count) xs ys = refl
entry_unless_full-append n c (reply.Replaced place woken) xs ys = refl
entry_unless_full-append n c (reply.Closed woken) xs ys = refl
entry_unless_full-append n c reply.Reopened xs ys = refl
entry_unless_full-append n c reply.Left xs ys = refl
entry_unless_full-append n c reply.NotParked xs ys = refl
entry_unless_full-append n c (reply.Full by count) xs ys = refl

pub asked_entries-append : (n p : ℕ) (xs ys : List Item) → asked_entries n p (xs ++ ys) ≡ asked_entries n p xs ++ asked_entries n p ys
asked_entries-append n p [] ys = refl
asked_entries-append n p (item.Asked object c r ∷ xs) ys = elim (object == p) as (λ b.
    cond b (entry_unless_full n c r (asked_entries n p (xs ++ ys))) (asked_entries n p (xs ++ ys))
    ≡ cond b (entry_unless_full n c r (asked_entries n p xs)) (asked_entries n p xs) ++ asked_entries n p ys) [
      | true ↦ ap (entry_unless_full n c r) (asked_entries-append n p xs ys) ∙ entry_unless_full-append n c r (asked_entries n p xs) (asked_entries n p ys)
      | false ↦ asked_entries-append n p xs ys
    ]
asked_entries-append n p (item.Wrote bytes r ∷ xs) ys = asked_entries-append n p xs ys
asked_entries-append n p (item.Remote c r ∷ xs) ys = asked_entries-append n p xs ys
asked_entries-append n p (item.Given c ∷ xs) ys = asked_entries-append n p xs ys
asked_entries-append n p (item.Answered r ∷ xs) ys = asked_entries-append n p xs ys

pub wrote_entries-append : (n : ℕ) (xs ys : List Item) → wrote_entries n (xs ++ ys) ≡ wrote_entries n xs ++ wrote_entries n ys
wrote_entries-append n [] ys = refl
wrote_entries-append n (item.Wrote bytes r ∷ xs) ys = ap (λ w. record { engine = n; bytes = bytes; reply = r } ∷ w) (wrote_entries-append n xs ys)
wrote_entries-append n (item.Asked object c r ∷ xs) ys = wrote_entries-append n xs ys
wrote_entries-append n (item.Remote c r ∷ xs) ys = wrote_entries-append n xs ys
wrote_entries-append n (item.Given c ∷ xs) ys = wrote_entries-append n xs ys
wrote_entries-append n (item.Answered r ∷ xs) ys = wrote_entries-append n xs ys

-- a right refusal stays right as the history grows
WasFull-longer : (o : Object) (history more : List Entry) (n : ℕ) (mine : List Entry) (c : Call) (limit : Limit) → WasFull o history n mine c limit → WasFull o (history ++ more) n mine c limit
WasFull-longer o history more n mine c limit w = record {
  seen = w.seen;
  later = w.later ++ more;
  begins = ap (λ h. h ++ more) w.begins ∙ append_assoc w.seen w.later more;
  own = w.own;
  reached = w.reached;
  awake = w.awake;
}

IsRight-longer : (o : Object) (history more : List Entry) (n : ℕ) (mine : List Entry) (c : Call) (r : Reply) → IsRight o history n mine c r → IsRight o (history ++ more) n mine c r
IsRight-longer o history more n mine c (reply.Full by count) w = WasFull-longer o history more n mine c (record { by = by; count = count }) w
IsRight-longer o history more n mine c (reply.Added place woken) w = tt
IsRight-longer o history more n mine c (reply.Found place fact) w = tt
IsRight-longer o history more n mine c reply.NoMore w = tt
IsRight-longer o history more n mine c reply.Parked w = tt
IsRight-longer o history more n mine c (reply.Purged count) w = tt
IsRight-longer o history more n mine c (reply.Replaced place woken) w = tt
IsRight-longer o history more n mine c (reply.Closed woken) w = tt
IsRight-longer o history more n mine c reply.Reopened w = tt
IsRight-longer o history more n mine c reply.Left w = tt
IsRight-longer o history more n mine c reply.NotParked w = tt

right_by : (b : Bool) (o : Object) (history more : List Entry) (n : ℕ) (mine : List Entry) (c : Call) (r : Reply)
    → MatchBool b (IsRight o history n mine c r) (Unit {0})
    → MatchBool b (IsRight o (history ++ more) n mine c r) (Unit {0})
right_by true o history more n mine c r w = IsRight-longer o history more n mine c r w
right_by false o history more n mine c r w = tt

IsRightEvent-longer : (o : Object) (p : ℕ) (history more : List Entry) (n : ℕ) (earlier : List Item) (i : Item) → IsRightEvent o p history n earlier i → IsRightEvent o p (history ++ more) n earlier i
IsRightEvent-longer o p history more n earlier (item.Asked object c r) w = right_by (object == p) o history more n (asked_entries n p earlier) c r w
IsRightEvent-longer o p history more n earlier (item.Wrote bytes r) w = tt
IsRightEvent-longer o p history more n earlier (item.Remote c r) w = tt
IsRightEvent-longer o p history more n earlier (item.Given c) w = tt
IsRightEvent-longer o p history more n earlier (item.Answered r) w = tt

pub RightRefusals-longer : (o : Object) (p : ℕ) (history more : List Entry) (n : ℕ) (earlier items : List Item) → RightRefusals o p history n earlier items → RightRefusals o p (history ++ more) n earlier items
RightRefusals-longer o p history more n earlier [] w = tt
RightRefusals-longer o p history more n earlier (i ∷ items) w =
    (IsRightEvent-longer o p history more n earlier i w.0, RightRefusals-longer o p history more n (earlier ++ i ∷ []) items w.1)

RightRefusals-push : (o : Object) (p : ℕ) (history : List Entry) (n : ℕ) (earlier items : List Item) (i : Item) → RightRefusals o p history n earlier items → IsRightEvent o p history n (earlier ++ items) i → RightRefusals o p history n earlier (items ++ i ∷ [])
RightRefusals-push o p history n earlier [] i w r =
    let g : IsRightEvent o p history n earlier i = subst (λ e. IsRightEvent o p history n e i) (append_nil earlier) r in (g, tt)
RightRefusals-push o p history n earlier (x ∷ xs) i w r =
    let g : IsRightEvent o p history n ((earlier ++ x ∷ []) ++ xs) i = subst (λ e. IsRightEvent o p history n e i) (sym (append_assoc earlier (x ∷ []) xs)) r in
    (w.0, RightRefusals-push o p history n (earlier ++ x ∷ []) xs i w.1 g)

-- What an engine tells of an object stays so when the object's history grows and the engine has one event more, which
-- is its own entry among the new ones, or a right refusal, or an event of another object.
pub AgreeOn-push : (o : Object) (p : ℕ) (history more : List Entry) (n : ℕ) (items : List Item) (i : Item)
    → AgreeOn o p history n items
    → own_entries n (history ++ more) ≡ own_entries n history ++ asked_entries n p (i ∷ [])
    → IsRightEvent o p (history ++ more) n items i
    → AgreeOn o p (history ++ more) n (items ++ i ∷ [])
AgreeOn-push o p history more n items i a own right = record {
  entries = own ∙ (ap (λ h. h ++ asked_entries n p (i ∷ [])) a.entries ∙ sym (asked_entries-append n p items (i ∷ [])));
  refusals = RightRefusals-push o p (history ++ more) n [] items i (RightRefusals-longer o p history more n [] items a.refusals) right;
}
