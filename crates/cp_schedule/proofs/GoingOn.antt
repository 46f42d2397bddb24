-- A turn of one worker takes the record of a run on.
use Rattle.std.proofs.Common.{◌≡◌, ◌≢◌, inl, inr, ℕ, suc, ◌+◌, ◌<◌, ◌==◌, List, [], ◌∷◌, ◌++◌, length, refl, sym, ◌∙◌, ap, subst, true, false, cond, Some, append_assoc}
use Rattle.std.specs.Prelude.{map, slice_get, slice_set, MatchBool, ◌||◌}
use Rattle.std.specs.List.{list_all, list_any}
use Rattle.std.proofs.lemmas.Bool.{and_parts, ltb-true}
use Rattle.std.proofs.lemmas.Bool.Decides.{eqb_tells}
use Rattle.cp_list.specs.Lists.{IsPrefix}
use Rattle.cp_call.specs.declared.call.Call.{Call}
use Rattle.cp_call.specs.declared.call.Reply.{Reply}
use Rattle.cp_call.specs.declared.call.Reply.TheVariants as reply
use Rattle.cp_call.specs.declared.call.Entry.{Entry}
use Rattle.cp_call.specs.declared.item.Item.{Item}
use Rattle.cp_call.specs.declared.item.Item.TheVariants as item
use Rattle.cp_call.specs.declared.item.PutReply.TheVariants as put
use Rattle.cp_call.specs.declared.outcome.EngineEnd.{EngineEnd}
use Rattle.cp_call.specs.declared.outcome.OutEntry.{OutEntry}
use Rattle.cp_call.specs.declared.outcome.Outcome.{Outcome}
use Rattle.cp_call.specs.Object.{is_parked}
use Rattle.cp_call.specs.History.{Limit, full, state_after}
use Rattle.cp_call.specs.Life as life
use Rattle.cp_call.specs.Asker.{IsFull}
use Rattle.cp_call.specs.Added.{HasAdded, WasFullSince, IsRightSince, IsRightEventSince}
use Rattle.cp_call.specs.Progress.{with_event, IsCalled, IsRefused, IsReplied, IsAnswered, GoesOn, GoesOnBy, Pick}
use Rattle.cp_call.specs.Sound.{Object, Setup, own_entries, own_writes, entry_unless_full, asked_entries, wrote_entries, is_of_objects, is_lane, has_failed, stays_failed}
use Rattle.cp_shell.specs.Parked.{is_remote}
use Rattle.cp_hall.specs.Hall.{HallObject, objects_of, history_of, history_at, with_more, AreLegal}
use Rattle.cp_schedule.specs.Record.{pred_now}
use Rattle.cp_schedule.specs.Turns.{pick_at}
use Rattle.cp_schedule.proofs.Lists.{append_nil, cancel, get_map, get_set, set_same, set_set, get_there, only_mine}
use Rattle.cp_schedule.proofs.Histories.{same_hall, more_hall, preds_more, follows_there}

-- remote calls add no entries
asked_remote : (n p : ℕ) (calls : List Item) → list_all is_remote calls ≡ true → asked_entries n p calls ≡ []
asked_remote n p [] h = refl
asked_remote n p (item.Asked q c r ∷ calls) h = let w : ⊥ = cc in absurd w
asked_remote n p (item.Wrote bytes r ∷ calls) h = let w : ⊥ = cc in absurd w
asked_remote n p (item.Remote c r ∷ calls) h = asked_remote n p calls h
asked_remote n p (item.Given c ∷ calls) h = let w : ⊥ = cc in absurd w
asked_remote n p (item.Answered r ∷ calls) h = let w : ⊥ = cc in absurd w

wrote_remote : (n : ℕ) (calls : List Item) → list_all is_remote calls ≡ true → wrote_entries n calls ≡ []
wrote_remote n [] h = refl
wrote_remote n (item.Asked q c r ∷ calls) h = let w : ⊥ = cc in absurd w
wrote_remote n (item.Wrote bytes r ∷ calls) h = let w : ⊥ = cc in absurd w
wrote_remote n (item.Remote c r ∷ calls) h = wrote_remote n calls h
wrote_remote n (item.Given c ∷ calls) h = let w : ⊥ = cc in absurd w
wrote_remote n (item.Answered r ∷ calls) h = let w : ⊥ = cc in absurd w

full_more : (n : ℕ) (c : Call) (r : Reply) (rest : List Entry) → rest ≡ [] → entry_unless_full n c r rest ≡ entry_unless_full n c r []
full_more n c r rest e = ap (entry_unless_full n c r) e

asked_first : (n p : ℕ) (i : Item) (calls : List Item) → list_all is_remote calls ≡ true → asked_entries n p (i ∷ calls) ≡ asked_entries n p (i ∷ [])
asked_first n p (item.Asked q c r) calls h = ap (λ rest. cond (q == p) (entry_unless_full n c r rest) rest) (asked_remote n p calls h)
asked_first n p (item.Wrote bytes r) calls h = asked_remote n p calls h
asked_first n p (item.Remote c r) calls h = asked_remote n p calls h
asked_first n p (item.Given c) calls h = asked_remote n p calls h
asked_first n p (item.Answered r) calls h = asked_remote n p calls h

wrote_first : (n : ℕ) (i : Item) (calls : List Item) → list_all is_remote calls ≡ true → wrote_entries n (i ∷ calls) ≡ wrote_entries n (i ∷ [])
wrote_first n (item.Asked q c r) calls h = wrote_remote n calls h
wrote_first n (item.Wrote bytes r) calls h = ap (λ rest. record { engine = n; bytes = bytes; reply = r } ∷ rest) (wrote_remote n calls h)
wrote_first n (item.Remote c r) calls h = wrote_remote n calls h
wrote_first n (item.Given c) calls h = wrote_remote n calls h
wrote_first n (item.Answered r) calls h = wrote_remote n calls h

-- What an event of engine n makes of hall and port.
pub record Grows (n : ℕ) (hall now : List HallObject) (port port_now : List OutEntry) (i : Item) : Type 0 where
  pub objects : objects_of now ≡ objects_of hall
  pub histories : (q : ℕ) → history_at now q ≡ history_at hall q ++ asked_entries n q (i ∷ [])
  pub writes : port_now ≡ port ++ wrote_entries n (i ∷ [])
  pub known : is_of_objects (length (objects_of hall)) i ≡ true
  pub refusal : (p : ℕ) (o : Object) → slice_get (objects_of hall) p ≡ Some o → IsRightEventSince o p (history_at hall p) (history_at now p) n [] i
  pub failed : stays_failed port_now ≡ true
  pub legal : AreLegal now

pub grows_by : (n : ℕ) (hall now : List HallObject) (port port_now : List OutEntry) (i : Item) (calls : List Item)
    → objects_of now ≡ objects_of hall
    → HasAdded (objects_of hall) (history_at hall) (history_at now) (own_writes n port) (own_writes n port_now) n (i ∷ calls)
    → ((m q : ℕ) → m ≢ n → own_entries m (history_at now q) ≡ own_entries m (history_at hall q))
    → IsPrefix port port_now → ((m : ℕ) → m ≢ n → own_writes m port_now ≡ own_writes m port)
    → list_all is_remote calls ≡ true → stays_failed port_now ≡ true → AreLegal now
    → Grows n hall now port port_now i
grows_by n hall now port port_now i calls objects has others grows writers remote failed legal = record {
  objects = objects;
  histories = λ q. only_mine (λ (e : Entry). e.caller) n (history_at hall q) (history_at now q) (asked_entries n q (i ∷ [])) (has.grows q) (λ m d. others m q d)
      (has.asked q ∙ ap (λ r. own_entries n (history_at hall q) ++ r) (asked_first n q i calls remote));
  writes = only_mine (λ (w : OutEntry). w.engine) n port port_now (wrote_entries n (i ∷ [])) grows writers
      (has.writes ∙ ap (λ r. own_writes n port ++ r) (wrote_first n i calls remote));
  known = (and_parts (is_of_objects (length (objects_of hall)) i) (list_all (is_of_objects (length (objects_of hall))) calls) has.known).0;
  refusal = λ p o h. (has.refusals p o h).0;
  failed = failed;
  legal = legal;
}

-- an entry follows on the object that was asked
called : (s : Setup) (steps : ℕ) (engines engines_now : List EngineEnd) (n : ℕ) (hall now : List HallObject) (port port_now : List OutEntry) (p : ℕ) (c : Call) (r : Reply)
    → s.objects ≡ objects_of hall → Grows n hall now port port_now (item.Asked p c r) → entry_unless_full n c r [] ≡ record { caller = n; call = c; reply = r } ∷ []
    → IsCalled s (record { steps = steps; engines = engines; preds = map pred_now hall; port = port }) n p c r (record { steps = steps; engines = engines_now; preds = map pred_now now; port = port_now })
called s steps engines engines_now n hall now port port_now p c r same g not_full =
    let inside : p < length (objects_of hall) = ltb-true p (length (objects_of hall)) g.known in
    let within : p < length hall = subst (λ k. p < k) (length_objects hall) inside in
    let there = get_there hall p within in
    let e : Entry = record { caller = n; call = c; reply = r } in
    let grown : now ≡ with_more (e ∷ []) hall p = more_hall hall now p (e ∷ []) g.objects here (λ q d. elsewhere q d) inside in
    record {
      object = there.0.object;
      pred = pred_now there.0;
      object_at = subst (λ os. slice_get os p ≡ Some there.0.object) (sym same) (get_map (λ (o : HallObject). o.object) hall p there.0 there.1);
      pred_at = get_map pred_now hall p there.0 there.1;
      follows = follows_there hall p there.0 e there.1 (subst AreLegal grown g.legal);
      preds = ap (map pred_now) grown ∙ preds_more hall p there.0 e there.1;
      port = g.writes ∙ append_nil port;
    }
  where
    length_objects : (hall : List HallObject) → length (objects_of hall) ≡ length hall
    length_objects [] = refl
    length_objects (x ∷ hall) = ap suc (length_objects hall)

    here : history_at now p ≡ history_at hall p ++ record { caller = n; call = c; reply = r } ∷ []
    here = g.histories p ∙ ap (λ r. history_at hall p ++ r) (elim (eqb_tells p p) [
      | inl t ↦ ap (λ b. cond b (entry_unless_full n c r []) []) t.0 ∙ not_full
      | inr d ↦ absurd (d.1 refl)
    ])

    elsewhere : (q : ℕ) → p ≢ q → history_at now q ≡ history_at hall q
    elsewhere q d = elim (eqb_tells p q) [
      | inl t ↦ absurd (d t.1)
      | inr t ↦ g.histories q ∙ (ap (λ r. history_at hall q ++ r) (ap (λ b. cond b (entry_unless_full n c r []) []) t.0) ∙ append_nil (history_at hall q))
    ]

-- no object has changed
unchanged : (n : ℕ) (hall now : List HallObject) (port port_now : List OutEntry) (i : Item) → Grows n hall now port port_now i → ((q : ℕ) → asked_entries n q (i ∷ []) ≡ []) → now ≡ hall
unchanged n hall now port port_now i g none = same_hall hall now g.objects (λ q. g.histories q ∙ (ap (λ r. history_at hall q ++ r) (none q) ∙ append_nil (history_at hall q)))

begin_nil : {X : Type 0} (xs ys : List X) → [] ≡ xs ++ ys → xs ≡ []
begin_nil [] ys e = refl
begin_nil (x ∷ xs) ys e = let w : ⊥ = cc in absurd w

-- what was found between two equal lists is equal to them
between_same : {X : Type 0} (seen found now : List X) → IsPrefix seen found → IsPrefix found now → now ≡ seen → found ≡ seen
between_same seen found now a b e =
    let whole : seen ++ [] ≡ seen ++ (a.0 ++ b.0) = append_nil seen ∙ (sym e ∙ (b.1 ∙ (ap (λ r. r ++ b.0) a.1 ∙ append_assoc seen a.0 b.0))) in
    a.1 ∙ (ap (λ r. seen ++ r) (begin_nil a.0 b.0 (cancel seen [] (a.0 ++ b.0) whole)) ∙ append_nil seen)

full_at_once : (o : Object) (seen now : List Entry) (n : ℕ) (c : Call) (limit : Limit) → WasFullSince o seen now n [] c limit → now ≡ seen → IsFull o seen n c limit
full_at_once o seen now n c limit was e =
    let same : was.found ≡ seen = between_same seen was.found now was.begins was.ends e in
    record { reached = subst (λ h. full o.kind o.opening h c ≡ Some limit) same was.reached; awake = subst (λ h. is_parked (state_after o.kind o.opening h) n ≡ false) same was.awake }

refused : (s : Setup) (steps : ℕ) (engines engines_now : List EngineEnd) (n : ℕ) (hall now : List HallObject) (port port_now : List OutEntry) (p : ℕ) (c : Call) (limit : Limit)
    → s.objects ≡ objects_of hall → Grows n hall now port port_now (item.Asked p c (reply.Full limit.by limit.count))
    → IsRefused s (record { steps = steps; engines = engines; preds = map pred_now hall; port = port }) n p c limit (record { steps = steps; engines = engines_now; preds = map pred_now now; port = port_now })
refused s steps engines engines_now n hall now port port_now p c limit same g =
    let inside : p < length (objects_of hall) = ltb-true p (length (objects_of hall)) g.known in
    let within : p < length hall = subst (λ k. p < k) (length_objects hall) inside in
    let there = get_there hall p within in
    let object : slice_get (objects_of hall) p ≡ Some there.0.object = get_map (λ (o : HallObject). o.object) hall p there.0 there.1 in
    let kept : now ≡ hall = unchanged n hall now port port_now (item.Asked p c (reply.Full limit.by limit.count)) g none in
    record {
      object = there.0.object;
      pred = pred_now there.0;
      object_at = subst (λ os. slice_get os p ≡ Some there.0.object) (sym same) object;
      pred_at = get_map pred_now hall p there.0 there.1;
      full = subst (λ h. IsFull there.0.object h n c limit) (ap history_of there.1) (full_at_once there.0.object (history_at hall p) (history_at now p) n c limit (right there.0.object object) (ap (λ h. history_at h p) kept));
      preds = ap (map pred_now) kept;
      port = g.writes ∙ append_nil port;
    }
  where
    length_objects : (hall : List HallObject) → length (objects_of hall) ≡ length hall
    length_objects [] = refl
    length_objects (x ∷ hall) = ap suc (length_objects hall)

    none : (q : ℕ) → asked_entries n q (item.Asked p c (reply.Full limit.by limit.count) ∷ []) ≡ []
    none q = elim (p == q) as (λ b. cond b (entry_unless_full n c (reply.Full limit.by limit.count) []) [] ≡ []) [ true ↦ refl | false ↦ refl ]

    right : (o : Object) → slice_get (objects_of hall) p ≡ Some o → WasFullSince o (history_at hall p) (history_at now p) n [] c limit
    right o h = elim (eqb_tells p p) [
      | inl t ↦ subst (λ b. MatchBool b (IsRightSince o (history_at hall p) (history_at now p) n [] c (reply.Full limit.by limit.count)) (Unit {0})) t.0 (g.refusal p o h)
      | inr d ↦ absurd (d.1 refl)
    ]

-- an answer of an object
replied : (s : Setup) (steps : ℕ) (engines engines_now : List EngineEnd) (n : ℕ) (hall now : List HallObject) (port port_now : List OutEntry) (p : ℕ) (c : Call) (r : Reply)
    → s.objects ≡ objects_of hall → Grows n hall now port port_now (item.Asked p c r)
    → IsReplied s (record { steps = steps; engines = engines; preds = map pred_now hall; port = port }) n p c r (record { steps = steps; engines = engines_now; preds = map pred_now now; port = port_now })
replied s steps engines engines_now n hall now port port_now p c (reply.Added place woken) same g = called s steps engines engines_now n hall now port port_now p c (reply.Added place woken) same g refl
replied s steps engines engines_now n hall now port port_now p c (reply.Found place fact) same g = called s steps engines engines_now n hall now port port_now p c (reply.Found place fact) same g refl
replied s steps engines engines_now n hall now port port_now p c reply.NoMore same g = called s steps engines engines_now n hall now port port_now p c reply.NoMore same g refl
replied s steps engines engines_now n hall now port port_now p c reply.Parked same g = called s steps engines engines_now n hall now port port_now p c reply.Parked same g refl
replied s steps engines engines_now n hall now port port_now p c (reply.Purged count) same g = called s steps engines engines_now n hall now port port_now p c (reply.Purged count) same g refl
replied s steps engines engines_now n hall now port port_now p c (reply.Replaced place woken) same g = called s steps engines engines_now n hall now port port_now p c (reply.Replaced place woken) same g refl
replied s steps engines engines_now n hall now port port_now p c (reply.Closed woken) same g = called s steps engines engines_now n hall now port port_now p c (reply.Closed woken) same g refl
replied s steps engines engines_now n hall now port port_now p c reply.Reopened same g = called s steps engines engines_now n hall now port port_now p c reply.Reopened same g refl
replied s steps engines engines_now n hall now port port_now p c reply.Left same g = called s steps engines engines_now n hall now port port_now p c reply.Left same g refl
replied s steps engines engines_now n hall now port port_now p c reply.NotParked same g = called s steps engines engines_now n hall now port port_now p c reply.NotParked same g refl
replied s steps engines engines_now n hall now port port_now p c (reply.Full by count) same g = refused s steps engines engines_now n hall now port port_now p c (record { by = by; count = count }) same g

-- a write fails where an earlier one has
fails_on : (port : List OutEntry) (w : OutEntry) → stays_failed (port ++ w ∷ []) ≡ true → list_any has_failed port ≡ true → has_failed w ≡ true
fails_on [] w h a = let z : ⊥ = cc in absurd z
fails_on (x ∷ port) w h a = elim x.reply as (λ r.
    elim r [ put.Wrote ↦ stays_failed (port ++ w ∷ []) | put.Failed ↦ list_all has_failed (port ++ w ∷ []) ] ≡ true
    → elim r [ put.Wrote ↦ false | put.Failed ↦ true ] || list_any has_failed port ≡ true
    → has_failed w ≡ true) [
      | put.Wrote ↦ λ g k. fails_on port w g k
      | put.Failed ↦ λ g k. last_all port g
    ] h a
  where
    last_all : (xs : List OutEntry) → list_all has_failed (xs ++ w ∷ []) ≡ true → has_failed w ≡ true
    last_all [] g = (and_parts (has_failed w) true g).0
    last_all (y ∷ xs) g = last_all xs (and_parts (has_failed y) (list_all has_failed (xs ++ w ∷ [])) g).1

-- what an event makes of the record
pub answered : (s : Setup) (steps : ℕ) (engines engines_now : List EngineEnd) (n : ℕ) (hall now : List HallObject) (port port_now : List OutEntry) (request : life.WorkerStage) (i : Item)
    → s.objects ≡ objects_of hall → life.IsRequest (life.request_at request) i → Grows n hall now port port_now i
    → IsAnswered s (record { steps = steps; engines = engines; preds = map pred_now hall; port = port }) n i (record { steps = steps; engines = engines_now; preds = map pred_now now; port = port_now })
answered s steps engines engines_now n hall now port port_now request (item.Asked p c r) same due g = replied s steps engines engines_now n hall now port port_now p c r same g
answered s steps engines engines_now n hall now port port_now request (item.Wrote bytes r) same due g = record {
  failed = fails_on port (record { engine = n; bytes = bytes; reply = r }) (subst (λ w. stays_failed w ≡ true) g.writes g.failed);
  preds = ap (map pred_now) (unchanged n hall now port port_now (item.Wrote bytes r) g (λ q. refl));
  port = g.writes;
}
answered s steps engines engines_now n hall now port port_now request (item.Remote c r) same due g = record {
  preds = ap (map pred_now) (unchanged n hall now port port_now (item.Remote c r) g (λ q. refl));
  port = g.writes ∙ append_nil port;
}
answered s steps engines engines_now n hall now port port_now request (item.Given c) same due g = absurd due
answered s steps engines engines_now n hall now port port_now request (item.Answered r) same due g = absurd due

-- the event of a turn
pub event_goes_on : (s : Setup) (steps : ℕ) (engines : List EngineEnd) (k : ℕ) (e : EngineEnd) (i : Item) (hall now : List HallObject) (port port_now : List OutEntry)
    → s.objects ≡ objects_of hall → slice_get engines k ≡ Some e → is_lane e.stand ≡ false → life.IsRequest (life.pending_request s.rule e.items) i → Grows (k + 1) hall now port port_now i
    → GoesOn s (record { steps = steps; engines = engines; preds = map pred_now hall; port = port }) k i (record { steps = steps; engines = slice_set engines k (with_event e i); preds = map pred_now now; port = port_now })
event_goes_on s steps engines k e i hall now port port_now same there worker due g = record {
  engine = e;
  engine_at = there;
  worker = worker;
  due = due;
  engines = refl;
  answered = answered s steps engines (slice_set engines k (with_event e i)) (k + 1) hall now port port_now (life.last_stage s.rule life.Idle e.items) i same due g;
}

last_stage-push : (rule : life.Rule) (s : life.WorkerStage) (items : List Item) (i : Item) → life.last_stage rule s (items ++ i ∷ []) ≡ life.stage_after rule (life.last_stage rule s items) i
last_stage-push rule s [] i = refl
last_stage-push rule s (x ∷ items) i = last_stage-push rule (life.stage_after rule s x) items i

call_answered : (s : Setup) (before after : Outcome) (n : ℕ) (i : Item) → is_remote i ≡ true → after.preds ≡ before.preds → after.port ≡ before.port → IsAnswered s before n i after
call_answered s before after n (item.Asked p c r) h a b = let w : ⊥ = cc in absurd w
call_answered s before after n (item.Wrote bytes r) h a b = let w : ⊥ = cc in absurd w
call_answered s before after n (item.Remote c r) h a b = record { preds = a; port = b }
call_answered s before after n (item.Given c) h a b = let w : ⊥ = cc in absurd w
call_answered s before after n (item.Answered r) h a b = let w : ⊥ = cc in absurd w

-- an engine with these events more
abbrev pub with_events : EngineEnd → List Item → EngineEnd
with_events e more = record e { items = e.items ++ more }

-- the remote calls of a turn
pub calls_go_on : (s : Setup) (before : Outcome) (k : ℕ) (e : EngineEnd) (calls : List Item)
    → slice_get before.engines k ≡ Some e → is_lane e.stand ≡ false → life.IsLifeFrom s.rule (life.last_stage s.rule life.Idle e.items) calls → list_all is_remote calls ≡ true
    → GoesOnBy s before (map (pick_at k) calls) (record before { engines = slice_set before.engines k (with_events e calls) })
calls_go_on s before k e [] there worker lives remote =
    ap (λ xs. record before { engines = xs }) (sym (ap (λ xs. slice_set before.engines k (record e { items = xs })) (append_nil e.items) ∙ set_same before.engines k e there))
calls_go_on s before k e (c ∷ calls) there worker lives remote =
    let parts = and_parts (is_remote c) (list_all is_remote calls) remote in
    let between : Outcome = record before { engines = slice_set before.engines k (with_event e c) } in
    let rest = calls_go_on s between k (with_event e c) calls (get_set before.engines k e (with_event e c) there) worker
    (subst (λ x. life.IsLifeFrom s.rule x calls) (sym (last_stage-push s.rule life.Idle e.items c)) lives.1) parts.1 in
    let same : slice_set (slice_set before.engines k (with_event e c)) k (with_events (with_event e c) calls) ≡ slice_set before.engines k (with_events e (c ∷ calls))
    = set_set before.engines k (with_event e c) (with_events (with_event e c) calls) ∙ ap (λ xs. slice_set before.engines k (record e { items = xs })) (append_assoc e.items (c ∷ []) calls) in (
      between,
      (
        record {
          engine = e;
          engine_at = there;
          worker = worker;
          due = lives.0;
          engines = refl;
          answered = call_answered s before between (k + 1) c parts.0 refl refl;
        },
        subst (λ xs. GoesOnBy s between (map (pick_at k) calls) (record before { engines = xs })) same rest,
      ),
    )

-- the events behind others of a life
life_behind : (rule : life.Rule) (s : life.WorkerStage) (items more : List Item) → life.IsLifeFrom rule s (items ++ more) → life.IsLifeFrom rule (life.last_stage rule s items) more
life_behind rule s [] more l = l
life_behind rule s (i ∷ items) more l = life_behind rule (life.stage_after rule s i) items more l.1

pub goes_on-on : (s : Setup) (before between after : Outcome) (xs ys : List Pick) → GoesOnBy s before xs between → GoesOnBy s between ys after → GoesOnBy s before (xs ++ ys) after
goes_on-on s before between after [] ys a b = subst (λ o. GoesOnBy s o ys after) (sym a) b
goes_on-on s before between after (x ∷ xs) ys a b = (a.0, (a.1.0, goes_on-on s a.0 between after xs ys a.1.1 b))

-- the turn as a whole
pub turn_goes_on : (s : Setup) (steps : ℕ) (engines : List EngineEnd) (k : ℕ) (e : EngineEnd) (i : Item) (calls : List Item) (hall now : List HallObject) (port port_now : List OutEntry)
    → s.objects ≡ objects_of hall → slice_get engines k ≡ Some e → is_lane e.stand ≡ false → life.IsWorkersLife s.rule (e.items ++ i ∷ calls) → list_all is_remote calls ≡ true → Grows (k + 1) hall now port port_now i
    → GoesOnBy s (record { steps = steps; engines = engines; preds = map pred_now hall; port = port }) (map (pick_at k) (i ∷ calls)) (record { steps = steps; engines = slice_set engines k (with_events e (i ∷ calls)); preds = map pred_now now; port = port_now })
turn_goes_on s steps engines k e i calls hall now port port_now same there worker lives remote g =
    let behind = life_behind s.rule life.Idle e.items (i ∷ calls) lives in
    let between : Outcome = record { steps = steps; engines = slice_set engines k (with_event e i); preds = map pred_now now; port = port_now } in
    let rest = calls_go_on s between k (with_event e i) calls (get_set engines k e (with_event e i) there) worker
    (subst (λ x. life.IsLifeFrom s.rule x calls) (sym (last_stage-push s.rule life.Idle e.items i)) behind.1) remote in
    let whole : slice_set (slice_set engines k (with_event e i)) k (with_events (with_event e i) calls) ≡ slice_set engines k (with_events e (i ∷ calls))
    = set_set engines k (with_event e i) (with_events (with_event e i) calls) ∙ ap (λ xs. slice_set engines k (record e { items = xs })) (append_assoc e.items (i ∷ []) calls) in (
      between,
      (
        event_goes_on s steps engines k e i hall now port port_now same there worker behind.0 g,
        subst (λ xs. GoesOnBy s between (map (pick_at k) calls) (record { steps = steps; engines = xs; preds = map pred_now now; port = port_now })) whole rest,
      ),
    )
