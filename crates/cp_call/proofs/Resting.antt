-- A worker that still waits rests: its last event is the call that was replied Parked.
use Rattle.std.proofs.Common.{◌≡◌, ◌⊎◌, inl, inr, ℕ, ◌==◌, List, [], ◌∷◌, ◌++◌, refl, sym, ◌∙◌, ap, subst, true, false, Bool, append_assoc}
use Rattle.std.specs.Prelude.{MatchBool}
use Rattle.std.proofs.lemmas.Bool.Decides.{eqb_tells}
use Rattle.std.proofs.lemmas.List.Elements.{filter-append}
use Rattle.cp_term.specs.declared.cell.Cell.{Cell}
use Rattle.cp_call.specs.declared.call.ObjectKind.{ObjectKind}
use Rattle.cp_call.specs.declared.call.Call.{Call}
use Rattle.cp_call.specs.declared.call.Reply.{Reply}
use Rattle.cp_call.specs.declared.call.Reply.TheVariants as reply
use Rattle.cp_call.specs.declared.call.FullBy.{FullBy}
use Rattle.cp_call.specs.declared.call.Entry.{Entry}
use Rattle.cp_call.specs.declared.item.Item.{Item}
use Rattle.cp_call.specs.declared.item.Item.TheVariants as item
use Rattle.cp_call.specs.declared.item.Next.TheVariants as next
use Rattle.cp_call.specs.Object.{State, is_parked}
use Rattle.cp_call.specs.History.{state_after}
use Rattle.cp_call.specs.Life as life
use Rattle.cp_call.specs.Sound.{Object, own_entries, entry_unless_full, asked_entries, WasFull, IsRightEvent, RightRefusals, AgreeOn, EndsParkedOn}
use Rattle.cp_call.specs.Asker.{IsWaiting}
use Rattle.cp_call.proofs.Growing.{state_after-push, append_nil, asked_entries-append}
use Rattle.cp_call.proofs.Parking.{others-step}

cons_nil : {X : Type 0} (x : X) (xs : List X) → x ∷ xs ≡ [] → ⊥
cons_nil x xs h = cc

pub own_head : (n : ℕ) (e : Entry) (es : List Entry) → own_entries n (e ∷ es) ≡ [] → ((e.caller == n) ≡ false) × (own_entries n es ≡ [])
own_head n e es h = elim (eqb_tells e.caller n) [
  | inl s ↦ absurd (cons_nil e (own_entries n es) (sym (let z : own_entries n (e ∷ es) ≡ e ∷ own_entries n es = rw s.0 refl in z) ∙ h))
  | inr d ↦ (d.0, sym (let z : own_entries n (e ∷ es) ≡ own_entries n es = rw d.0 refl in z) ∙ h)
]

-- calls of others park nobody
others_stay : (k : ObjectKind) (o : List (List Cell)) (seen later : List Entry) (n : ℕ) → own_entries n later ≡ [] → is_parked (state_after k o (seen ++ later)) n ≡ true → is_parked (state_after k o seen) n ≡ true
others_stay k o seen [] n own h = subst (λ b. is_parked (state_after k o b) n ≡ true) (append_nil seen) h
others_stay k o seen (e ∷ es) n own h =
    let head : ((e.caller == n) ≡ false) × (own_entries n es ≡ []) = own_head n e es own in
    let next : is_parked (state_after k o (seen ++ e ∷ [])) n ≡ true = others_stay k o (seen ++ e ∷ []) es n head.1 (subst (λ b. is_parked (state_after k o b) n ≡ true) (sym (append_assoc seen (e ∷ []) es)) h) in
    others-step (state_after k o seen) e.caller n e.call head.0 (subst (λ (s : State). is_parked s n ≡ true) (state_after-push k o seen e) next)

entry_cases : (n : ℕ) (c : Call) (r : Reply) (xs : List Entry) → (entry_unless_full n c r xs ≡ record { caller = n; call = c; reply = r } ∷ xs) ⊎ ((by : FullBy) × (count : ℕ) × (r ≡ reply.Full by count))
entry_cases n c (reply.Added place woken) xs = inl refl
entry_cases n c (reply.Found place fact) xs = inl refl
entry_cases n c reply.NoMore xs = inl refl
entry_cases n c reply.Parked xs = inl refl
entry_cases n c (reply.Purged count) xs = inl refl
entry_cases n c (reply.Replaced place woken) xs = inl refl
entry_cases n c (reply.Closed woken) xs = inl refl
entry_cases n c reply.Reopened xs = inl refl
entry_cases n c reply.Left xs = inl refl
entry_cases n c reply.NotParked xs = inl refl
entry_cases n c (reply.Full by count) xs = inr (by, count, refl)

-- An event that is an own entry on object p.
record IsOwn (n p : ℕ) (i : Item) (rest : List Item) : Type 0 where
  call : Call
  reply : Reply
  is : i ≡ item.Asked p call reply
  adds : asked_entries n p (i ∷ rest) ≡ record { caller = n; call = call; reply = reply } ∷ asked_entries n p rest

asked_head : (n p : ℕ) (i : Item) (rest : List Item) → (asked_entries n p (i ∷ rest) ≡ asked_entries n p rest) ⊎ IsOwn n p i rest
asked_head n p (item.Asked object c r) rest = elim (eqb_tells object p) [
  | inl s ↦ elim (entry_cases n c r (asked_entries n p rest)) [
    | inl k ↦ inr (record { call = c; reply = r; is = ap (λ q. item.Asked q c r) s.1; adds = rw s.0 k })
    | inr f ↦ inl (rw (s.0, f.2) refl)
  ]
  | inr d ↦ inl (rw d.0 refl)
]
asked_head n p (item.Wrote bytes r) rest = inl refl
asked_head n p (item.Remote c r) rest = inl refl
asked_head n p (item.Given c) rest = inl refl
asked_head n p (item.Answered r) rest = inl refl

-- The last own entry on object p, among the events.
record LastOwn (n p : ℕ) (items : List Item) (e : Entry) : Type 0 where
  before : List Item
  call : Call
  reply : Reply
  after : List Item
  splits : items ≡ before ++ item.Asked p call reply ∷ after
  none : asked_entries n p after ≡ []
  is : e.reply ≡ reply

shift : (n p : ℕ) (i : Item) (rest : List Item) (e : Entry) → LastOwn n p rest e → LastOwn n p (i ∷ rest) e
shift n p i rest e l = record { before = i ∷ l.before; call = l.call; reply = l.reply; after = l.after; splits = ap (λ x. i ∷ x) l.splits; none = l.none; is = l.is }

nil_snoc : (pre : List Entry) (e : Entry) → [] ≡ pre ++ e ∷ [] → ⊥
nil_snoc [] e h = cc
nil_snoc (x ∷ pre) e h = cc

last_own : (n p : ℕ) (items : List Item) (pre : List Entry) (e : Entry) → asked_entries n p items ≡ pre ++ e ∷ [] → LastOwn n p items e
last_own n p [] pre e h = absurd (nil_snoc pre e h)
last_own n p (i ∷ rest) pre e h = by_head (asked_head n p i rest) (λ q k. last_own n p rest q e k) pre h
  where
    by_head : (asked_entries n p (i ∷ rest) ≡ asked_entries n p rest) ⊎ IsOwn n p i rest
        → ((q : List Entry) → asked_entries n p rest ≡ q ++ e ∷ [] → LastOwn n p rest e)
        → (pre : List Entry) → asked_entries n p (i ∷ rest) ≡ pre ++ e ∷ [] → LastOwn n p (i ∷ rest) e
    by_head (inl same) again pre h = shift n p i rest e (again pre (sym same ∙ h))
    by_head (inr own) again [] h =
        let z : record { caller = n; call = own.call; reply = own.reply } ∷ asked_entries n p rest ≡ e ∷ [] = sym own.adds ∙ h in
        let tail : asked_entries n p rest ≡ [] = cc in
        let head : record { caller = n; call = own.call; reply = own.reply } ≡ e = cc in
        record { before = []; call = own.call; reply = own.reply; after = rest; splits = ap (λ x. x ∷ rest) own.is; none = tail; is = ap (λ (x : Entry). x.reply) (sym head) }
    by_head (inr own) again (x ∷ pre) h =
        let z : record { caller = n; call = own.call; reply = own.reply } ∷ asked_entries n p rest ≡ x ∷ (pre ++ e ∷ []) = sym own.adds ∙ h in
        let tail : asked_entries n p rest ≡ pre ++ e ∷ [] = cc in
        shift n p i rest e (again pre tail)

-- the events of a life from one of them on
life_at : (rule : life.Rule) (s : life.WorkerStage) (before : List Item) (x : Item) (after : List Item) → life.IsLifeFrom rule s (before ++ x ∷ after)
    → life.IsRequest (life.request_at (life.last_stage rule s before)) x × life.IsLifeFrom rule (life.stage_after rule (life.last_stage rule s before) x) after
life_at rule s [] x after h = h
life_at rule s (y ∷ before) x after h = life_at rule (life.stage_after rule s y) before x after h.1

-- after the reply Parked the same is asked again
same_request : (rule : life.Rule) (s : life.WorkerStage) (p : ℕ) (c : Call) → life.request_at (life.stage_after rule s (item.Asked p c reply.Parked)) ≡ life.request_at s
same_request rule life.Idle p c = refl
same_request rule (life.Runs number goal inputs request) p c = refl
same_request rule (life.Ends number end) p c = refl

-- an event that is a call of object p and adds no entry was refused for want of room
record WasRefused (p : ℕ) (i : Item) : Type 0 where
  call : Call
  by : FullBy
  count : ℕ
  is : i ≡ item.Asked p call (reply.Full by count)

refused_event : (n p : ℕ) (c : Call) (i : Item) (rest : List Item) → life.IsRequest (next.Ask p c) i → asked_entries n p (i ∷ rest) ≡ [] → WasRefused p i
refused_event n p c (item.Asked object c' r) rest q h =
    let same : p ≡ object = cc in
    let here : asked_entries n object (item.Asked object c' r ∷ rest) ≡ [] = subst (λ x. asked_entries n x (item.Asked object c' r ∷ rest) ≡ []) same h in
    elim (eqb_tells object object) [
      | inl s ↦ elim (entry_cases n c' r (asked_entries n object rest)) [
        | inl k ↦ absurd (cons_nil (record { caller = n; call = c'; reply = r }) (asked_entries n object rest)
            (sym (let z : asked_entries n object (item.Asked object c' r ∷ rest) ≡ record { caller = n; call = c'; reply = r } ∷ asked_entries n object rest = rw s.0 k in z) ∙ here))
        | inr f ↦ record { call = c'; by = f.0; count = f.1; is = ap (λ x. item.Asked x c' r) (sym same) ∙ ap (λ x. item.Asked p c' x) f.2 }
      ]
      | inr d ↦ absurd (d.1 refl)
    ]
refused_event n p c (item.Wrote bytes r) rest q h = cc
refused_event n p c (item.Remote c' r) rest q h = cc
refused_event n p c (item.Given c') rest q h = absurd q
refused_event n p c (item.Answered r) rest q h = absurd q

refusal_at : (o : Object) (p : ℕ) (history : List Entry) (n : ℕ) (earlier xs : List Item) (i : Item) (ys : List Item) → RightRefusals o p history n earlier (xs ++ i ∷ ys) → IsRightEvent o p history n (earlier ++ xs) i
refusal_at o p history n earlier [] i ys h = subst (λ e. IsRightEvent o p history n e i) (sym (append_nil earlier)) h.0
refusal_at o p history n earlier (x ∷ xs) i ys h = subst (λ e. IsRightEvent o p history n e i) (append_assoc earlier (x ∷ []) xs) (refusal_at o p history n (earlier ++ x ∷ []) xs i ys h.1)

cancel : (xs ys : List Entry) → xs ++ ys ≡ xs → ys ≡ []
cancel [] ys h = h
cancel (x ∷ xs) ys h = let z : xs ++ ys ≡ xs = cc in cancel xs ys z

right_at : (o : Object) (p : ℕ) (history : List Entry) (n : ℕ) (earlier : List Item) (c : Call) (by : FullBy) (count : ℕ) → IsRightEvent o p history n earlier (item.Asked p c (reply.Full by count)) → WasFull o history n (asked_entries n p earlier) c (record { by = by; count = count })
right_at o p history n earlier c by count h = elim (eqb_tells p p) [
  | inl s ↦ (let z : MatchBool true (WasFull o history n (asked_entries n p earlier) c (record { by = by; count = count })) (Unit {0}) = rw s.0 at h in z)
  | inr d ↦ absurd (d.1 refl)
]

clash : (b : Bool) → b ≡ true → b ≡ false → ⊥
clash b h k = cc

-- A worker whose events agree with an object's history, and who still waits there, was parked by its last event.
pub waiting_rests : (rule : life.Rule) (o : Object) (p : ℕ) (history : List Entry) (n : ℕ) (items : List Item) (c : Call)
    → life.IsWorkersLife rule items → AgreeOn o p history n items → IsWaiting o history n c → EndsParkedOn p items
waiting_rests rule o p history n items c l a w = by_after own.after own.splits own.none
  where
    own : LastOwn n p items w.last.1
    own = last_own n p items w.last.0 w.last.1 (sym a.entries ∙ w.last.2.0)

    parked : own.reply ≡ reply.Parked
    parked = sym own.is ∙ w.last.2.1

    first : List Item
    first = own.before ++ item.Asked p own.call own.reply ∷ []

    by_after : (after : List Item) → items ≡ own.before ++ item.Asked p own.call own.reply ∷ after → asked_entries n p after ≡ [] → EndsParkedOn p items
    by_after [] splits none = (own.before, own.call, splits ∙ ap (λ r. own.before ++ item.Asked p own.call r ∷ []) parked)
    by_after (i ∷ rest) splits none = absurd (
        let last : life.WorkerStage = life.last_stage rule life.Idle own.before in
        let from : life.IsRequest (life.request_at last) (item.Asked p own.call own.reply) × life.IsLifeFrom rule (life.stage_after rule last (item.Asked p own.call own.reply)) (i ∷ rest)
        = life_at rule life.Idle own.before (item.Asked p own.call own.reply) (i ∷ rest) (subst (λ x. life.IsWorkersLife rule x) splits l) in
        let again : life.request_at (life.stage_after rule last (item.Asked p own.call own.reply)) ≡ next.Ask p own.call
        = subst (λ r. life.request_at (life.stage_after rule last (item.Asked p own.call r)) ≡ next.Ask p own.call) (sym parked) (same_request rule last p own.call ∙ from.0) in
        let refused : WasRefused p i = refused_event n p own.call i rest (subst (λ q. life.IsRequest q i) again from.1.0) none in
        let parts : items ≡ first ++ i ∷ rest = splits ∙ sym (append_assoc own.before (item.Asked p own.call own.reply ∷ []) (i ∷ rest)) in
        let right : IsRightEvent o p history n first i = refusal_at o p history n [] first i rest (subst (λ x. RightRefusals o p history n [] x) parts a.refusals) in
        let full : WasFull o history n (asked_entries n p first) refused.call (record { by = refused.by; count = refused.count })
        = right_at o p history n first refused.call refused.by refused.count (subst (λ x. IsRightEvent o p history n first x) refused.is right) in
        let all_own : own_entries n history ≡ asked_entries n p first
        = a.entries ∙ (ap (asked_entries n p) parts ∙ (asked_entries-append n p first (i ∷ rest) ∙ (ap (λ x. asked_entries n p first ++ x) none ∙ append_nil (asked_entries n p first)))) in
        let later_none : own_entries n full.later ≡ []
        = cancel (own_entries n full.seen) (own_entries n full.later) (sym (filter-append (λ (x : Entry). x.caller == n) full.seen full.later) ∙ (ap (own_entries n) (sym full.begins) ∙ (all_own ∙ sym full.own))) in
        let still : is_parked (state_after o.kind o.opening full.seen) n ≡ true
        = others_stay o.kind o.opening full.seen full.later n later_none (subst (λ h. is_parked (state_after o.kind o.opening h) n ≡ true) full.begins w.parked) in
        clash (is_parked (state_after o.kind o.opening full.seen) n) still full.awake)
