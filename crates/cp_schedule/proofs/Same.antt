-- Runs in which the writes are replied alike: what goes on from one moment comes to one moment.
use Rattle.std.proofs.Common.{◌≡◌, ◌≢◌, ℕ, zero, suc, ◌+◌, ◌%◌, List, [], ◌∷◌, ◌++◌, length, refl, sym, ◌∙◌, ap, subst, Bool, true, false, None, Option, Some, append_assoc}
use Rattle.std.specs.Prelude.{map, slice_get, slice_set, MatchBool}
use Rattle.std.specs.List.{list_all}
use Rattle.std.proofs.lemmas.Bool.{and_parts}
use Rattle.rand_pcg.specs.Lcg.{Lcg}
use Rattle.rand_pcg.specs.Pcg.{pcg32}
use Rattle.cp_list.specs.Lists.{IsPrefix}
use Rattle.cp_call.specs.declared.call.Call.{Call}
use Rattle.cp_call.specs.declared.call.Reply.{Reply}
use Rattle.cp_call.specs.declared.call.Reply.TheVariants as reply
use Rattle.cp_call.specs.declared.item.Item.{Item}
use Rattle.cp_call.specs.declared.item.Item.TheVariants as item
use Rattle.cp_call.specs.declared.item.Next.{Next}
use Rattle.cp_call.specs.declared.item.Next.TheVariants as next
use Rattle.cp_call.specs.declared.item.PutReply.{PutReply}
use Rattle.cp_call.specs.declared.item.RemoteReply.{RemoteReply}
use Rattle.cp_call.specs.declared.item.RemoteReply.TheVariants as remote
use Rattle.cp_call.specs.declared.outcome.EngineEnd.{EngineEnd}
use Rattle.cp_call.specs.declared.outcome.OutEntry.{OutEntry}
use Rattle.cp_call.specs.declared.outcome.PredEnd.{PredEnd}
use Rattle.cp_call.specs.declared.outcome.Outcome.{Outcome}
use Rattle.cp_call.specs.Object.{step}
use Rattle.cp_call.specs.History.{Limit, full, state_after}
use Rattle.cp_call.specs.Life.{IsRequest, pending_request}
use Rattle.cp_call.specs.Progress.{GoesOn, GoesOnBy, IsAnswered, IsCalled, IsElsewhere, IsRefused, IsReplied, IsWritten, Pick, with_entry, with_event}
use Rattle.cp_call.specs.Sound.{Object, Setup}
use Rattle.cp_call.proofs.Adding.{IsPrefix_refl, IsPrefix_trans}
use Rattle.cp_shell.specs.Parked.{is_remote, is_remote_request}
use Rattle.cp_schedule.specs.declared.end.Picked.{Picked}
use Rattle.cp_schedule.specs.Picked.{IsRunOfPicks}
use Rattle.cp_schedule.specs.Turns.{RunsBy, RunsToEnd, TakesNextTurn, TakesPick, TakesTurn, all_at_rest, awake_places, is_awake, is_no_dialer, is_undialled, names_awake, pick_at, puts_of}

-- Two moments that are the same but for the number of steps.
record Alike (a b : Outcome) : Type 0 where
  engines : a.engines ≡ b.engines
  preds : a.preds ≡ b.preds
  port : a.port ≡ b.port

-- how the writes were replied begins this list
abbrev pub IsPutsIn : List PutReply → Outcome → Type 0
IsPutsIn puts o = IsPrefix (puts_of o) puts

map_append : {A B : Type 0} (f : A → B) (xs ys : List A) → map f (xs ++ ys) ≡ map f xs ++ map f ys
map_append f [] ys = refl
map_append f (x ∷ xs) ys = ap (λ zs. f x ∷ zs) (map_append f xs ys)

puts_before : (puts : List PutReply) (a b : Outcome) → IsPrefix a.port b.port → IsPutsIn puts b → IsPutsIn puts a
puts_before puts a b grows h = (
  map (λ (w : OutEntry). w.reply) grows.0 ++ h.0,
  h.1 ∙ (ap (λ xs. map (λ (w : OutEntry). w.reply) xs ++ h.0) grows.1
      ∙ (ap (λ xs. xs ++ h.0) (map_append (λ (w : OutEntry). w.reply) a.port grows.0) ∙ append_assoc (puts_of a) (map (λ (w : OutEntry). w.reply) grows.0) h.0)),
)

next_same : {X : Type 0} (xs : List X) (x y : X) (t u : List X) → (xs ++ x ∷ []) ++ t ≡ (xs ++ y ∷ []) ++ u → x ≡ y
next_same [] x y t u e = cc
next_same (z ∷ xs) x y t u e = next_same xs x y t u (let w : (xs ++ x ∷ []) ++ t ≡ (xs ++ y ∷ []) ++ u = cc in w)

-- what an object replies by its history
abbrev expected : Object → PredEnd → ℕ → Call → Option Limit → Reply
expected o pred n c None = (step (state_after o.kind o.opening pred.history) n c).reply
expected o pred n c (Some limit) = reply.Full limit.by limit.count

record IsExpected (s : Setup) (before : Outcome) (n p : ℕ) (c : Call) (r : Reply) : Type 0 where
  object : Object
  pred : PredEnd
  object_at : slice_get s.objects p ≡ Some object
  pred_at : slice_get before.preds p ≡ Some pred
  reply_is : r ≡ expected object pred n c (full object.kind object.opening pred.history c)

called_expected : (s : Setup) (before : Outcome) (n p : ℕ) (c : Call) (r : Reply) (after : Outcome) → IsCalled s before n p c r after → IsExpected s before n p c r
called_expected s before n p c r after h = record {
  object = h.object;
  pred = h.pred;
  object_at = h.object_at;
  pred_at = h.pred_at;
  reply_is = h.follows.replied ∙ ap (expected h.object h.pred n c) (sym h.follows.room);
}

replied_expected : (s : Setup) (before : Outcome) (n p : ℕ) (c : Call) (r : Reply) (after : Outcome) → IsReplied s before n p c r after → IsExpected s before n p c r
replied_expected s before n p c (reply.Full by count) after h = record {
  object = h.object;
  pred = h.pred;
  object_at = h.object_at;
  pred_at = h.pred_at;
  reply_is = ap (expected h.object h.pred n c) (sym h.full.reached);
}
replied_expected s before n p c (reply.Added place woken) after h = called_expected s before n p c (reply.Added place woken) after h
replied_expected s before n p c (reply.Found place fact) after h = called_expected s before n p c (reply.Found place fact) after h
replied_expected s before n p c reply.NoMore after h = called_expected s before n p c reply.NoMore after h
replied_expected s before n p c reply.Parked after h = called_expected s before n p c reply.Parked after h
replied_expected s before n p c (reply.Purged count) after h = called_expected s before n p c (reply.Purged count) after h
replied_expected s before n p c (reply.Replaced place woken) after h = called_expected s before n p c (reply.Replaced place woken) after h
replied_expected s before n p c (reply.Closed woken) after h = called_expected s before n p c (reply.Closed woken) after h
replied_expected s before n p c reply.Reopened after h = called_expected s before n p c reply.Reopened after h
replied_expected s before n p c reply.Left after h = called_expected s before n p c reply.Left after h
replied_expected s before n p c reply.NotParked after h = called_expected s before n p c reply.NotParked after h

one_of : {X : Type 0} (o : Option X) (x y : X) → o ≡ Some x → o ≡ Some y → x ≡ y
one_of o x y a b = let e : Some x ≡ Some y = sym a ∙ b in cc

expected_same : (s : Setup) (a b : Outcome) (n p : ℕ) (c : Call) (r t : Reply) → a.preds ≡ b.preds → IsExpected s a n p c r → IsExpected s b n p c t → r ≡ t
expected_same s a b n p c r t same h k =
    let object : h.object ≡ k.object = one_of (slice_get s.objects p) h.object k.object h.object_at k.object_at in
    let pred : h.pred ≡ k.pred = one_of (slice_get b.preds p) h.pred k.pred (subst (λ ps. slice_get ps p ≡ Some h.pred) same h.pred_at) k.pred_at in
    h.reply_is
    ∙ (ap (λ (x : Object). expected x h.pred n c (full x.kind x.opening h.pred.history c)) object
    ∙ (ap (λ (x : PredEnd). expected k.object x n c (full k.object.kind k.object.opening x.history c)) pred ∙ sym k.reply_is))

called_alike : (s : Setup) (a b : Outcome) (n p : ℕ) (c : Call) (r : Reply) (a2 b2 : Outcome) → a.preds ≡ b.preds → a.port ≡ b.port → IsCalled s a n p c r a2 → IsCalled s b n p c r b2
    → (a2.preds ≡ b2.preds) × (a2.port ≡ b2.port)
called_alike s a b n p c r a2 b2 same port h k =
    let object : h.object ≡ k.object = one_of (slice_get s.objects p) h.object k.object h.object_at k.object_at in
    let pred : h.pred ≡ k.pred = one_of (slice_get b.preds p) h.pred k.pred (subst (λ ps. slice_get ps p ≡ Some h.pred) same h.pred_at) k.pred_at in (
      h.preds
          ∙ (ap (λ ps. slice_set ps p (with_entry h.object h.pred (record { caller = n; call = c; reply = r }))) same
          ∙ (ap (λ x. slice_set b.preds p (with_entry x h.pred (record { caller = n; call = c; reply = r }))) object
          ∙ (ap (λ x. slice_set b.preds p (with_entry k.object x (record { caller = n; call = c; reply = r }))) pred ∙ sym k.preds))),
      h.port ∙ (port ∙ sym k.port),
    )

replied_alike : (s : Setup) (a b : Outcome) (n p : ℕ) (c : Call) (r : Reply) (a2 b2 : Outcome) → a.preds ≡ b.preds → a.port ≡ b.port → IsReplied s a n p c r a2 → IsReplied s b n p c r b2
    → (a2.preds ≡ b2.preds) × (a2.port ≡ b2.port)
replied_alike s a b n p c (reply.Full by count) a2 b2 same port h k = (h.preds ∙ (same ∙ sym k.preds), h.port ∙ (port ∙ sym k.port))
replied_alike s a b n p c (reply.Added place woken) a2 b2 same port h k = called_alike s a b n p c (reply.Added place woken) a2 b2 same port h k
replied_alike s a b n p c (reply.Found place fact) a2 b2 same port h k = called_alike s a b n p c (reply.Found place fact) a2 b2 same port h k
replied_alike s a b n p c reply.NoMore a2 b2 same port h k = called_alike s a b n p c reply.NoMore a2 b2 same port h k
replied_alike s a b n p c reply.Parked a2 b2 same port h k = called_alike s a b n p c reply.Parked a2 b2 same port h k
replied_alike s a b n p c (reply.Purged count) a2 b2 same port h k = called_alike s a b n p c (reply.Purged count) a2 b2 same port h k
replied_alike s a b n p c (reply.Replaced place woken) a2 b2 same port h k = called_alike s a b n p c (reply.Replaced place woken) a2 b2 same port h k
replied_alike s a b n p c (reply.Closed woken) a2 b2 same port h k = called_alike s a b n p c (reply.Closed woken) a2 b2 same port h k
replied_alike s a b n p c reply.Reopened a2 b2 same port h k = called_alike s a b n p c reply.Reopened a2 b2 same port h k
replied_alike s a b n p c reply.Left a2 b2 same port h k = called_alike s a b n p c reply.Left a2 b2 same port h k
replied_alike s a b n p c reply.NotParked a2 b2 same port h k = called_alike s a b n p c reply.NotParked a2 b2 same port h k

replied_port : (s : Setup) (a : Outcome) (n p : ℕ) (c : Call) (r : Reply) (b : Outcome) → IsReplied s a n p c r b → b.port ≡ a.port
replied_port s a n p c (reply.Full by count) b h = h.port
replied_port s a n p c (reply.Added place woken) b h = h.port
replied_port s a n p c (reply.Found place fact) b h = h.port
replied_port s a n p c reply.NoMore b h = h.port
replied_port s a n p c reply.Parked b h = h.port
replied_port s a n p c (reply.Purged count) b h = h.port
replied_port s a n p c (reply.Replaced place woken) b h = h.port
replied_port s a n p c (reply.Closed woken) b h = h.port
replied_port s a n p c reply.Reopened b h = h.port
replied_port s a n p c reply.Left b h = h.port
replied_port s a n p c reply.NotParked b h = h.port

same_prefix : {X : Type 0} (xs ys : List X) → ys ≡ xs → IsPrefix xs ys
same_prefix xs ys e = subst (λ zs. IsPrefix xs zs) (sym e) (IsPrefix_refl xs)

answered_port : (s : Setup) (a : Outcome) (n : ℕ) (i : Item) (b : Outcome) → IsAnswered s a n i b → IsPrefix a.port b.port
answered_port s a n (item.Asked p c r) b h = same_prefix a.port b.port (replied_port s a n p c r b h)
answered_port s a n (item.Wrote bytes r) b h = (record { engine = n; bytes = bytes; reply = r } ∷ [], h.port)
answered_port s a n (item.Remote c r) b h = same_prefix a.port b.port h.port
answered_port s a n (item.Given c) b h = absurd h
answered_port s a n (item.Answered r) b h = absurd h

goes_port : (s : Setup) (a : Outcome) (picks : List Pick) (b : Outcome) → GoesOnBy s a picks b → IsPrefix a.port b.port
goes_port s a [] b h = same_prefix a.port b.port (sym (ap (λ (o : Outcome). o.port) h))
goes_port s a (p ∷ picks) b h = IsPrefix_trans a.port h.0.port b.port (answered_port s a (p.place + 1) p.event h.0 h.1.0.answered) (goes_port s h.0 picks b h.1.1)

no_dialer_is : (r : RemoteReply) → is_no_dialer r ≡ true → r ≡ remote.NoDialer
no_dialer_is (remote.Answers answers) h = cc
no_dialer_is remote.LinkFault h = cc
no_dialer_is remote.PeerEnded h = cc
no_dialer_is (remote.BadReply at) h = cc
no_dialer_is remote.NoDialer h = refl

wrote_reply : (puts : List PutReply) (a b : Outcome) (n : ℕ) (bytes : List ℕ) (r : PutReply) → IsWritten a n bytes r b → IsPutsIn puts b → (rest : List PutReply) × (puts ≡ (puts_of a ++ r ∷ []) ++ rest)
wrote_reply puts a b n bytes r h in_puts = (in_puts.0, in_puts.1 ∙ (ap (λ xs. map (λ (w : OutEntry). w.reply) xs ++ in_puts.0) h.port ∙ ap (λ xs. xs ++ in_puts.0) (map_append (λ (w : OutEntry). w.reply) a.port (record { engine = n; bytes = bytes; reply = r } ∷ []))))

-- What two answers of one request come to.
record IsSame (i j : Item) (a2 b2 : Outcome) : Type 0 where
  event : i ≡ j
  preds : a2.preds ≡ b2.preds
  port : a2.port ≡ b2.port

same_answer : (s : Setup) (puts : List PutReply) (a b : Outcome) (n : ℕ) (q : Next) (i j : Item) (a2 b2 : Outcome) → a.preds ≡ b.preds → a.port ≡ b.port → IsRequest q i → IsRequest q j
    → IsAnswered s a n i a2 → IsAnswered s b n j b2 → is_undialled i ≡ true → is_undialled j ≡ true → IsPutsIn puts a2 → IsPutsIn puts b2 → IsSame i j a2 b2
same_answer s puts a b n q (item.Asked p c r) (item.Asked p2 c2 t) a2 b2 preds port hi hj x y ui uj pa pb =
    let asked : next.Ask p c ≡ next.Ask p2 c2 = sym hi ∙ hj in
    let place : p ≡ p2 = cc in
    let call : c ≡ c2 = cc in
    let y2 : IsReplied s b n p c t b2 = subst (λ k. IsReplied s b n p k t b2) (sym call) (subst (λ k. IsReplied s b n k c2 t b2) (sym place) y) in
    let same : r ≡ t = expected_same s a b n p c r t preds (replied_expected s a n p c r a2 x) (replied_expected s b n p c t b2 y2) in
    let alike = replied_alike s a b n p c r a2 b2 preds port x (subst (λ k. IsReplied s b n p c k b2) (sym same) y2) in
    record {
      event = ap (λ k. item.Asked k c r) place ∙ (ap (λ k. item.Asked p2 k r) call ∙ ap (λ k. item.Asked p2 c2 k) same);
      preds = alike.0;
      port = alike.1;
    }
same_answer s puts a b n q (item.Asked p c r) (item.Wrote bytes t) a2 b2 preds port hi hj x y ui uj pa pb = let w : ⊥ = cc (hi, hj) in absurd w
same_answer s puts a b n q (item.Asked p c r) (item.Remote k t) a2 b2 preds port hi hj x y ui uj pa pb = let w : ⊥ = cc (hi, hj) in absurd w
same_answer s puts a b n q (item.Asked p c r) (item.Given k) a2 b2 preds port hi hj x y ui uj pa pb = absurd hj
same_answer s puts a b n q (item.Asked p c r) (item.Answered k) a2 b2 preds port hi hj x y ui uj pa pb = absurd hj
same_answer s puts a b n q (item.Wrote bytes r) (item.Asked p c t) a2 b2 preds port hi hj x y ui uj pa pb = let w : ⊥ = cc (hi, hj) in absurd w
same_answer s puts a b n q (item.Wrote bytes r) (item.Wrote bytes2 t) a2 b2 preds port hi hj x y ui uj pa pb =
    let put : next.Put bytes ≡ next.Put bytes2 = sym hi ∙ hj in
    let written : bytes ≡ bytes2 = cc in
    let wa = wrote_reply puts a a2 n bytes r x pa in
    let wb = wrote_reply puts b b2 n bytes2 t y pb in
    let same : r ≡ t = next_same (puts_of a) r t wa.0 wb.0 (sym wa.1 ∙ (wb.1 ∙ ap (λ xs. (map (λ (w : OutEntry). w.reply) xs ++ t ∷ []) ++ wb.0) (sym port))) in
    record {
      event = ap (λ k. item.Wrote k r) written ∙ ap (λ k. item.Wrote bytes2 k) same;
      preds = x.preds ∙ (preds ∙ sym y.preds);
      port = x.port
          ∙ (ap (λ xs. xs ++ record { engine = n; bytes = bytes; reply = r } ∷ []) port
          ∙ (ap (λ k. b.port ++ record { engine = n; bytes = k; reply = r } ∷ []) written ∙ (ap (λ k. b.port ++ record { engine = n; bytes = bytes2; reply = k } ∷ []) same ∙ sym y.port)));
    }
same_answer s puts a b n q (item.Wrote bytes r) (item.Remote k t) a2 b2 preds port hi hj x y ui uj pa pb = let w : ⊥ = cc (hi, hj) in absurd w
same_answer s puts a b n q (item.Wrote bytes r) (item.Given k) a2 b2 preds port hi hj x y ui uj pa pb = absurd hj
same_answer s puts a b n q (item.Wrote bytes r) (item.Answered k) a2 b2 preds port hi hj x y ui uj pa pb = absurd hj
same_answer s puts a b n q (item.Remote c r) (item.Asked p k t) a2 b2 preds port hi hj x y ui uj pa pb = let w : ⊥ = cc (hi, hj) in absurd w
same_answer s puts a b n q (item.Remote c r) (item.Wrote bytes t) a2 b2 preds port hi hj x y ui uj pa pb = let w : ⊥ = cc (hi, hj) in absurd w
same_answer s puts a b n q (item.Remote c r) (item.Remote c2 t) a2 b2 preds port hi hj x y ui uj pa pb =
    let called : next.Remote c ≡ next.Remote c2 = sym hi ∙ hj in
    let call : c ≡ c2 = cc in
    record {
      event = ap (λ k. item.Remote k r) call ∙ ap (λ k. item.Remote c2 k) (no_dialer_is r ui ∙ sym (no_dialer_is t uj));
      preds = x.preds ∙ (preds ∙ sym y.preds);
      port = x.port ∙ (port ∙ sym y.port);
    }
same_answer s puts a b n q (item.Remote c r) (item.Given k) a2 b2 preds port hi hj x y ui uj pa pb = absurd hj
same_answer s puts a b n q (item.Remote c r) (item.Answered k) a2 b2 preds port hi hj x y ui uj pa pb = absurd hj
same_answer s puts a b n q (item.Given c) j a2 b2 preds port hi hj x y ui uj pa pb = absurd hi
same_answer s puts a b n q (item.Answered r) j a2 b2 preds port hi hj x y ui uj pa pb = absurd hi

alike_event : (s : Setup) (puts : List PutReply) (a b : Outcome) (k : ℕ) (i j : Item) (a2 b2 : Outcome) → Alike a b → GoesOn s a k i a2 → GoesOn s b k j b2 → is_undialled i ≡ true → is_undialled j ≡ true → IsPutsIn puts a2 → IsPutsIn puts b2
    → Alike a2 b2
alike_event s puts a b k i j a2 b2 alike h g ui uj pa pb =
    let engine : h.engine ≡ g.engine = one_of (slice_get b.engines k) h.engine g.engine (subst (λ es. slice_get es k ≡ Some h.engine) alike.engines h.engine_at) g.engine_at in
    let same = same_answer s puts a b (k + 1) (pending_request s.rule h.engine.items) i j a2 b2 alike.preds alike.port h.due (subst (λ (e : EngineEnd). IsRequest (pending_request s.rule e.items) j) (sym engine) g.due) h.answered g.answered ui uj pa pb in
    record {
      engines = h.engines
          ∙ (ap (λ es. slice_set es k (with_event h.engine i)) alike.engines
          ∙ (ap (λ e. slice_set b.engines k (with_event e i)) engine ∙ (ap (λ x. slice_set b.engines k (with_event g.engine x)) same.event ∙ sym g.engines)));
      preds = same.preds;
      port = same.port;
    }

-- no remote call is due for the engine at a place
abbrev IsSettled : Setup → Outcome → ℕ → Type 0
IsSettled s o k = (e : EngineEnd) → slice_get o.engines k ≡ Some e → is_remote_request (pending_request s.rule e.items) ≡ false

remote_due : (q : Next) (i : Item) → IsRequest q i → is_remote i ≡ true → is_remote_request q ≡ true
remote_due q (item.Asked p c r) h is = let w : ⊥ = cc in absurd w
remote_due q (item.Wrote bytes r) h is = let w : ⊥ = cc in absurd w
remote_due q (item.Remote c r) h is = ap is_remote_request h
remote_due q (item.Given c) h is = let w : ⊥ = cc in absurd w
remote_due q (item.Answered r) h is = let w : ⊥ = cc in absurd w

-- so it makes no remote call then
unsettled : (s : Setup) (a b : Outcome) (k : ℕ) (i : Item) (b2 : Outcome) → a.engines ≡ b.engines → IsSettled s a k → GoesOn s b k i b2 → is_remote i ≡ true → ⊥
unsettled s a b k i b2 same settled g is =
    let none = settled g.engine (subst (λ es. slice_get es k ≡ Some g.engine) (sym same) g.engine_at) in
    let some = remote_due (pending_request s.rule g.engine.items) i g.due is in
    cc (none, some)

alike_calls : (s : Setup) (puts : List PutReply) (k : ℕ) (xs ys : List Item) (a b a2 b2 : Outcome) → Alike a b → GoesOnBy s a (map (pick_at k) xs) a2 → GoesOnBy s b (map (pick_at k) ys) b2
    → list_all is_remote xs ≡ true → list_all is_remote ys ≡ true → list_all is_undialled xs ≡ true → list_all is_undialled ys ≡ true → IsSettled s a2 k → IsSettled s b2 k → IsPutsIn puts a2 → IsPutsIn puts b2 → Alike a2 b2
alike_calls s puts k [] [] a b a2 b2 alike h g rx ry ux uy sa sb pa pb = subst (λ o. Alike o b2) h (subst (λ o. Alike a o) g alike)
alike_calls s puts k [] (y ∷ ys) a b a2 b2 alike h g rx ry ux uy sa sb pa pb =
    absurd (unsettled s a2 b k y g.0 (ap (λ (o : Outcome). o.engines) (sym h) ∙ alike.engines) sa g.1.0 (and_parts (is_remote y) (list_all is_remote ys) ry).0)
alike_calls s puts k (x ∷ xs) [] a b a2 b2 alike h g rx ry ux uy sa sb pa pb =
    absurd (unsettled s b2 a k x h.0 (ap (λ (o : Outcome). o.engines) (sym g) ∙ sym alike.engines) sb h.1.0 (and_parts (is_remote x) (list_all is_remote xs) rx).0)
alike_calls s puts k (x ∷ xs) (y ∷ ys) a b a2 b2 alike h g rx ry ux uy sa sb pa pb =
    let dx = and_parts (is_undialled x) (list_all is_undialled xs) ux in
    let dy = and_parts (is_undialled y) (list_all is_undialled ys) uy in
    alike_calls s puts k xs ys h.0 g.0 a2 b2
    (alike_event s puts a b k x y h.0 g.0 alike h.1.0 g.1.0 dx.0 dy.0 (puts_before puts h.0 a2 (goes_port s h.0 (map (pick_at k) xs) a2 h.1.1) pa) (puts_before puts g.0 b2 (goes_port s g.0 (map (pick_at k) ys) b2 g.1.1) pb))
    h.1.1 g.1.1 (and_parts (is_remote x) (list_all is_remote xs) rx).1 (and_parts (is_remote y) (list_all is_remote ys) ry).1 dx.1 dy.1 sa sb pa pb

same_outcome : (a b : Outcome) → a.steps ≡ b.steps → Alike a b → a ≡ b
same_outcome a b steps alike =
    ap (λ x. record { steps = x; engines = a.engines; preds = a.preds; port = a.port }) steps
    ∙ (ap (λ x. record { steps = b.steps; engines = x; preds = a.preds; port = a.port }) alike.engines
    ∙ (ap (λ x. record { steps = b.steps; engines = b.engines; preds = x; port = a.port }) alike.preds ∙ ap (λ x. record { steps = b.steps; engines = b.engines; preds = b.preds; port = x }) alike.port))

-- a turn comes to one moment
same_turn : (s : Setup) (puts : List PutReply) (o : Outcome) (k : ℕ) (a b : Outcome) → TakesTurn s o k a → TakesTurn s o k b → IsPutsIn puts a → IsPutsIn puts b → a ≡ b
same_turn s puts o k a b h g pa pb =
    let dh = and_parts (is_undialled h.event) (list_all is_undialled h.calls) h.undialled in
    let dg = and_parts (is_undialled g.event) (list_all is_undialled g.calls) g.undialled in
    same_outcome a b (h.steps ∙ sym g.steps)
    (alike_calls s puts k h.calls g.calls h.goes_on.0 g.goes_on.0 a b
    (alike_event s puts o o k h.event g.event h.goes_on.0 g.goes_on.0 (record { engines = refl; preds = refl; port = refl }) h.goes_on.1.0 g.goes_on.1.0 dh.0 dg.0
    (puts_before puts h.goes_on.0 a (goes_port s h.goes_on.0 (map (pick_at k) h.calls) a h.goes_on.1.1) pa) (puts_before puts g.goes_on.0 b (goes_port s g.goes_on.0 (map (pick_at k) g.calls) b g.goes_on.1.1) pb))
    h.goes_on.1.1 g.goes_on.1.1 h.remote g.remote dh.1 dg.1 h.settled g.settled pa pb)

turn_port : (s : Setup) (o : Outcome) (k : ℕ) (a : Outcome) → TakesTurn s o k a → IsPrefix o.port a.port
turn_port s o k a h = goes_port s o (map (pick_at k) (h.event ∷ h.calls)) a h.goes_on

same_next : (s : Setup) (puts : List PutReply) (words : Lcg) (o a b : Outcome) → TakesNextTurn s words o a → TakesNextTurn s words o b → IsPutsIn puts a → IsPutsIn puts b → a ≡ b
same_next s puts words o a b h g pa pb =
    let place : g.place ≡ h.place = one_of (slice_get (awake_places o) ((pcg32 words).0 % length (awake_places o))) g.place h.place g.picked h.picked in
    same_turn s puts o h.place a b h.turn (subst (λ k. TakesTurn s o k b) place g.turn) pa pb

run_port : (s : Setup) (words : Lcg) (turns : ℕ) (a end : Outcome) → RunsToEnd s words turns a end → IsPrefix a.port end.port
run_port s words zero a end h = same_prefix a.port end.port (ap (λ (o : Outcome). o.port) h.1)
run_port s words (suc turns) a end h = IsPrefix_trans a.port h.0.port end.port (turn_port s a h.1.0.place h.0 h.1.0.turn) (run_port s (pcg32 words).1 turns h.0 end h.1.1)

-- the words of a generator lead to one end
pub same_run : (s : Setup) (puts : List PutReply) (words : Lcg) (m n : ℕ) (o a b : Outcome) → RunsToEnd s words m o a → RunsToEnd s words n o b → IsPutsIn puts a → IsPutsIn puts b → a ≡ b
same_run s puts words zero zero o a b h g pa pb = h.1 ∙ sym g.1
same_run s puts words zero (suc n) o a b h g pa pb =
    let none : None ≡ Some g.1.0.place = subst (λ ps. slice_get ps ((pcg32 words).0 % length ps) ≡ Some g.1.0.place) h.0 g.1.0.picked in
    let w : ⊥ = cc in absurd w
same_run s puts words (suc m) zero o a b h g pa pb =
    let none : None ≡ Some h.1.0.place = subst (λ ps. slice_get ps ((pcg32 words).0 % length ps) ≡ Some h.1.0.place) g.0 h.1.0.picked in
    let w : ⊥ = cc in absurd w
same_run s puts words (suc m) (suc n) o a b h g pa pb =
    let here = same_next s puts words o h.0 g.0 h.1.0 g.1.0 (puts_before puts h.0 a (run_port s (pcg32 words).1 m h.0 a h.1.1) pa) (puts_before puts g.0 b (run_port s (pcg32 words).1 n g.0 b g.1.1) pb) in
    same_run s puts (pcg32 words).1 m n h.0 a b h.1.1 (subst (λ x. RunsToEnd s (pcg32 words).1 n x b) (sym here) g.1.1) pa pb

-- a pick that names a worker that is not parked is a turn of it
turn_of : (s : Setup) (o : Outcome) (n : ℕ) (a : Outcome) → names_awake o n ≡ true → TakesPick s o n a → (place : ℕ) × ((n ≡ suc place) × TakesTurn s o place a)
turn_of s o zero a awake h = let w : ⊥ = cc in absurd w
turn_of s o (suc place) a awake h = (place, (refl, subst (λ b. MatchBool b (TakesTurn s o place a) (o ≡ a)) awake h))

picks_port : (s : Setup) (picks : List ℕ) (a end : Outcome) → RunsBy s a picks end → IsPrefix a.port end.port
picks_port s [] a end h = same_prefix a.port end.port (sym (ap (λ (o : Outcome). o.port) h))
picks_port s (n ∷ picks) a end h =
    let turn = turn_of s a n h.1.0 h.0 h.1.1.0 in
    IsPrefix_trans a.port h.1.0.port end.port (turn_port s a turn.0 h.1.0 turn.1.1) (picks_port s picks h.1.0 end h.1.1.1)

-- and so do picks
pub same_picks : (s : Setup) (puts : List PutReply) (picks : List ℕ) (o a b : Outcome) → RunsBy s o picks a → RunsBy s o picks b → IsPutsIn puts a → IsPutsIn puts b → a ≡ b
same_picks s puts [] o a b h g pa pb = sym h ∙ g
same_picks s puts (n ∷ picks) o a b h g pa pb =
    let th = turn_of s o n h.1.0 h.0 h.1.1.0 in
    let tg = turn_of s o n g.1.0 g.0 g.1.1.0 in
    let place : tg.0 ≡ th.0 = let e : suc tg.0 ≡ suc th.0 = sym tg.1.0 ∙ th.1.0 in cc in
    let here = same_turn s puts o th.0 h.1.0 g.1.0 th.1.1 (subst (λ k. TakesTurn s o k g.1.0) place tg.1.1) (puts_before puts h.1.0 a (picks_port s picks h.1.0 a h.1.1.1) pa) (puts_before puts g.1.0 b (picks_port s picks g.1.0 b g.1.1.1) pb) in
    same_picks s puts picks h.1.0 a b h.1.1.1 (subst (λ x. RunsBy s x picks b) (sym here) g.1.1.1) pa pb
