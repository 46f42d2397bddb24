-- Preparing a call keeps what holds of the fields, and is refused exactly where it is due.
use Rattle.std.proofs.Common.{◌≡◌, ℕ, ◌+◌, ◌-◌, ◌^◌, ◌<◌, ◌≤◌, ◌==◌, min, ◌&&◌, ◌||◌, not, List, [], ◌∷◌, length, refl, sym, ◌∙◌, ap, subst, true, false, Bool, arith, Option, Some, None}
use Rattle.std.specs.Prelude.{ℤ, Result, Ok, Err, OnOk, is_err, nat_le}
use Rattle.std.proofs.lemmas.Bool.{false≢true}
use Rattle.std.specs.List.{list_any}
use Rattle.std.proofs.lemmas.Bool.Decides.{nat_tests}
use Rattle.cp_list.specs.ReservedList.{ReservedList}
use Rattle.cp_call.specs.declared.call.ObjectKind.{ObjectKind}
use Rattle.cp_call.specs.declared.call.Call.{Call}
use Rattle.cp_call.specs.declared.call.Entry.{Entry}
use Rattle.cp_call.specs.declared.outcome.ParkedRow.{ParkedRow}
use Rattle.cp_call.specs.Object.{State, is_parked}
use Rattle.cp_call.specs.History.{Calm, Limit, state_after, full_at, shown_count, is_leave, posts_of, cells_of}
use Rattle.cp_call.specs.Store.{state_of, is_still_parked, limit_of}
use Rattle.cp_factindex.specs.declared.plan.Plan.{Plan}
use Rattle.cp_factindex.specs.declared.pred.Pred.TheInside.{Inside}
use Rattle.cp_call.specs.declared.refused.Refused.{Refused}
use Rattle.cp_call.specs.declared.refused.Refused.TheVariants as refused
use Rattle.cp_factindex.specs.declared.contents.Contents.{Contents}
use Rattle.cp_factindex.specs.Contents.{parked_in, state_in}
use Rattle.cp_factindex.specs.Effect.{IsPlaced}
use Rattle.cp_factindex.specs.Plan.{IsPlanFor}
use Rattle.cp_factindex.proofs.Placing.{placed_after}
use Rattle.cp_factindex.specs.declared.waiter.Waiter.{Waiter}
use Rattle.cp_factindex.specs.Steps.{steps_at}
use Rattle.cp_factindex.specs.Waiting.{is_caller_in}
use Rattle.cp_factindex.specs.Inside.{IsStore, store_of}
use Rattle.cp_call.specs.Refusals.{IsPrepared, tested}

le_min : (n x m : ℕ) → n ≤ m → nat_le n (min x m) ≡ nat_le n x
le_min n x m h = grind (arith, nat_tests)

told_min : (x m : ℕ) → 2 ^ 32 - 1 ≤ m → shown_count (min x m) ≡ shown_count x
told_min x m h = omega arith

-- a count that stands still at its last value tells the same
full_saturated : (k : ObjectKind) (c : Call) (posts entries cells p q : ℕ) → p ≡ min posts (2 ^ 64 - 1) → q ≡ min cells (2 ^ 64 - 1) → full_at k p entries q c ≡ full_at k posts entries cells c
full_saturated k c posts entries cells p q ep eq = rw (ep, eq, le_min 4096 posts (2 ^ 64 - 1) (omega arith), le_min 2097152 cells (2 ^ 64 - 1) (omega arith), told_min posts (2 ^ 64 - 1) (omega arith), told_min cells (2 ^ 64 - 1) (omega arith)) refl

-- the test of the fields is the test of what contracts see
pub test_is : (a : Inside) (contents : Contents) (n entries : ℕ) (c : Call) → IsStore a → state_in contents ≡ state_in a.contents → entries ≡ length a.history.items
    → tested (is_caller_in contents.waiting.rows n && not (is_leave c)) (full_at contents.kind a.posts entries a.cells c)
    ≡ tested (is_still_parked (store_of a) n c) (limit_of (store_of a) c)
test_is a contents n entries c s ec e = ap (λ b. tested (b && not (is_leave c)) (full_at contents.kind a.posts entries a.cells c)) (parked contents.waiting.rows ∙ ap (λ (x : State). is_parked x n) (ec ∙ sym s.state))
    ∙ ap (tested (is_still_parked (store_of a) n c)) (ap (λ (x : State). full_at x.kind a.posts entries a.cells c) ec ∙ limit)
  where
    parked : (rows : List (ℤ × Waiter)) → is_caller_in rows n ≡ list_any (λ (w : ParkedRow). w.caller == n) (parked_in rows)
    parked [] = refl
    parked (e ∷ rows) = ap (λ b. (e.1.row.caller == n) || b) (parked rows)

    limit : full_at a.contents.kind a.posts entries a.cells c ≡ limit_of (store_of a) c
    limit = full_saturated a.contents.kind c (posts_of a.opening a.history.items) entries (cells_of a.history.items) a.posts a.cells s.posts s.cells
        ∙ ap (λ x. full_at a.contents.kind (posts_of a.opening a.history.items) x (cells_of a.history.items) c) e

pub refused_by_test : (b : Bool) (l : Option Limit) (e : Refused) → tested b l ≡ Err e → IsPrepared b l (Err e)
refused_by_test true l e h = sym h
refused_by_test false (Some l) e h = sym h
refused_by_test false None e h = cc

pub refused_by_memory : (b : Bool) (l : Option Limit) (u : Unit {0}) (e : Refused) → tested b l ≡ Ok u → e ≡ refused.NoMemory → IsPrepared b l (Err e)
refused_by_memory true l u e h m = cc
refused_by_memory false (Some l) u e h m = cc
refused_by_memory false None u e h m = m

pub not_refused : (b : Bool) (l : Option Limit) (u v : Unit {0}) → tested b l ≡ Ok u → IsPrepared b l (Ok v)
not_refused true l u v h = cc
not_refused false (Some l) u v h = cc
not_refused false None u v h = tt

passed : (b : Bool) (l : Option Limit) (u : Unit {0}) → tested b l ≡ Ok u → (b ≡ false) × (l ≡ None)
passed true l u h = cc
passed false (Some l) u h = cc
passed false None u h = (refl, refl)

-- the places of the facts differ
pub inside_placed : (a : Inside) (contents : Contents) → IsStore a → state_in contents ≡ state_in a.contents → IsPlaced (state_in contents)
inside_placed a contents s e = subst IsPlaced (s.state ∙ sym e) (placed_after a.contents.kind a.opening a.history.items)

pub ready_keeps : (a : Inside) (contents : Contents) (history : ReservedList Entry) (p : Plan) (n : ℕ) (c : Call) (u : Unit {0})
    → IsStore a → state_in contents ≡ state_in a.contents → history.items ≡ a.history.items
    → 0 < history.spare
    → tested (is_still_parked (store_of a) n c) (limit_of (store_of a) c) ≡ Ok u
    → IsPlanFor contents n c p
    → IsStore (record { alloc = a.alloc; opening = a.opening; contents = contents; history = history; posts = a.posts; cells = a.cells; plan = Some p })
ready_keeps a contents history p n c u s ec eh entry_room t f = record {
  state = there ∙ (s.state ∙ sym ec);
  legal = rw (kind_is, eh) s.legal;
  calm = subst Calm (sym there) s.calm;
  posts = rw eh s.posts;
  cells = rw eh s.cells;
  plan = record {
    right = f.right;
    awake = subst (λ (x : State). is_parked x p.caller && not (is_leave p.call) ≡ false) (sym there) (rw (f.caller_is, f.call_is) (passed (is_still_parked (store_of a) n c) (limit_of (store_of a) c) u t).0);
    limit = rw (kind_is, eh, f.call_is) (passed (is_still_parked (store_of a) n c) (limit_of (store_of a) c) u t).1;
    entry_room = entry_room;
  };
}
  where
    kind_is : contents.kind ≡ a.contents.kind
    kind_is = ap (λ (x : State). x.kind) ec

    there : state_after contents.kind a.opening history.items ≡ state_after a.contents.kind a.opening a.history.items
    there = rw (kind_is, eh) refl

-- a caller who passed the test is not parked, unless it gives up
pub inside_awake : (a : Inside) (contents : Contents) (n : ℕ) (c : Call) (u : Unit {0}) → IsStore a → state_in contents ≡ state_in a.contents
    → tested (is_still_parked (store_of a) n c) (limit_of (store_of a) c) ≡ Ok u → is_parked (state_in contents) n && not (is_leave c) ≡ false
inside_awake a contents n c u s ec t = subst (λ (x : State). is_parked x n && not (is_leave c) ≡ false) (s.state ∙ sym ec) (passed (is_still_parked (store_of a) n c) (limit_of (store_of a) c) u t).0

-- the steps of the call, in the state that contracts see
pub inside_steps : (a : Inside) (contents : Contents) (c : Call) (n m : ℕ) → IsStore a → state_in contents ≡ state_in a.contents
    → m ≤ n + steps_at (state_in contents) c → m ≤ n + steps_at (state_of (store_of a)) c
inside_steps a contents c n m s ec h = subst (λ (x : State). m ≤ n + steps_at x c) (ec ∙ sym s.state) h

-- there is room where none was refused
pub room_after : {A E : Type 0} (r : Result A E) (n old : ℕ) → OnOk r ((1 ≤ n) × (old ≤ n)) → is_err r ≡ false → 0 < n
room_after (Ok x) n old h e = omega (arith, h.0)
room_after (Err x) n old h e = absurd (false≢true (sym e))
