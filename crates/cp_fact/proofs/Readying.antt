-- Preparing a call keeps what holds of the fields, and is refused exactly where it is due.
use Rattle.std.proofs.Common.{◌≡◌, ℕ, ◌+◌, ◌-◌, ◌^◌, ◌<◌, ◌≤◌, ◌==◌, min, ◌&&◌, not, List, [], ◌∷◌, ◌++◌, length, refl, sym, ◌∙◌, ap, subst, true, false, Bool, cond, arith, Option, Some, None}
use Rattle.std.specs.Prelude.{Vec, ℤ, MatchOption, Result, Ok, Err, IfOk, nat_le}
use Rattle.std.specs.List.{list_any}
use Rattle.std.proofs.lemmas.Bool.Decides.{nat_tests}
use Rattle.cp_list.specs.ReservedList.{ReservedList}
use Rattle.cp_call.specs.declared.call.ObjectKind.{ObjectKind}
use Rattle.cp_call.specs.declared.call.Call.{Call}
use Rattle.cp_call.specs.declared.call.Entry.{Entry}
use Rattle.cp_call.specs.declared.call.FullBy.TheVariants as by
use Rattle.cp_call.specs.declared.outcome.ParkedRow.{ParkedRow}
use Rattle.cp_call.specs.Object.{State, is_parked}
use Rattle.cp_call.specs.History.{Legal, Calm, Limit, state_after, full, full_at, shown_count, is_leave, is_post, is_bound, posts_of, cells_of}
use Rattle.cp_call.specs.Store.{StoreView, state_of, is_still_parked, limit_of}
use Rattle.cp_fact.specs.declared.plan.Plan.{Plan}
use Rattle.cp_fact.specs.declared.pred.Pred.TheInside.{Inside}
use Rattle.cp_call.specs.declared.refused.Refused.{Refused}
use Rattle.cp_call.specs.declared.refused.Refused.TheVariants as refused
use Rattle.cp_fact.specs.declared.contents.Contents.{Contents}
use Rattle.cp_fact.specs.Contents.{state_in}
use Rattle.cp_fact.specs.Effect.{IsPlaced}
use Rattle.cp_fact.specs.Plan.{IsPlanFor, IsRightPlan}
use Rattle.cp_fact.proofs.Placing.{placed_after}
use Rattle.std.specs.Prelude.{vec_len}
use Rattle.std.specs.Vec.{vec_capacity}
use Rattle.cp_fact.specs.Inside.{IsStore, IsReady, inside_state, store_of}
use Rattle.cp_call.specs.Refusals.{IsPrepared, tested}

le_min : (n x m : ℕ) → n ≤ m → nat_le n (min x m) ≡ nat_le n x
le_min n x m h = grind (arith, nat_tests)

told_min : (x m : ℕ) → 2 ^ 32 - 1 ≤ m → shown_count (min x m) ≡ shown_count x
told_min x m h = omega arith

-- a count that stands still at its last value tells the same
full_saturated : (k : ObjectKind) (c : Call) (posts entries cells p q : ℕ) → p ≡ min posts (2 ^ 64 - 1) → q ≡ min cells (2 ^ 64 - 1) → full_at k p entries q c ≡ full_at k posts entries cells c
full_saturated k c posts entries cells p q ep eq = rw (ep, eq, le_min 4096 posts (2 ^ 64 - 1) (omega arith), le_min 2097152 cells (2 ^ 64 - 1) (omega arith), told_min posts (2 ^ 64 - 1) (omega arith), told_min cells (2 ^ 64 - 1) (omega arith)) refl

-- the test of the fields is the test of what contracts see
pub test_is : (a : Inside) (n entries : ℕ) (c : Call) → IsStore a → entries ≡ length a.history.items
    → tested (list_any (λ (w : ParkedRow). w.caller == n) a.contents.parked.items && not (is_leave c)) (full_at a.contents.kind a.posts entries a.cells c)
    ≡ tested (is_still_parked (store_of a) n c) (limit_of (store_of a) c)
test_is a n entries c s e = ap (λ b. tested b (full_at a.contents.kind a.posts entries a.cells c)) parked ∙ ap (tested (is_still_parked (store_of a) n c)) limit
  where
    parked : (list_any (λ (w : ParkedRow). w.caller == n) a.contents.parked.items && not (is_leave c)) ≡ is_still_parked (store_of a) n c
    parked = ap (λ (x : State). is_parked x n && not (is_leave c)) (sym s.state)

    limit : full_at a.contents.kind a.posts entries a.cells c ≡ limit_of (store_of a) c
    limit = full_saturated a.contents.kind c (posts_of a.opening a.history.items) entries (cells_of a.history.items) a.posts a.cells s.posts s.cells
        ∙ ap (λ x. full_at a.contents.kind (posts_of a.opening a.history.items) x (cells_of a.history.items) c) e

pub refused_by_test : (b : Bool) (l : Option Limit) (e : Refused) → tested b l ≡ Err e → IsPrepared b l (Err e)
refused_by_test true l e h = sym h
refused_by_test false (Some l) e h = sym h
refused_by_test false None e h = cc

pub refused_by_memory : (b : Bool) (l : Option Limit) (u : Unit {0}) (e : Refused) → tested b l ≡ Ok u → e ≡ refused.NoMemory → IsPrepared b l (Err e)
refused_by_memory true l u e h m = cc
refused_by_memory false (Some l) u e h m = cc
refused_by_memory false None u e h m = m

pub not_refused : (b : Bool) (l : Option Limit) (u v : Unit {0}) → tested b l ≡ Ok u → IsPrepared b l (Ok v)
not_refused true l u v h = cc
not_refused false (Some l) u v h = cc
not_refused false None u v h = tt

passed : (b : Bool) (l : Option Limit) (u : Unit {0}) → tested b l ≡ Ok u → (b ≡ false) × (l ≡ None)
passed true l u h = cc
passed false (Some l) u h = cc
passed false None u h = (refl, refl)

-- the places of the facts differ
pub inside_placed : (a : Inside) (contents : Contents) → IsStore a → state_in contents ≡ state_in a.contents → IsPlaced (state_in contents)
inside_placed a contents s e = subst IsPlaced (s.state ∙ sym e) (placed_after a.contents.kind a.opening a.history.items)

pub ready_keeps : (a : Inside) (contents : Contents) (history : ReservedList Entry) (p : Plan) (n : ℕ) (c : Call) (u : Unit {0})
    → IsStore a → state_in contents ≡ state_in a.contents → history.items ≡ a.history.items
    → 0 < history.spare → 0 < contents.parked.spare → vec_len contents.facts < vec_capacity contents.facts
    → tested (is_still_parked (store_of a) n c) (limit_of (store_of a) c) ≡ Ok u
    → IsPlanFor (state_in contents) n c p
    → IsStore (record { alloc = a.alloc; opening = a.opening; contents = contents; history = history; posts = a.posts; cells = a.cells; plan = Some p })
ready_keeps a contents history p n c u s ec eh entry_room parked_room facts_room t f = record {
  state = there ∙ (s.state ∙ sym ec);
  legal = rw (kind_is, eh) s.legal;
  calm = subst Calm (sym there) s.calm;
  posts = rw eh s.posts;
  cells = rw eh s.cells;
  plan = record {
    right = subst (λ x. IsRightPlan x p) (sym (there ∙ (s.state ∙ sym ec))) f.right;
    awake = subst (λ (x : State). is_parked x p.caller && not (is_leave p.call) ≡ false) (sym there) (rw (f.caller_is, f.call_is) (passed (is_still_parked (store_of a) n c) (limit_of (store_of a) c) u t).0);
    limit = rw (kind_is, eh, f.call_is) (passed (is_still_parked (store_of a) n c) (limit_of (store_of a) c) u t).1;
    entry_room = entry_room;
    parked_room = parked_room;
    facts_room = facts_room;
  };
}
  where
    kind_is : contents.kind ≡ a.contents.kind
    kind_is = ap (λ (x : State). x.kind) ec

    there : state_after contents.kind a.opening history.items ≡ state_after a.contents.kind a.opening a.history.items
    there = rw (kind_is, eh) refl
