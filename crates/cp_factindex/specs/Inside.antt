-- The fields of a shared object, and what holds of them.
use Rattle.std.specs.Prelude.{◌≡◌, ◌<◌, false, not, ◌&&◌, List, None, MatchOption, min, ◌-◌, ◌^◌, pos}
use Rattle.cp_term.specs.declared.cell.Cell.{Cell}
use Rattle.cp_call.specs.declared.outcome.FactRow.{FactRow}
use Rattle.cp_call.specs.Object.{State, is_parked, placed_from}
use Rattle.cp_call.specs.History.{Legal, Calm, state_after, posts_of, cells_of, full, is_leave}
use Rattle.cp_call.specs.Store.{StoreView}
use Rattle.cp_factindex.specs.declared.plan.Plan.{Plan}
use Rattle.cp_factindex.specs.declared.pred.Pred.TheInside.{Inside}
use Rattle.cp_factindex.specs.Contents.{state_in}
use Rattle.cp_factindex.specs.Plan.{IsRightPlan, prepared_of}

abbrev pub store_of : Inside → StoreView
store_of a = record { kind = a.contents.kind; opening = a.opening; history = a.history.items; prepared = prepared_of a.plan }

-- the state that the history leaves
abbrev pub inside_state : Inside → State
inside_state a = state_after a.contents.kind a.opening a.history.items

-- the opening facts with their places
abbrev pub placed_facts : List (List Cell) → List FactRow
placed_facts opening = placed_from (pos 1) opening

-- A plan that is right, may be made, and has the room that it needs.
pub record IsReady (a : Inside) (p : Plan) : Type 0 where
  pub right : IsRightPlan a.contents p
  pub awake : is_parked (inside_state a) p.caller && not (is_leave p.call) ≡ false
  pub limit : full a.contents.kind a.opening a.history.items p.call ≡ None
  pub entry_room : 0 < a.history.spare

-- The fields hold the state that the history leaves, the history is legal, and the state is calm.
pub record IsStore (a : Inside) : Type 0 where
  pub state : inside_state a ≡ state_in a.contents
  pub legal : Legal a.contents.kind a.opening a.history.items
  pub calm : Calm (inside_state a)
  pub posts : a.posts ≡ min (posts_of a.opening a.history.items) (2 ^ 64 - 1)
  pub cells : a.cells ≡ min (cells_of a.history.items) (2 ^ 64 - 1)
  pub plan : MatchOption a.plan (Unit {0}) (IsReady a)
