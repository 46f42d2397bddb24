use Rattle.std.proofs.Common.{◌≡◌, ◌<◌, ◌≤◌, List, ◌++◌, length, take, rules, sym, ◌∙◌, subst, arith}
use Rattle.std.specs.Prelude.{slice_index_or}
use Rattle.std.proofs.lemmas.List.{take-append-le, take_all}
use lib.ListN.{drop}
use denote.Ref.{NamedLft}
use denote.Param.{param}
use denote.Param.Send.{IsSend, sendable}
use Rattle.cp_turn_port.specs.contracts.seat.PortSeat as writer
use Rattle.cp_round.specs.Worker.{HasWorked}
use Rattle.cp_turn_port.specs.Seat.{IsSeatOf}
use Rattle.cp_crew.specs.Staff.{SeatedView, StaysSeated}
use Rattle.cp_crew.proofs.Crossing.{seat_send, writer_send}
use Rattle.cp_crew.proofs.lend.lend.Goals as goal

pub run_round-requires-send-A : goal.run_round-requires-send-A
run_round-requires-send-A g c κs within = search (sendable, seat_send, c.type_bounds.sync-R, c.type_bounds.sync-G) depth 6

pub run_round-requires-send-P : goal.run_round-requires-send-P
run_round-requires-send-P g c κs within =
    let here : (α : NamedLft) → IsSend (writer.the_row α (param 0 g.row.R) (param 2 g.row.S) g.S.Sink) = λ α. writer_send α (param 0 g.row.R) (param 2 g.row.S) g.S.Sink c.type_bounds.sync-R c.type_bounds.send-S in
    search (sendable, here) depth 6

pub returns-clause-worked : goal.returns-clause-worked
returns-clause-worked g c k d h =
    let news : List (SeatedView g.row.M.Denot g.row.S.Denot g.row.C.Denot) = c.run_round.new.workers in
    let olds : List (SeatedView g.row.M.Denot g.row.S.Denot g.row.C.Denot) = c.args.workers.now.items in
    let long : length news ≡ c.args.workers.now.len = search rules in
    let le : c.args.workers.now.len ≤ length news = omega (arith, long) in
    let ge : length news ≤ c.args.workers.now.len = omega (arith, long) in
    let same : take c.args.workers.now.len (news ++ drop (length news) olds) ≡ news = take-append-le c.args.workers.now.len news (drop (length news) olds) le ∙ take_all c.args.workers.now.len news ge in
    subst (λ l. HasWorked g.M.Machine.code StaysSeated IsSeatOf g.C.Caller.went (slice_index_or olds k d) (slice_index_or l k d)) (sym same)
    (subst (λ l. k < length l → HasWorked g.M.Machine.code StaysSeated IsSeatOf g.C.Caller.went (slice_index_or l k d) (slice_index_or news k d)) c.as_mut_slice.ensures.value (c.run_round.ensures k d) h)
