use Rattle.std.proofs.Common.{◌≡◌, ◌++◌, List, sym, ap, subst, Some}
use Rattle.cp_call.specs.declared.call.Entry.{Entry}
use Rattle.cp_call.specs.Asker.{entry_added, IsFullBy, IsStill}
use Rattle.cp_hall.specs.declared.hall.HallRow.{HallRow}
use Rattle.cp_hall.specs.Hall.{HallObject, hall_object}
use Rattle.cp_turn_hall.specs.Grown.{GrownView}
use Rattle.cp_turn_hall.proofs.Growing.{behind, history_is, goes_on, asked_more}
use Rattle.cp_turn_hall.proofs.grown.GrownRow.ask.Goals as goal
use Rattle.cp_turn_hall.proofs.grown.GrownRow.ask.Goals.{After-ask_one}

abbrev asked : After-ask_one → HallRow
asked c = record { name = c.self.inside.row.name; pred = c.ask_one.new.pred }

started : (c : After-ask_one) → c.self.inside.start.value ≡ c.args.self.now.start
started c = ap (λ (g : GrownView). g.start) c.self.view_is

history : (c : After-ask_one) → c.ask_one.new.pred.history ≡ c.self.inside.start.value.pred.history ++ behind c.self.inside.start.value (asked c)
history c =
    history_is c.self.inside.start.value (asked c) (goes_on c.self.inside.start.value c.self.inside.row (asked c) (entry_added c.args.caller c.args.call.now c.ask_one.result)
    c.self.invariant.0 (asked_more c.self.inside.row c.ask_one.new.pred (entry_added c.args.caller c.args.call.now c.ask_one.result) c.ask_one.ensures.kind c.ask_one.ensures.opening c.ask_one.ensures.history))

pub returns-clause-full : goal.returns-clause-full
returns-clause-full c =
    let start : HallRow = c.self.inside.start.value in
    subst (λ (s : HallRow). IsFullBy (Some (hall_object s).object) (s.pred.history ++ behind start (asked c)) c.args.caller c.args.call.now c.ask_one.result) (started c)
    (subst (λ (h : List Entry). IsFullBy (Some (hall_object start).object) h c.args.caller c.args.call.now c.ask_one.result) (history c)
    (c.ask_one.ensures.full (hall_object start).object (sym (ap (λ (o : HallObject). o.object.kind) c.self.invariant.0)) (sym (ap (λ (o : HallObject). o.object.opening) c.self.invariant.0))))

pub returns-clause-still : goal.returns-clause-still
returns-clause-still c =
    let start : HallRow = c.self.inside.start.value in
    subst (λ (s : HallRow). IsStill (Some (hall_object s).object) (s.pred.history ++ behind start (asked c)) c.args.caller c.args.call.now c.ask_one.result) (started c)
    (subst (λ (h : List Entry). IsStill (Some (hall_object start).object) h c.args.caller c.args.call.now c.ask_one.result) (history c)
    (c.ask_one.ensures.still (hall_object start).object (sym (ap (λ (o : HallObject). o.object.kind) c.self.invariant.0)) (sym (ap (λ (o : HallObject). o.object.opening) c.self.invariant.0))))
