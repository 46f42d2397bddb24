use Rattle.std.proofs.Common.{◌≡◌, ◌<◌, ℕ, List, length, get_or, set, ◌∙◌, ap, arith, rules}
use Rattle.std.specs.Prelude.{slice_index_or}
use Rattle.cp_call.specs.declared.call.Entry.{Entry}
use Rattle.cp_turn.specs.Passes.{PassView}
use Rattle.cp_hall.specs.declared.hall.HallRow.{HallRow}
use Rattle.cp_turn_hall.specs.Behind.{HallPassView}
use Rattle.cp_turn_hall.specs.Closing.{last_pass, without_last}
use Rattle.cp_turn_hall.proofs.Half.{half, half_get, half_set}
use Rattle.cp_turn_hall.proofs.TakingOut.{one_collected}
use Rattle.cp_turn_hall.proofs.closing.collect.Goals as goal

pub loop-i-preserved : goal.loop-i-preserved
loop-i-preserved c =
    let olds : List HallPassView = c.args.hall_passes.now.items in
    let i : ℕ = c.loop-i.i in
    let d : HallPassView = c.index_mut.result.now in
    let within : i < length olds = omega (arith, c.args.hall_passes.now.ok.0) in
    let got : d ≡ get_or olds i d = c.index_mut.ensures.value ∙ ap (λ (l : List HallPassView). get_or l i d) c.loop-i.invariant.now ∙ half_get i olds d within in
    record {
      now = ap (λ (l : List HallPassView). set l i c.take_last.new.hall_pass) c.loop-i.invariant.now
          ∙ ap (set (half i olds) i) (c.take_last.ensures.rest ∙ ap without_last got) ∙ half_set i olds d within;
      len = search rules;
      room = search rules;
      long = search rules;
      each = λ k e none h. ap (λ (l : List (PassView Entry HallRow)). slice_index_or l k none) c.push_reserved.ensures.items
          ∙ one_collected olds c.loop-i.out.items i c.take_last.result d c.loop-i.invariant.long within c.loop-i.invariant.each (λ none. c.take_last.ensures.pass none ∙ ap (last_pass none) got) k e none h;
    }
