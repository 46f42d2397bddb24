use Rattle.std.proofs.Common.{◌≡◌, sym, ◌∙◌, ap, subst}
use Rattle.cp_call.specs.Progress.{beginning}
use Rattle.cp_schedule.specs.Turns.{all_at_rest}
use Rattle.cp_schedule.proofs.Same.{IsPutsIn, same_picks}
use Rattle.cp_schedule.proofs.laws.a_list_of_picks_has_one_outcome.Goals as goal

pub returns : goal.returns
returns c s picks steps workers puts a b last_a last_b h g pa pb =
    let same : last_a ≡ last_b = same_picks s puts picks (beginning s steps workers) last_a last_b h.0 g.0 (subst (IsPutsIn puts) h.2 pa) (subst (IsPutsIn puts) g.2 pb) in
    h.2 ∙ (ap all_at_rest same ∙ sym g.2)
