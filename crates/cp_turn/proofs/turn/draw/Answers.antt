use Rattle.std.proofs.Common.{rules}
use Rattle.cp_turn.proofs.Turns.{draws_at}
use Rattle.cp_turn.proofs.turn.draw.Goals as goal

pub fetch_add-requires : goal.fetch_add-requires
fetch_add-requires g c = (search rules, search rules, draws_at _ _ _ _ _ _ _ _ _ _ _ c.requires.outside.3)
