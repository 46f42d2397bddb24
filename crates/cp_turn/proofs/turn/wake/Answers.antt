use Rattle.std.proofs.Common.{rules}
use Rattle.cp_turn.proofs.Turns.{parks}
use Rattle.cp_turn.proofs.turn.wake.Goals as goal

pub store-requires : goal.store-requires
store-requires g c = (search rules, search rules, parks _ _ _ _ _ _ _ _ _ _ c.parking_word-word.ensures.within.0)
