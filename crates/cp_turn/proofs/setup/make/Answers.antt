use Rattle.std.proofs.Common.{rules, arith, ap, sym, ◌∙◌}
use Rattle.cp_turn.proofs.Making.{opens_at}
use Rattle.cp_turn.proofs.setup.make.Goals as goal

pub new-requires : goal.new-requires
new-requires g c = let w = c.in-Ok-words_for.ensures in
    opens_at _ _ _ _ _ c.args.value w.0 c.as_slice.result.now c.push_reserved.new.self.items (c.as_slice.ensures.value ∙ w.1) (search rules) (omega arith) c.requires.empty (ap g.T.Ledgered.base (sym c.of.ensures))
