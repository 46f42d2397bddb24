use Rattle.cp_link.proofs.Refusing.{at_first}
use Rattle.cp_link.proofs.whole.refusal_in.Goals as goal

pub loop-place-init : goal.loop-place-init
loop-place-init c = at_first c.args.parts.now
