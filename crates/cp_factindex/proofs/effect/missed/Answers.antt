use Rattle.std.proofs.Common.{◌∙◌, sym, rules}
use Rattle.cp_factindex.proofs.Effects.{callers_are}
use Rattle.cp_factindex.proofs.effect.missed.Goals as goal

pub put_ahead-requires : goal.put_ahead-requires
put_ahead-requires c = sym (callers_are c.args.contents.now.waiting.rows c.args.caller) ∙ c.requires.awake (search rules)
