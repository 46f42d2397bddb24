use Rattle.cp_run.proofs.GainLaws.{gained-is}
use Rattle.cp_told.proofs.replies.integer.Goals as goal

pub returns-clause-gained : goal.returns-clause-gained
returns-clause-gained c =
    gained-is c.args.run.now c.integer.new.self c.requires
    (record { bindings = c.in_ok-at.ensures.bindings; extends = c.in_ok-at.ensures.extends; trail = c.in_ok-at.ensures.trail; variables = c.in_ok-at.ensures.variables })
