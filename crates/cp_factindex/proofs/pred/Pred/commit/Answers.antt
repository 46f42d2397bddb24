use Rattle.std.proofs.Common.{rules, sym}
use Rattle.cp_factindex.proofs.Committing.{commit_keeps}
use Rattle.cp_factindex.proofs.pred.Pred.commit.Goals as goal

pub invariant_of-self : goal.invariant_of-self
invariant_of-self c = commit_keeps c.self.inside c.in-Some.plan c.make.new.contents c.put.new.self _ _ c.take.new.self
    c.self.invariant (sym c.in-Some.ensures.value) c.take.ensures.after c.make.ensures c.put.ensures.items (search rules) c.saturating_add-self-inside-in-Some.ensures
