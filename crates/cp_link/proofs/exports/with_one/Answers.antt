use Rattle.std.proofs.Common.{◌++◌, ◌∙◌, ap, sym, append-nil}
use Rattle.cp_link.specs.Modules.{one, distinct}
use Rattle.cp_link.proofs.exports.with_one.Goals as goal

pub returns-in-None : goal.returns-in-None
returns-in-None c = λ before e. e ∙ ap distinct (sym (append-nil before)) ∙ ap (λ o. distinct (before ++ one o)) (sym c.in-None.is)
