use Rattle.std.proofs.Common.{◌∙◌, ap, subst, true, ◌≡◌}
use Rattle.cp_term.specs.Preorder.{is_terms}
use Rattle.cp_goal.specs.Lists.{spine}
use Rattle.cp_lists.proofs.lemmas.Spines.{spine-other}
use Rattle.cp_lists.proofs.step.step_at.Goals as goal

pub returns-in-Func : goal.returns-in-Func
returns-in-Func c =
    let shown = c.in-Func.ensures.first in
    ap spine shown.2 ∙ spine-other shown.0 c.in-Func.field-0 shown.1 (subst (λ cs. is_terms 1 cs ≡ true) shown.2 c.in-Func.ensures.term) c.in-Func.field-0-test.1
