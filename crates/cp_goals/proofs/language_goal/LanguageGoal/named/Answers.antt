use Rattle.std.proofs.Common.{◌∙◌, ap}
use Rattle.cp_code.specs.Goals.{builtin_goal, or_term_goal, other_named}
use Rattle.cp_goals.proofs.language_goal.LanguageGoal.named.Goals as goal

pub returns-in-Some-clause-named : goal.returns-in-Some-clause-named
unfolding builtin_goal
returns-in-Some-clause-named c = ap (λ o. or_term_goal o (other_named c.args.name.now c.args.arity)) c.in-Some.ensures

pub returns-clause-named : goal.returns-clause-named
unfolding builtin_goal
returns-clause-named c =
    c.other_named.ensures.named ∙ ap (λ o. or_term_goal o (other_named c.args.name.now c.args.arity)) c.in_default.ensures
