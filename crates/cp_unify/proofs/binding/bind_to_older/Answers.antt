use Rattle.std.proofs.Common.{◌≡◌, false, ◌||◌, ◌∙◌, ap, arith}
use Rattle.std.proofs.lemmas.Bool.{ne_eqb}
use Rattle.cp_term.specs.Numbering.{occurs}
use Rattle.cp_heap.specs.State.{State, term, substitution}
use Rattle.cp_unify.proofs.PairLaws.{unify-younger-left, unify-younger-right}
use Rattle.cp_unify.proofs.StepLaws.{free_instance, free_number, free_end, more_is, horizon_older}
use Rattle.cp_unify.proofs.binding.bind_to_older.Goals as goal

pub bind-requires-clause-apart : goal.bind-requires-clause-apart
bind-requires-clause-apart c =
    let h : State = c.args.heap.now in
    let age = c.requires.age in
    (λ i. occurs (free_number h c.args.variable.at c.args.number c.requires.variable i) (free_instance h c.args.older.at c.args.older_number c.requires.older i))
    ∙ ap (λ t. t || false) (ne_eqb c.args.older_number c.args.number (λ (e : c.args.older_number ≡ c.args.number). omega arith))

pub bind-requires-clause-older : goal.bind-requires-clause-older
bind-requires-clause-older c m e =
    let h : State = c.args.heap.now in
    let own : c.args.older_number ≡ m = cc (free_instance h c.args.older.at c.args.older_number c.requires.older, e) in
    let number = free_number h c.args.variable.at c.args.number c.requires.variable in
    let age = c.requires.age in
    omega arith

pub returns-clause-left : goal.returns-clause-left
returns-clause-left c xs ys =
    let h : State = c.args.heap.now in
    let number = free_number h c.args.variable.at c.args.number c.requires.variable in
    let older = free_instance h c.args.older.at c.args.older_number c.requires.older in
    unify-younger-left (substitution h) (term h c.args.variable.at) (term h c.args.older.at) xs ys c.args.older_number c.args.number c.requires.age (substitution c.bind.new.self)
    (free_instance h c.args.variable.at c.args.number c.requires.variable) older (more_is (substitution h) _ _ _ _ _ c.in_ok-bind.ensures.bound number older)

pub returns-clause-right : goal.returns-clause-right
returns-clause-right c xs ys =
    let h : State = c.args.heap.now in
    let number = free_number h c.args.variable.at c.args.number c.requires.variable in
    let older = free_instance h c.args.older.at c.args.older_number c.requires.older in
    unify-younger-right (substitution h) (term h c.args.older.at) (term h c.args.variable.at) xs ys c.args.older_number c.args.number c.requires.age (substitution c.bind.new.self)
    older (free_instance h c.args.variable.at c.args.number c.requires.variable) (more_is (substitution h) _ _ _ _ _ c.in_ok-bind.ensures.bound number older)

pub returns-clause-horizon : goal.returns-clause-horizon
returns-clause-horizon c z ok =
    let h : State = c.args.heap.now in
    horizon_older z h c.bind.new.self c.args.number c.args.older_number c.args.variable.at c.args.older.at c.requires.variable c.requires.older c.requires.age c.in_ok-bind.ensures.kept
    (c.in_ok-bind.ensures.pushed (free_end h c.args.older.at c.args.older_number c.requires.older)) ok
