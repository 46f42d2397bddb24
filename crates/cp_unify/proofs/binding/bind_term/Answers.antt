use Rattle.std.proofs.Common.{◌≡◌, true, not, ◌∙◌, sym, ap, subst, arith}
use Rattle.cp_term.specs.Preorder.{is_terms}
use Rattle.cp_term.specs.Numbering.{occurs}
use Rattle.cp_heap.specs.State.{State, term, substitution, instance_at}
use Rattle.cp_heap.specs.Walk.{waiting, first_cell, argument_places}
use Rattle.cp_heap.proofs.WalkLaws.{end_instance}
use Rattle.cp_unify.proofs.PairLaws.{unify-left, unify-right, unify-left-occurs, unify-right-occurs}
use Rattle.cp_unify.proofs.StepLaws.{no_variable_term, not_variable, free_instance, free_number, more_is, horizon_term}
use Rattle.cp_unify.proofs.binding.bind_term.Goals as goal

pub returns-then-not-branch-clause-left : goal.returns-then-not-branch-clause-left
returns-then-not-branch-clause-left c xs ys =
    let h : State = c.args.heap.now in
    let w = c.word-word.result in
    let live = c.requires.live in
    let shown = end_instance h _ _ _ c.args.to.at w c.word-word.ensures.term c.requires.end c.word-word.ensures.placed (omega arith) in
    let other = no_variable_term h.names h.terms _ w c.word-word.ensures.term c.requires.value in
    let one = subst (λ t. is_terms 1 t ≡ true) shown c.word-word.ensures.one_term in
    let there = sym (ap (occurs c.args.number) shown) ∙ c.in_ok-is_apart.ensures ∙ ap not c.if-not-branch.true in
    unify-left-occurs (substitution h) (term h c.args.variable.at) (term h c.args.to.at) xs ys c.args.number (first_cell h.names w) (waiting h (argument_places w)) other one
    (free_instance h c.args.variable.at c.args.number c.requires.variable) shown there

pub returns-then-not-branch-clause-right : goal.returns-then-not-branch-clause-right
returns-then-not-branch-clause-right c xs ys =
    let h : State = c.args.heap.now in
    let w = c.word-word.result in
    let live = c.requires.live in
    let shown = end_instance h _ _ _ c.args.to.at w c.word-word.ensures.term c.requires.end c.word-word.ensures.placed (omega arith) in
    let other = no_variable_term h.names h.terms _ w c.word-word.ensures.term c.requires.value in
    let one = subst (λ t. is_terms 1 t ≡ true) shown c.word-word.ensures.one_term in
    let there = sym (ap (occurs c.args.number) shown) ∙ c.in_ok-is_apart.ensures ∙ ap not c.if-not-branch.true in
    unify-right-occurs (substitution h) (term h c.args.to.at) (term h c.args.variable.at) xs ys c.args.number (first_cell h.names w) (waiting h (argument_places w)) other one
    shown (free_instance h c.args.variable.at c.args.number c.requires.variable) there

pub bind-requires-clause-older : goal.bind-requires-clause-older
bind-requires-clause-older c m e =
    let h : State = c.args.heap.now in
    let w = c.word-word.result in
    let live = c.requires.live in
    let shown = end_instance h _ _ _ c.args.to.at w c.word-word.ensures.term c.requires.end c.word-word.ensures.placed (omega arith) in
    absurd (not_variable (instance_at h c.args.to.at) (first_cell h.names w) (waiting h (argument_places w)) m shown (no_variable_term h.names h.terms _ w c.word-word.ensures.term c.requires.value) e)

pub returns-clause-left : goal.returns-clause-left
returns-clause-left c xs ys =
    let h : State = c.args.heap.now in
    let w = c.word-word.result in
    let live = c.requires.live in
    let shown = end_instance h _ _ _ c.args.to.at w c.word-word.ensures.term c.requires.end c.word-word.ensures.placed (omega arith) in
    let other = no_variable_term h.names h.terms _ w c.word-word.ensures.term c.requires.value in
    let one = subst (λ t. is_terms 1 t ≡ true) shown c.word-word.ensures.one_term in
    let out = sym (ap (occurs c.args.number) shown) ∙ c.in_ok-is_apart.ensures ∙ ap not c.if-not-branch.false in
    unify-left (substitution h) (term h c.args.variable.at) (term h c.args.to.at) xs ys c.args.number (first_cell h.names w) (waiting h (argument_places w)) other one (substitution c.bind.new.self)
    (free_instance h c.args.variable.at c.args.number c.requires.variable) shown out
    (more_is (substitution h) _ _ _ _ _ c.in_ok-bind.ensures.bound (free_number h c.args.variable.at c.args.number c.requires.variable) shown)

pub returns-clause-right : goal.returns-clause-right
returns-clause-right c xs ys =
    let h : State = c.args.heap.now in
    let w = c.word-word.result in
    let live = c.requires.live in
    let shown = end_instance h _ _ _ c.args.to.at w c.word-word.ensures.term c.requires.end c.word-word.ensures.placed (omega arith) in
    let other = no_variable_term h.names h.terms _ w c.word-word.ensures.term c.requires.value in
    let one = subst (λ t. is_terms 1 t ≡ true) shown c.word-word.ensures.one_term in
    let out = sym (ap (occurs c.args.number) shown) ∙ c.in_ok-is_apart.ensures ∙ ap not c.if-not-branch.false in
    unify-right (substitution h) (term h c.args.to.at) (term h c.args.variable.at) xs ys c.args.number (first_cell h.names w) (waiting h (argument_places w)) other one (substitution c.bind.new.self)
    shown (free_instance h c.args.variable.at c.args.number c.requires.variable) out
    (more_is (substitution h) _ _ _ _ _ c.in_ok-bind.ensures.bound (free_number h c.args.variable.at c.args.number c.requires.variable) shown)

pub returns-clause-horizon : goal.returns-clause-horizon
returns-clause-horizon c =
    let h : State = c.args.heap.now in
    let w = c.word-word.result in
    horizon_term c.args.horizon.now c.note.new.self h c.bind.new.self c.args.number c.args.variable.at c.args.to.at w c.requires.variable c.word-word.ensures.term
    (no_variable_term h.names h.terms _ w c.word-word.ensures.term c.requires.value) c.in_ok-bind.ensures.kept (c.in_ok-bind.ensures.pushed c.requires.end)
    c.note.ensures.kept c.note.ensures.before c.note.ensures.apart c.requires.horizon
