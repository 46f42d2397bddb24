use Rattle.std.proofs.Common.{◌≡◌, ◌∷◌, ◌<◌, sym, ap, ◌∙◌, drop, length, arith}
use Rattle.std.proofs.lemmas.List.{drop_more}
use Rattle.cp_term.specs.Preorder.{is_terms, drop_terms}
use Rattle.cp_module.proofs.TermLaws.{body_is_term, behind_first_item}
use Rattle.cp_module.proofs.clause.body_term.Goals as goal

pub returns-then-is_neck-clause-term : goal.returns-then-is_neck-clause-term
returns-then-is_neck-clause-term c =
    let cells = c.args.cells.now in
    let first = c.first-item.result in
    let some : 0 < length cells = omega (arith, c.in-len1-up.len_at_least) in
    let split : cells ≡ first ∷ drop 1 cells = drop_more cells 0 first some ∙ ap (λ x. x ∷ drop 1 cells) (sym c.first-item.is) in
    ap (is_terms 1) c.behind_term.ensures.value
    ∙ ap (λ cs. is_terms 1 (drop_terms 1 cs)) (behind_first_item cells)
    ∙ body_is_term first (drop 1 cells) (sym c.is_neck.ensures ∙ c.if-is_neck.true) (ap (is_terms 1) (sym split) ∙ c.requires.term)
