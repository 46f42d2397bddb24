use Rattle.std.proofs.Common.{◌≡◌, true, sym, ◌∙◌, ap, subst}
use Rattle.cp_term.specs.Preorder.{is_terms}
use Rattle.cp_code.specs.Bodies.{Seen, seen_from}
use Rattle.cp_props.proofs.Seen.{within, seen-other}
use Rattle.cp_props.proofs.body.unqualified.Goals as goal

pub modules-preserved : goal.modules-preserved
modules-preserved c =
    let i = c.modules.invariant in
    let w = within i.1 c.modules.rest.now i.0 c.in-Some.ensures.0 in
    let here = c.in-Some.ensures.1 in (
      subst (λ cs. is_terms 1 cs ≡ true) (sym here) w.term,
      w.inner,
      i.2 ∙ w.seen ∙ ap (seen_from w.inner) (sym here),
    )

pub returns : goal.returns
returns c =
    let i = c.modules.invariant in
    ap (λ (s : Seen). s.goal) (i.2 ∙ seen-other i.1 c.modules.rest.now i.0 c.in_default.ensures)
