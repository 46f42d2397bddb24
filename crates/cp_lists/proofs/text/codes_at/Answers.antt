use Rattle.std.proofs.Common.{◌≡◌, ◌∙◌, ◌+◌, sym, ap, subst, drop}
use Rattle.std.proofs.lemmas.List.{drop_all}
use Rattle.std.specs.Prelude.{Err}
use Rattle.cp_goal.specs.Lists.{codes_of}
use Rattle.cp_lists.specs.Places.{instances}
use Rattle.cp_lists.specs.Texts.{Reads, codes_before}
use Rattle.cp_lists.proofs.lemmas.Codes.{code_next, error_first, codes_before-nil}
use Rattle.cp_lists.proofs.text.codes_at.Goals as goal

pub loop-element-preserved : goal.loop-element-preserved
loop-element-preserved c =
    let h = c.args.heap.now in
    let items = c.as_slice-element-items.result.now in
    let i = c.loop-element.element-index in
    subst (λ cs. codes_of (instances h items) ≡ codes_before cs (codes_of (instances h (drop (i + 1) items)))) (sym c.in_ok-push-in-Ok.ensures.ok)
    (code_next h items i (record { at = 0 }) c.loop-element-test.true (codes_of (instances h items)) c.loop-element.codes c.in-Ok.code c.loop-element.invariant c.in-Ok.ensures)

pub returns : goal.returns
returns c =
    let h = c.args.heap.now in
    let items = c.as_slice-element-items.result.now in
    let i = c.loop-element.element-index in
    let none = drop_all i items c.loop-element-test.false in
    ap (λ rs. codes_of (instances h rs)) (sym c.as_slice-element-items.ensures)
    ∙ c.loop-element.invariant
    ∙ ap (λ rs. codes_before c.loop-element.codes (codes_of (instances h rs))) none
    ∙ codes_before-nil c.loop-element.codes

pub returns-in-Err : goal.returns-in-Err
returns-in-Err c =
    let h = c.args.heap.now in
    let items = c.as_slice-element-items.result.now in
    subst (λ rs. Reads h (Err c.in-Err.error) (codes_of (instances h rs))) c.as_slice-element-items.ensures
    (error_first h items c.loop-element.element-index (record { at = 0 }) c.loop-element-test.true (codes_of (instances h items)) c.loop-element.codes c.in-Err.error c.loop-element.invariant c.in-Err.ensures)
