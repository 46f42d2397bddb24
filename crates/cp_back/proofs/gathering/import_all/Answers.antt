use Rattle.std.proofs.Common.{◌∙◌, ◌+◌, [], ◌∷◌, ◌++◌, take, sym, ap, subst}
use Rattle.std.proofs.lemmas.List.{take_more}
use Rattle.cp_back.specs.Copies.{AreImported}
use Rattle.cp_back.proofs.CopyLaws.{imported-none, imported-more}
use Rattle.cp_back.proofs.gathering.import_all.Goals as goal

pub terms-init : goal.terms-init
terms-init c = subst (λ refs. AreImported c.args.heap.now c.args.heap.now [] refs) (sym c.new-refs.ensures) (imported-none c.args.heap.now)

pub terms-preserved : goal.terms-preserved
terms-preserved c =
    let old = c.args.heap.now in
    let new = c.import.new.self in
    let i = c.terms.term-index in
    let ts = c.as_slice-term-items.result.now in
    let t = c.term-item.result in
    let r = c.in_ok-import.field-0 in
    let e = c.in_ok-import.ensures in
    subst (λ refs. AreImported old new (take (i + 1) ts) refs) (sym c.in_ok-push.ensures.ok)
    (subst (λ xs. AreImported old new xs (c.terms.refs ++ r ∷ [])) (ap (λ x. take i ts ++ x ∷ []) c.term-item.is ∙ sym (take_more ts i t c.terms-test.true))
    (imported-more old c.terms.heap new (take i ts) c.terms.refs t r c.terms.invariant e.live e.term e.variables e.bindings e.extends))
