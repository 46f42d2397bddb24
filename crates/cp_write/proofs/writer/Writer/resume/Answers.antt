use Rattle.std.proofs.Common.{◌≡◌, ℕ, suc, ◌-◌, ◌∙◌, ap, sym, subst, arith}
use Rattle.cp_ops.specs.Text.{beside}
use Rattle.cp_write.specs.declared.frame.Frame.TheVariants.{Arguments}
use Rattle.cp_write.specs.Writing.{style_of, Reaches}
use Rattle.cp_write.proofs.lemmas.WriterLaws.{argument-Reaches}
use Rattle.cp_write.proofs.writer.Writer.resume.Goals as goal

suc_pred : (n : ℕ) → (n ≡ 0 → ⊥) → suc (n - 1) ≡ n
suc_pred n some = omega (arith, some)

pub returns-in_ok-expect-in-Arguments-clause-reached : goal.returns-in_ok-expect-in-Arguments-clause-reached
returns-in_ok-expect-in-Arguments-clause-reached c _ =
    let style = style_of c.args.style in
    let out = c.args.self.now.out.items in
    let frames = c.args.self.now.frames.items in
    let x = c.expect.new.self.out.items in
    let y = c.expect.new.self.frames.items in
    let z = c.expect.new.self.place in
    let more = c.in-Arguments.more in
    let e : suc (more - 1) ≡ more = suc_pred more c.if-more-eq0.false in
    subst (λ f. Reaches style f out frames x y z) (sym c.in-Arguments.is)
    (subst (λ k. Reaches style (Arguments k) out frames x y z) e
    (argument-Reaches style (more - 1) out frames x y z
    (c.in_ok-expect-in-Arguments.ensures.out ∙ (c.in_ok-put-in-Arguments-2.ensures ∙ ap (beside out) c.as_slice-in-Arguments.ensures))
    c.in_ok-expect-in-Arguments.ensures.frames c.in_ok-expect-in-Arguments.ensures.place))
