use Rattle.std.proofs.Common.{◌≡◌, suc, ◌-◌, ◌∙◌, ap, subst, arith}
use Rattle.std.specs.Prelude.{codes}
use Rattle.cp_term.specs.declared.cell.Cell.TheVariants.{Func}
use Rattle.cp_ops.specs.Text.{beside, functor_text}
use Rattle.cp_write.specs.declared.shape.Shape.TheVariants.{Canonical}
use Rattle.cp_write.specs.Writing.{style_of, text_by, Continues}
use Rattle.cp_write.proofs.lemmas.WriterLaws.{canonical-Continues}
use Rattle.cp_write.proofs.writer.Writer.write_canonical.Goals as goal

pub returns : goal.returns
returns c =
    let style = style_of c.args.style in
    let name = c.args.name.now in
    let out = c.args.self.now.out.items in
    let e : suc (c.args.arity - 1) ≡ c.args.arity = omega (arith, c.requires) in
    let text = c.in_ok-expect.ensures.out ∙ (c.in_ok-put.ensures ∙ (ap (beside c.put_functor.new.out.items) c.as_slice.ensures
    ∙ ap (λ x. beside x (codes "(")) (c.in_ok-put_functor.ensures ∙ ap (λ x. beside out (functor_text style x)) c.bytes.ensures.bytes))) in
    subst (λ k. Continues style k (text_by style (Func name k) (Canonical k)) out c.args.self.now.frames.items c.expect.new.self.out.items c.expect.new.self.frames.items c.expect.new.self.place) e
    (canonical-Continues style name (c.args.arity - 1) out c.args.self.now.frames.items c.expect.new.self.out.items c.expect.new.self.frames.items c.expect.new.self.place
    text c.in_ok-expect.ensures.frames c.in_ok-expect.ensures.place)
