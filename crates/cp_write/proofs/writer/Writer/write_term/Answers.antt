use Rattle.std.proofs.Common.{◌∙◌, ap, sym, subst, refl}
use Rattle.cp_term.specs.Preorder.{arity_of}
use Rattle.cp_ops.specs.Text.{beside}
use Rattle.cp_write.specs.Writing.{style_of, enclosed, text_by, Continues}
use Rattle.cp_write.proofs.lemmas.WriterLaws.{bracketed-Continues}
use Rattle.cp_write.proofs.writer.Writer.write_term.Goals as goal

pub returns-then-in_parentheses : goal.returns-then-in_parentheses
returns-then-in_parentheses c =
    let style = style_of c.args.style in
    let out = c.args.self.now.out.items in
    let frames = c.args.self.now.frames.items in
    let text = text_by style c.args.cell.now c.args.shape in
    let k = arity_of c.args.cell.now in
    let x = c.write_bare.new.self.out.items in
    let y = c.write_bare.new.self.frames.items in
    let z = c.write_bare.new.self.place in
    subst (λ b. Continues style k (λ ts. enclosed b (text ts)) out frames x y z) (sym c.if-in_parentheses.true)
    (bracketed-Continues style k text out c.put.new.out.items frames c.push.new.self.items 40 41 x y z refl refl
    (c.in_ok-put.ensures ∙ ap (beside out) c.as_slice.ensures) c.in_ok-push.ensures.items c.in_ok-write_bare.ensures)
