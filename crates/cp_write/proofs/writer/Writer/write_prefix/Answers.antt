use Rattle.std.proofs.Common.{◌∙◌, ap, refl}
use Rattle.std.specs.Prelude.{codes}
use Rattle.cp_ops.specs.Text.{beside, name_text}
use Rattle.cp_write.specs.declared.place.Place.TheVariants.{Operand}
use Rattle.cp_write.specs.Writing.{style_of}
use Rattle.cp_write.proofs.lemmas.WriterLaws.{prefix-Continues}
use Rattle.cp_write.proofs.writer.Writer.write_prefix.Goals as goal

pub returns : goal.returns
returns c =
    let style = style_of c.args.style in
    let out = c.args.self.now.out.items in
    let text = c.in_ok-put.ensures ∙ (ap (beside c.put_name.new.out.items) c.as_slice.ensures
    ∙ ap (λ x. beside x (codes " ")) (c.in_ok-put_name.ensures ∙ ap (λ x. beside out (name_text style x)) c.bytes.ensures.bytes)) in
    prefix-Continues style c.args.name.now c.args.priority c.args.fix out c.args.self.now.frames.items c.put.new.out.items c.args.self.now.frames.items _
    text refl (ap (λ p. Operand p) c.right_of.ensures)
