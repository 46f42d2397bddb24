use Rattle.std.proofs.Common.{◌∙◌, ap, sym, subst, refl}
use Rattle.cp_term.specs.declared.cell.Cell.TheVariants.{Func}
use Rattle.cp_ops.specs.Text.{beside}
use Rattle.cp_write.specs.Writing.{style_of, arity_in, text_by, Continues}
use Rattle.cp_write.proofs.lemmas.WriterLaws.{element-Continues, braces-Continues, infix-Continues}
use Rattle.cp_write.proofs.writer.Writer.write_compound.Goals as goal

pub returns-in_ok-expect-in-Element : goal.returns-in_ok-expect-in-Element
returns-in_ok-expect-in-Element c =
    let style = style_of c.args.style in
    let out = c.args.self.now.out.items in
    let frames = c.args.self.now.frames.items in
    let x = c.expect.new.self.out.items in
    let y = c.expect.new.self.frames.items in
    let z = c.expect.new.self.place in
    subst (λ s. Continues style (arity_in s) (text_by style (Func c.args.name.now (arity_in s)) s) out frames x y z) (sym c.in-Element.is)
    (element-Continues style 91 out frames x y z refl (c.in_ok-expect-in-Element.ensures.out ∙ (c.in_ok-put-in-Element.ensures ∙ ap (beside out) c.as_slice.ensures))
    c.in_ok-expect-in-Element.ensures.frames c.in_ok-expect-in-Element.ensures.place)

pub returns-in_ok-expect-in-Braces : goal.returns-in_ok-expect-in-Braces
returns-in_ok-expect-in-Braces c =
    let style = style_of c.args.style in
    let out = c.args.self.now.out.items in
    let frames = c.args.self.now.frames.items in
    let x = c.expect-in-Braces.new.self.out.items in
    let y = c.expect-in-Braces.new.self.frames.items in
    let z = c.expect-in-Braces.new.self.place in
    subst (λ s. Continues style (arity_in s) (text_by style (Func c.args.name.now (arity_in s)) s) out frames x y z) (sym c.in-Braces.is)
    (braces-Continues style c.args.name.now out frames x y z (c.in_ok-expect-in-Braces.ensures.out ∙ (c.in_ok-put-in-Braces.ensures ∙ ap (beside out) c.as_slice-in-Braces.ensures))
    c.in_ok-expect-in-Braces.ensures.frames c.in_ok-expect-in-Braces.ensures.place)

pub returns-in_ok-expect-in-Infix : goal.returns-in_ok-expect-in-Infix
returns-in_ok-expect-in-Infix c =
    let style = style_of c.args.style in
    let out = c.args.self.now.out.items in
    let frames = c.args.self.now.frames.items in
    let x = c.expect-in-Infix.new.self.out.items in
    let y = c.expect-in-Infix.new.self.frames.items in
    let z = c.expect-in-Infix.new.self.place in
    subst (λ s. Continues style (arity_in s) (text_by style (Func c.args.name.now (arity_in s)) s) out frames x y z) (sym c.in-Infix.is)
    (infix-Continues style c.args.name c.in-Infix.priority c.in-Infix.fix out frames x y z c.in_ok-expect-in-Infix.ensures.out
    c.in_ok-expect-in-Infix.ensures.frames c.in_ok-expect-in-Infix.ensures.place)
