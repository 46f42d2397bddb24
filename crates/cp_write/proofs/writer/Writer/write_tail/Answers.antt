use Rattle.std.proofs.Common.{◌≡◌, ◌∙◌, true, false, ap, sym}
use Rattle.std.specs.Prelude.{nat_lt}
use Rattle.cp_ops.specs.Text.{beside}
use Rattle.cp_write.specs.Writing.{style_of, is_element, is_no_elements}
use Rattle.cp_write.proofs.lemmas.WriterLaws.{tail-element, tail-end, tail-other}
use Rattle.cp_write.proofs.writer.Writer.write_tail.Goals as goal

pub returns-then-is_element : goal.returns-then-is_element
returns-then-is_element c =
    let out = c.args.self.now.out.items in
    let element : is_element c.args.shape ≡ true = sym c.is_element.ensures ∙ c.if-is_element.true in
    tail-element (style_of c.args.style) c.args.cell.now c.args.shape out c.args.self.now.frames.items c.expect.new.self.out.items c.expect.new.self.frames.items c.expect.new.self.place element c.requires
    (c.in_ok-expect.ensures.out ∙ (c.in_ok-put.ensures ∙ ap (beside out) c.as_slice.ensures)) c.in_ok-expect.ensures.frames c.in_ok-expect.ensures.place

pub returns-then-is_no_elements : goal.returns-then-is_no_elements
returns-then-is_no_elements c =
    let out = c.args.self.now.out.items in
    let none : is_no_elements c.args.shape ≡ true = sym c.is_no_elements.ensures ∙ c.if-is_no_elements.true in
    tail-end (style_of c.args.style) c.args.cell.now c.args.shape out c.put-then-is_no_elements.new.out.items c.args.self.now.frames.items
    c.settle.new.self.out.items c.settle.new.self.frames.items c.settle.new.self.place none c.requires
    (c.in_ok-put-2.ensures ∙ ap (beside out) c.as_slice-then-is_no_elements.ensures) c.in_ok-settle.ensures

pub returns : goal.returns
returns c =
    let out = c.args.self.now.out.items in
    let element : is_element c.args.shape ≡ false = sym c.is_element.ensures ∙ c.if-is_element.false in
    let none : is_no_elements c.args.shape ≡ false = sym c.is_no_elements.ensures ∙ c.if-is_no_elements.false in
    tail-other (style_of c.args.style) c.args.cell.now c.args.shape (nat_lt 999 c.priority.result) out c.put-2.new.out.items c.args.self.now.frames.items c.push.new.self.items
    c.write_term.new.self.out.items c.write_term.new.self.frames.items c.write_term.new.self.place element none (ap (nat_lt 999) c.priority.ensures)
    (c.in_ok-put-3.ensures ∙ ap (beside out) c.as_slice-2.ensures) c.in_ok-push.ensures.items c.in_ok-write_term.ensures
