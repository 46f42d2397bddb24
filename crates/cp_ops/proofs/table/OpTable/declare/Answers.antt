use Rattle.std.proofs.Common.{◌≡◌, ◌∙◌, sym, ap, false}
use Rattle.cp_ops.specs.Operators.{is_fixed}
use Rattle.cp_ops.proofs.lemmas.TableLaws.{prefix_after, infix_after}
use Rattle.cp_ops.proofs.table.OpTable.declare.Goals as goal

pub invariant_of-self : goal.invariant_of-self
invariant_of-self c =
    let free : is_fixed c.args.name.now ≡ false = sym (ap is_fixed c.bytes-2.ensures.bytes) ∙ sym c.is_fixed.ensures ∙ c.if-is_fixed.false in
    prefix_after (record { prefixes = c.self.inside.prefixes; infixes = c.self.inside.infixes }) _ c.change-done.new.self c.change-done.result c.self.invariant free
    (sym c.is_prefix.ensures ∙ c.if-is_prefix.true) c.change-done.ensures.ok c.change-done.ensures.err c.in-Some.ensures.within

pub invariant_of-self-else-is_prefix : goal.invariant_of-self-else-is_prefix
invariant_of-self-else-is_prefix c =
    let free : is_fixed c.args.name.now ≡ false = sym (ap is_fixed c.bytes-2.ensures.bytes) ∙ sym c.is_fixed.ensures ∙ c.if-is_fixed.false in
    infix_after (record { prefixes = c.self.inside.prefixes; infixes = c.self.inside.infixes }) _ c.change-done-else-is_prefix.new.self c.change-done-else-is_prefix.result c.self.invariant free
    (sym c.is_prefix.ensures ∙ c.if-is_prefix.false) c.change-done-else-is_prefix.ensures.ok c.change-done-else-is_prefix.ensures.err c.in-Some.ensures.within
