use Rattle.std.proofs.Common.{get_or, [], sym, ◌∙◌, ap, nat_eq}
use lib.Pointwise.{pointwise}
use Rattle.cp_control.proofs.BodyLaws.{more_called, more_other, more_many}
use Rattle.cp_control.proofs.control.Control.of_more.Goals as goal

pub returns-then-eq-clause-body : goal.returns-then-eq-clause-body
returns-then-eq-clause-body c terms at m le =
    more_called c.args.name.now c.args.arity (get_or terms at []) m terms c.args.first c.requires.arity le (ap (pointwise nat_eq c.args.name.now) (sym c.as_slice.ensures) ∙ sym c.eq.ensures ∙ c.if-eq.true) c.if-arity-le8.true

pub returns-else-eq-clause-body : goal.returns-else-eq-clause-body
returns-else-eq-clause-body c terms at m le =
    more_other c.args.name.now c.args.arity (get_or terms at []) m terms c.args.first c.requires.arity le (ap (pointwise nat_eq c.args.name.now) (sym c.as_slice.ensures) ∙ sym c.eq.ensures ∙ c.if-eq.false)

pub returns-else-arity-le8-clause-body : goal.returns-else-arity-le8-clause-body
returns-else-arity-le8-clause-body c terms at m le =
    more_many c.args.name.now c.args.arity (get_or terms at []) m terms c.args.first c.if-arity-le8.false le
