use Rattle.std.proofs.Common.{ap}
use Rattle.cp_props.specs.Patterns.{places_shown}
use Rattle.cp_props.specs.Demands.{joined, demands_shown}
use Rattle.cp_props.proofs.Goals.{other_arity}
use Rattle.cp_props.proofs.goal.put_compound.Goals as goal

pub returns-clause-put : goal.returns-clause-put
returns-clause-put c =
    let h = c.args.heap.now in
    ap (joined (demands_shown h c.args.demands.now))
    (other_arity (places_shown h c.args.places.now) c.args.name.now c.args.arity c.args.rest.now c.if-arity-eq1.false c.if-arity-eq2.false)
