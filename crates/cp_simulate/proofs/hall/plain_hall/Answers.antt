use Rattle.cp_simulate.proofs.Objects.{objects_are, none_asked}
use Rattle.cp_simulate.proofs.hall.plain_hall.Goals as goal

pub returns-clause-objects : goal.returns-clause-objects
returns-clause-objects c = objects_are c.args.program.now c.as_slice.result.now c.as_slice-2.result.now c.in_ok-hall.hall c.add_all_shared.new.hall
    (record { lists_are = c.in_ok-hall.ensures; preds_are = c.as_slice.ensures; names_are = c.as_slice-2.ensures; hall_is = c.in_ok-add_all_shared.ensures })

pub returns-clause-unasked : goal.returns-clause-unasked
returns-clause-unasked c = none_asked c.args.program.now c.as_slice.result.now c.as_slice-2.result.now c.in_ok-hall.hall c.add_all_shared.new.hall
    (record { lists_are = c.in_ok-hall.ensures; preds_are = c.as_slice.ensures; names_are = c.as_slice-2.ensures; hall_is = c.in_ok-add_all_shared.ensures })
