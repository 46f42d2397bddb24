use Rattle.std.proofs.Common.{◌∙◌, sym, ap}
use Rattle.cp_call.specs.declared.item.Input.TheVariants as input
use Rattle.cp_code.specs.Requests.{full_name}
use Rattle.cp_code.specs.Machine.{writes_told}
use Rattle.cp_run.specs.Shown.{moved}
use Rattle.cp_told.proofs.inputs.tell_written.Goals as goal

pub returns-in_ok-raise_output-in-Failed-clause-moved : goal.returns-in_ok-raise_output-in-Failed-clause-moved
returns-in_ok-raise_output-in-Failed-clause-moved c code =
    c.in_ok-raise_output-in-Failed.ensures.moved code c.args.level
    ∙ ap (λ r. moved code c.args.run.now c.args.rest c.args.level (writes_told (input.Put r) (full_name c.args.context))) (sym c.in-Failed.is)
