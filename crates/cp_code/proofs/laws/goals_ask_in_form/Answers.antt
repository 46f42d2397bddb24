use Rattle.cp_code.proofs.Forms.{asks_are_in_form, programs_ask_in_form}
use Rattle.cp_code.proofs.laws.goals_ask_in_form.Goals as goal

pub returns : goal.returns
returns c = record { code = asks_are_in_form; program = programs_ask_in_form }
