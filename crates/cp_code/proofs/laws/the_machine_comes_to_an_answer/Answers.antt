use Rattle.cp_code.proofs.Reaching.{machine_comes_to_an_answer, machine_comes_to_the_answer}
use Rattle.cp_code.proofs.laws.the_machine_comes_to_an_answer.Goals as goal

pub returns : goal.returns
returns c = record { every = machine_comes_to_an_answer; tree = machine_comes_to_the_answer }
