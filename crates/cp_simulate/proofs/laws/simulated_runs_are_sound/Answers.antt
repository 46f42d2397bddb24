use Rattle.cp_simulate.proofs.Outcomes.{is_sound_run}
use Rattle.cp_simulate.proofs.laws.simulated_runs_are_sound.Goals as goal

pub returns : goal.returns
returns c = is_sound_run
