use Rattle.std.proofs.Common.{[], ◌∷◌, false, refl}
use Rattle.std.specs.Prelude.{map}
use Rattle.cp_call.specs.declared.call.ObjectKind.TheVariants as kind
use Rattle.cp_call.specs.declared.call.ObjectName.TheVariants as name
use Rattle.cp_call.specs.Setup.{main_of, object_of, opening_goals}
use Rattle.cp_code.specs.Programs.{parts_of}
use Rattle.cp_simulate.specs.Runs.{setup}
use Rattle.cp_simulate.proofs.Mains.{main_unifies}
use Rattle.cp_simulate.proofs.laws.the_main_goal_is_taken.Goals as goal

pub returns : goal.returns
returns c p seed steps engines o run some =
    c.the_first_goal_is_taken.ensures (setup p steps) steps engines o (record { name = name.Goals; kind = kind.Goals; opening = opening_goals p.first false })
    (record { name = name.Ended; kind = kind.Ended; opening = [] } ∷ map object_of (parts_of p).shared) (main_of p.first) [] run.sound run.workers some refl refl refl (main_unifies p.first)
