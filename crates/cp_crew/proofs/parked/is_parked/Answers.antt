use Rattle.std.proofs.Common.{◌≡◌, ◌<◌, false, length, sym, subst, Some}
use Rattle.cp_hall.specs.Hall.{objects_of}
use Rattle.cp_shell.specs.Parked.{parked_object}
use Rattle.cp_schedule.specs.Awake.{is_parked_at}
use Rattle.cp_schedule.proofs.Parking.{parked_inside, parked_in_is}
use Rattle.cp_crew.proofs.parked.is_parked.Goals as goal

pub is_parked-requires : goal.is_parked-requires
is_parked-requires g c =
    let works : c.args.shell.now.is_stopped ≡ false = c.requires.works in
    parked_inside (length (objects_of c.args.hall.now)) c.in-Some.object c.args.shell.now.items (sym (c.in-Some.ensures works)) c.requires.known

pub returns-in-Some : goal.returns-in-Some
returns-in-Some g c =
    let works : c.args.shell.now.is_stopped ≡ false = c.requires.works in
    let there : Some c.in-Some.object ≡ parked_object c.args.shell.now.items = c.in-Some.ensures works in
    let inside : c.in-Some.object < length (objects_of c.args.hall.now) = parked_inside (length (objects_of c.args.hall.now)) c.in-Some.object c.args.shell.now.items (sym there) c.requires.known in
    subst (λ o. c.is_parked.result ≡ is_parked_at c.args.hall.now c.args.shell.now.number o) there
    (parked_in_is c.args.hall.now c.in-Some.object c.args.shell.now.number c.number.result c.is_parked.result inside c.number.ensures c.is_parked.ensures.parked)
