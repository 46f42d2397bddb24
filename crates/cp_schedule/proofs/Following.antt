-- What a list of picks comes to, from the beginning of a run to where it stops.
use Rattle.std.proofs.Common.{◌≡◌, ◌≢◌, Bool, true, false, ℕ, List, [], ◌∷◌, length, refl, sym, ◌∙◌, ap, subst}
use Rattle.std.specs.Prelude.{map, MatchBool}
use Rattle.cp_call.specs.declared.outcome.OutEntry.{OutEntry}
use Rattle.cp_call.specs.declared.outcome.Outcome.{Outcome}
use Rattle.cp_call.specs.Life.{Rule}
use Rattle.cp_call.specs.Progress.{beginning}
use Rattle.cp_call.specs.Sound.{Setup}
use Rattle.cp_shell.specs.Shell.{ShellView}
use Rattle.cp_hall.specs.Hall.{HallObject, objects_of, AreLegal}
use Rattle.cp_schedule.specs.declared.by_picks.Course.{Course}
use Rattle.cp_schedule.specs.declared.by_picks.Course.TheVariants as course
use Rattle.cp_schedule.specs.declared.end.Picked.{Picked}
use Rattle.cp_schedule.specs.declared.end.Picked.TheVariants as picked
use Rattle.cp_schedule.specs.Awake.{awake_below}
use Rattle.cp_schedule.specs.Record.{AreDriven, AreNew, IsLater, RecordLeads, pred_now, record_now, workers_setup}
use Rattle.cp_schedule.specs.Ended.{IsFresh, record_ended}
use Rattle.cp_schedule.specs.Picked.{HasFollowed, HasTaken, IfEnded, IsEndOf, IsRunOfPicks}
use Rattle.cp_schedule.specs.Turns.{RunsBy, all_at_rest, awake_places}
use Rattle.cp_schedule.proofs.Seeding.{rest_same}
use Rattle.cp_schedule.proofs.Standing.{awake_places_same}
use Rattle.cp_schedule.proofs.Starting.{starts_driven, starts_at_beginning}

awake_then : {M Code : Type 0} (code : M → Code) (asks : Code → Rule) (s1 s2 : List (ShellView M)) (h1 h2 : List HallObject) (p1 p2 : List OutEntry)
    → IsLater code asks s1 s2 h1 h2 p1 p2 → AreLegal h2 → (k : Code) (steps : ℕ) → AreDriven code asks k (objects_of h1) s1 h1 p1 → awake_places (record_now steps s2 h2 p2) ≡ awake_below h2 s2 (length s2)
awake_then code asks s1 s2 h1 h2 p1 p2 later legal k steps d =
    awake_places_same code asks k s2 h2 p2 (subst (λ os. AreDriven code asks k os s2 h2 p2) (sym later.objects) (later.driven k d)) legal steps

-- after all picks all are parked
pub rests_after : {M Code : Type 0} (code : M → Code) (asks : Code → Rule) (s1 s2 : List (ShellView M)) (h1 h2 : List HallObject) (p1 p2 : List OutEntry) (picks : List ℕ)
    → IsLater code asks s1 s2 h1 h2 p1 p2 → AreLegal h2 → RecordLeads code asks s1 s2 h1 h2 p1 p2 (λ s before after. RunsBy s before picks after) → awake_below h2 s2 (length s2) ≡ []
    → RecordLeads code asks s1 s2 h1 h2 p1 p2 (λ s before after. HasFollowed s before picks course.Rest after)
rests_after code asks s1 s2 h1 h2 p1 p2 picks later legal runs none k steps d = (runs k steps d, awake_then code asks s1 s2 h1 h2 p1 p2 later legal k steps d ∙ none)

-- or some are not
pub wakes_after : {M Code : Type 0} (code : M → Code) (asks : Code → Rule) (s1 s2 : List (ShellView M)) (h1 h2 : List HallObject) (p1 p2 : List OutEntry) (picks : List ℕ)
    → IsLater code asks s1 s2 h1 h2 p1 p2 → AreLegal h2 → RecordLeads code asks s1 s2 h1 h2 p1 p2 (λ s before after. RunsBy s before picks after) → awake_below h2 s2 (length s2) ≢ []
    → RecordLeads code asks s1 s2 h1 h2 p1 p2 (λ s before after. HasFollowed s before picks course.Awake after)
wakes_after code asks s1 s2 h1 h2 p1 p2 picks later legal runs some k steps d = (runs k steps d, λ none. some (sym (awake_then code asks s1 s2 h1 h2 p1 p2 later legal k steps d) ∙ none))

-- what leads on from fresh shells does so from the beginning of a run
pub from_beginning : {M Code : Type 0} (code : M → Code) (asks : Code → Rule) (count : Code → ℕ) (shells now : List (ShellView M)) (hall hall_now : List HallObject) (port port_now : List OutEntry) (k : Code) (steps : ℕ) (leads : Setup → Outcome → Outcome → Type 0)
    → IsFresh code count shells hall → port ≡ [] → RecordLeads code asks shells now hall hall_now port port_now leads → AreNew code k shells
    → leads (workers_setup (asks k) (objects_of hall)) (beginning (workers_setup (asks k) (objects_of hall)) steps (length shells)) (record_now steps now hall_now port_now)
from_beginning code asks count shells now hall hall_now port port_now k steps leads fresh empty run new =
    subst (λ b. leads (workers_setup (asks k) (objects_of hall)) b (record_now steps now hall_now port_now)) (starts_at_beginning code (asks k) k steps shells hall port new fresh.unasked empty)
    (run k steps (starts_driven code asks k shells hall port new fresh.unasked empty))

-- the answer of a run that rests
pub rests_as : {M : Type 0} (s : Setup) (picks : List ℕ) (steps workers : ℕ) (now : List (ShellView M)) (hall : List HallObject) (port : List OutEntry) (end : Picked)
    → HasFollowed s (beginning s steps workers) picks course.Rest (record_now steps now hall port) → IsEndOf steps now hall port end → IsRunOfPicks s picks steps workers end (record_now steps now hall port)
rests_as {M} s picks steps workers now hall port (picked.Ended end) followed is =
    let ended : all_at_rest (record_now steps now hall port) ≡ record_ended steps now hall port = ap (λ es. record { steps = steps; engines = es; preds = map pred_now hall; port = port }) (rest_same now) in
    (followed.0, followed.1, is ∙ sym ended)
rests_as s picks steps workers now hall port picked.Awake followed is = absurd is
rests_as s picks steps workers now hall port (picked.BadPick place) followed is = absurd is
rests_as s picks steps workers now hall port picked.NoMemory followed is = tt

-- what holds of the record of an end holds of its outcome
pub if_ended : {M : Type 0} (steps : ℕ) (shells : List (ShellView M)) (hall : List HallObject) (port : List OutEntry) (end : Picked) {holds : Outcome → Type 0} → IsEndOf steps shells hall port end
    → ((o : Outcome) → o ≡ record_ended steps shells hall port → holds o) → IfEnded end holds
if_ended steps shells hall port (picked.Ended end) is f = f end is
if_ended steps shells hall port picked.Awake is f = tt
if_ended steps shells hall port (picked.BadPick place) is f = tt
if_ended steps shells hall port picked.NoMemory is f = tt

-- an end without an outcome asks nothing of it
pub unended : (holds : Outcome → Type 0) (end other : Picked) → end ≡ other → IfEnded other holds → IfEnded end holds
unended holds end other same h = subst (λ e. IfEnded e holds) (sym same) h

-- whether all are parked, by the shells themselves
pub parked_means : {M : Type 0} (hall : List HallObject) (slice shells : List (ShellView M)) (b : Bool) → slice ≡ shells → b ≡ true
    → MatchBool b (awake_below hall slice (length slice) ≡ []) (awake_below hall slice (length slice) ≢ []) → awake_below hall shells (length shells) ≡ []
parked_means hall slice shells b same is h = subst (λ xs. awake_below hall xs (length xs) ≡ []) same (subst (λ v. MatchBool v (awake_below hall slice (length slice) ≡ []) (awake_below hall slice (length slice) ≢ [])) is h)

pub awake_means : {M : Type 0} (hall : List HallObject) (slice shells : List (ShellView M)) (b : Bool) → slice ≡ shells → b ≡ false
    → MatchBool b (awake_below hall slice (length slice) ≡ []) (awake_below hall slice (length slice) ≢ []) → awake_below hall shells (length shells) ≢ []
awake_means hall slice shells b same is h = subst (λ xs. awake_below hall xs (length xs) ≢ []) same (subst (λ v. MatchBool v (awake_below hall slice (length slice) ≡ []) (awake_below hall slice (length slice) ≢ [])) is h)
