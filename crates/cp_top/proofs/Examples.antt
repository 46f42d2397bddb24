-- Endings and lines of runs, by the definitions.
use Rattle.std.proofs.Common.{◌≡◌, List, [], ◌∷◌, refl, None}
use Rattle.std.specs.Prelude.{ℕ, pos, codes}
use Rattle.std.specs.Fmt.{digits}
use Rattle.cp_term.specs.declared.cell.Cell.{Cell}
use Rattle.cp_term.specs.declared.cell.Cell.TheVariants.{Var, Int, Atom, Func}
use Rattle.cp_call.specs.declared.call.Call.TheVariants as call
use Rattle.cp_call.specs.declared.call.Reply.TheVariants as reply
use Rattle.cp_call.specs.declared.call.ObjectName.TheVariants as name
use Rattle.cp_call.specs.declared.item.Item.{Item}
use Rattle.cp_call.specs.declared.item.Item.TheVariants as item
use Rattle.cp_call.specs.declared.outcome.EngineEnd.{EngineEnd}
use Rattle.cp_call.specs.declared.outcome.Stand.TheVariants as stand
use Rattle.cp_module.specs.declared.why.Why.TheVariants as why
use Rattle.cp_top.specs.Ending.{Ending, ending_by, how_in, name_text, waits_on, suspended_on}
use Rattle.cp_top.specs.Lines.{refused_line}

goal_1_steps : ending_by (Atom (codes "steps") ∷ []) ≡ record { status = 4; line = codes "{STEPS: goal 1}\n" }
goal_1_steps = refl

goal_1_fails : ending_by (Atom (codes "fail") ∷ []) ≡ record { status = 1; line = codes "{FAILED: goal 1}\n" }
goal_1_fails = refl

goal_1_has_an_answer : ending_by (Atom (codes "true") ∷ []) ≡ record { status = 0; line = [] }
goal_1_has_an_answer = refl

goal_1_throws : ending_by (Func (codes "ball") 1 ∷ Func (codes "f") 1 ∷ Atom (codes "B b") ∷ []) ≡ record { status = 2; line = codes "{UNCAUGHT: f('B b')}\n" }
goal_1_throws = refl

goal_2_has_ended : how_in (Func (codes "ended") 2 ∷ Int (pos 2) ∷ Atom (codes "true") ∷ []) ≡ None
goal_2_has_ended = refl

goal_1_waits_on_a_predicate : suspended_on (name.Pred (record { «module» = codes "m"; name = codes "q"; arity = 1 })) ≡ record { status = 3; line = codes "{SUSPENDED: goal 1 on m:q/1}\n" }
unfolding digits
goal_1_waits_on_a_predicate = refl

-- engine 2 took goal 1 and is parked on object 2; engine 1 is parked on `$goals`
abbrev takes : ℕ → List Item
takes number = item.Asked 0 (call.Take (Var 0 ∷ []) None) (reply.Found (pos number) (Atom (codes "main") ∷ [])) ∷ []

abbrev engines : (at : ℕ) → List EngineEnd
engines at =
    record { number = 1; items = takes 2; stand = stand.Parked 0 } ∷ record { number = 2; items = takes 1; stand = stand.Parked at } ∷ []

goal_1_waits_where_its_engine_is_parked : (at : ℕ) → waits_on (engines at) ≡ at
goal_1_waits_where_its_engine_is_parked at = refl

nobody_took_goal_1 : waits_on (record { number = 1; items = takes 2; stand = stand.Parked 3 } ∷ []) ≡ 0
nobody_took_goal_1 = refl

a_refusal : refused_line (record { file = codes "m.pl"; line = 2; why = why.WideNumber }) ≡ codes "{REFUSED: m.pl:2: WideNumber}\n"
unfolding digits
a_refusal = refl
