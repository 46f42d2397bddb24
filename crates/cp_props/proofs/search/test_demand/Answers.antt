use Rattle.std.proofs.Common.{◌≡◌, ◌+◌, Bool, true, [], ◌∷◌, ◌++◌, map, drop, ◌∙◌, ap}
use Rattle.std.specs.Prelude.{Some, slice_get}
use Rattle.std.specs.Option.{option_map}
use Rattle.std.proofs.lemmas.Option.{slice_get-map}
use Rattle.std.proofs.lemmas.Result.{IfOk-weaker}
use Rattle.cp_heap.specs.State.{instance_at}
use Rattle.cp_code.specs.Programs.{type_of}
use Rattle.cp_props.specs.declared.attempt.Attempt.{Attempt}
use Rattle.cp_props.specs.Demands.{demand_shown, demands_shown}
use Rattle.cp_props.specs.Search.{attempt_shown, attempts_shown, Tests, GoesOn}
use Rattle.cp_props.proofs.Stacks.{drop-got}
use Rattle.cp_props.proofs.Searching.{pushed-ends, pushed-cost, goes_to_demand}
use Rattle.cp_props.proofs.search.test_demand.Goals as goal

pub returns-clause-went : goal.returns-clause-went
returns-clause-went c =
    let types = map type_of c.args.types.now in
    let h = c.args.heap.now in
    let a = c.args.attempt in
    let d = c.args.demand in
    let shown = attempt_shown types h a in
    let old = attempts_shown types h c.args.attempts.now in
    let pushed = attempts_shown types h c.push.new.self in
    let new = attempts_shown types h c.test.new.attempts in
    let past : Attempt = record a { met = a.met + 1 } in
    let grown = c.in_ok-push.ensures.ok ∙ ap (λ (x : Attempt). c.args.attempts.now ++ x ∷ []) c.past_demand.ensures in
    let here : slice_get (demands_shown h a.demands) a.met ≡ Some (demand_shown h d) = slice_get-map (demand_shown h) a.demands a.met ∙ ap (option_map (demand_shown h)) c.requires.demand in
    let first = drop-got (demands_shown h a.demands) a.met (demand_shown h d) here in
    IfOk-weaker c.test.result
    (λ (passed : Bool). Tests types a.depth d.name (instance_at h d.at.at) pushed new passed)
    (λ (passed : Bool). GoesOn types old shown true new passed)
    (λ passed tested. goes_to_demand types old pushed new shown (demand_shown h d) (drop (a.met + 1) (demands_shown h a.demands)) passed first
    (pushed-ends types h c.args.attempts.now c.push.new.self past grown)
    (pushed-cost types h c.args.attempts.now c.push.new.self past grown)
    tested)
    c.test.ensures.tested
