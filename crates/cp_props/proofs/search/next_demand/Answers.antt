use Rattle.std.proofs.Common.{◌≡◌, Bool, true, [], map, drop, sym, ◌∙◌, subst, arith}
use Rattle.std.proofs.lemmas.List.{drop_all, length-map}
use Rattle.cp_code.specs.Programs.{type_of}
use Rattle.cp_props.specs.Demands.{demands_shown, demand_shown}
use Rattle.cp_props.specs.Search.{attempt_shown, attempts_shown, GoesOn}
use Rattle.cp_props.proofs.Searching.{none_past, goes_by_passing}
use Rattle.cp_props.proofs.search.next_demand.Goals as goal

pub returns-in-None-clause-went : goal.returns-in-None-clause-went
returns-in-None-clause-went c =
    let types = map type_of c.args.types.now in
    let h = c.args.heap.now in
    let a = c.args.attempt in
    let past = none_past a.demands a.met (sym c.in_ok-demand.ensures.demand ∙ c.in-None.is) in
    let none : drop a.met (demands_shown h a.demands) ≡ [] = drop_all a.met (demands_shown h a.demands) (omega (arith, length-map a.demands (demand_shown h), past)) in
    subst (λ (ok : Bool). GoesOn types (attempts_shown types h c.args.attempts.now) (attempt_shown types h a) true (attempts_shown types h c.args.attempts.now) ok)
    (sym c.dropped.ensures)
    (goes_by_passing types (attempts_shown types h c.args.attempts.now) (attempt_shown types h a) none)
