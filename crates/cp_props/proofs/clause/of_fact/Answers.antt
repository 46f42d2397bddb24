use Rattle.std.proofs.Common.{◌≡◌, List, sym, ◌∙◌, ap, subst}
use Rattle.std.specs.Prelude.{Option, Some, IfOk}
use Rattle.std.specs.Option.{option_map}
use Rattle.cp_heap.specs.State.{instance_at}
use Rattle.cp_code.specs.Properties.{TypeClause, clause_of}
use Rattle.cp_props.specs.declared.demand.Demand.{Demand}
use Rattle.cp_props.specs.Demands.{demands, demands_shown}
use Rattle.cp_props.specs.Scans.{fact_body}
use Rattle.cp_props.proofs.Clausal.{no_fact, fact_clause, no_clause-demands, fact_body-demands}
use Rattle.cp_props.proofs.clause.of_fact.Goals as goal

pub returns-then-is_no_fact-clause-demands : goal.returns-then-is_no_fact-clause-demands
returns-then-is_no_fact-clause-demands c =
    let t = instance_at c.args.heap.now c.args.at.at in
    sym (ap (λ k. demands k t) (no_fact c.args.cells.now c.requires.fact (sym c.is_no_fact.ensures ∙ c.if-is_no_fact.true)) ∙ no_clause-demands t)

pub returns-in-Some-clause-demands : goal.returns-in-Some-clause-demands
returns-in-Some-clause-demands c =
    let h = c.args.heap.now in
    let same : clause_of c.args.cells.now ≡ record { pattern = c.in-Some.pattern.now; body = fact_body } =
    fact_clause c.args.cells.now (sym c.is_no_fact.ensures ∙ c.if-is_no_fact.false) ∙ c.in-Some.ensures.argument fact_body in
    subst (λ (k : TypeClause). IfOk c.of_pattern_alone.result (λ (found : Option (List Demand)). option_map (demands_shown h) found ≡ demands k (instance_at h c.args.at.at)))
    (sym same) c.of_pattern_alone.ensures.demands

pub returns-in-None-clause-demands : goal.returns-in-None-clause-demands
returns-in-None-clause-demands c =
    let h = c.args.heap.now in
    let t = instance_at h c.args.at.at in
    ap (λ ds. Some (demands_shown h ds)) c.new.ensures
    ∙ sym
    (ap (λ k. demands k t) (fact_clause c.args.cells.now (sym c.is_no_fact.ensures ∙ c.if-is_no_fact.false) ∙ c.in-None.ensures.argument fact_body)
    ∙ fact_body-demands t)
