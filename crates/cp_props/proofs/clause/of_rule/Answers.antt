use Rattle.std.proofs.Common.{◌≡◌, ◌≤◌, true, List, [], ◌∷◌, length, sym, ◌∙◌, ap, subst, arith}
use Rattle.std.specs.Prelude.{Option, IfOk}
use Rattle.std.specs.Option.{option_map}
use Rattle.std.proofs.lemmas.Result.{IfOk-weaker}
use Rattle.cp_term.specs.declared.cell.Cell.{Cell}
use Rattle.cp_term.specs.Preorder.{is_terms, take_terms, drop_terms, arguments}
use Rattle.cp_heap.specs.State.{instance_at}
use Rattle.cp_code.specs.Properties.{TypeClause, pattern_of, clause_of}
use Rattle.cp_props.specs.Pending.{behind_first}
use Rattle.cp_props.specs.declared.demand.Demand.{Demand}
use Rattle.cp_props.specs.Demands.{demands, demands_shown}
use Rattle.cp_props.proofs.Clausal.{rule_clause}
use Rattle.cp_props.proofs.Scanning.{dropped-shorter}
use Rattle.cp_props.proofs.clause.of_rule.Goals as goal

pub argument_of-requires : goal.argument_of-requires
argument_of-requires c =
    let rule = rule_clause c.args.cells.now c.requires.rule c.requires.term in
    subst (λ (cs : List Cell). is_terms 1 cs ≡ true) (sym (c.split_term.ensures.first ∙ ap (take_terms 1) c.behind_first.ensures)) rule.head

pub of_pattern-requires-clause-body : goal.of_pattern-requires-clause-body
of_pattern-requires-clause-body c =
    let rule = rule_clause c.args.cells.now c.requires.rule c.requires.term in
    subst (λ (cs : List Cell). is_terms 1 cs ≡ true) (sym (c.split_term.ensures.rest ∙ ap (drop_terms 1) c.behind_first.ensures)) rule.body

behind-shorter : (cells : List Cell) → length (behind_first cells) ≤ length cells
behind-shorter [] = omega arith
behind-shorter (c ∷ cells) = omega arith

pub of_pattern-requires-clause-len : goal.of_pattern-requires-clause-len
of_pattern-requires-clause-len c =
    let rest = behind_first c.args.cells.now in
    omega (arith, ap length (c.split_term.ensures.rest ∙ ap (drop_terms 1) c.behind_first.ensures), dropped-shorter 1 rest, behind-shorter c.args.cells.now, c.requires.len)

pub of_no_pattern-requires-clause-body : goal.of_no_pattern-requires-clause-body
of_no_pattern-requires-clause-body c =
    let rule = rule_clause c.args.cells.now c.requires.rule c.requires.term in
    subst (λ (cs : List Cell). is_terms 1 cs ≡ true) (sym (c.split_term.ensures.rest ∙ ap (drop_terms 1) c.behind_first.ensures)) rule.body

pub of_no_pattern-requires-clause-len : goal.of_no_pattern-requires-clause-len
of_no_pattern-requires-clause-len c =
    let rest = behind_first c.args.cells.now in
    omega (arith, ap length (c.split_term.ensures.rest ∙ ap (drop_terms 1) c.behind_first.ensures), dropped-shorter 1 rest, behind-shorter c.args.cells.now, c.requires.len)

pub returns-in-Some-clause-demands : goal.returns-in-Some-clause-demands
returns-in-Some-clause-demands c =
    let h = c.args.heap.now in
    let rule = rule_clause c.args.cells.now c.requires.rule c.requires.term in
    let head = c.split_term.ensures.first ∙ ap (take_terms 1) c.behind_first.ensures in
    let body = c.split_term.ensures.rest ∙ ap (drop_terms 1) c.behind_first.ensures in
    let same : clause_of c.args.cells.now ≡ record { pattern = c.in-Some.pattern.now; body = c.split_term.result.1.now } =
    rule.clause ∙ (λ i. pattern_of (arguments (sym head i)) (sym body i)) ∙ c.in-Some.ensures.argument c.split_term.result.1.now in
    subst (λ (k : TypeClause). IfOk c.of_pattern.result (λ (found : Option (List Demand)). option_map (demands_shown h) found ≡ demands k (instance_at h c.args.at.at)))
    (sym same) c.of_pattern.ensures.demands

pub returns-in-None-clause-demands : goal.returns-in-None-clause-demands
returns-in-None-clause-demands c =
    let h = c.args.heap.now in
    let t = instance_at h c.args.at.at in
    let rule = rule_clause c.args.cells.now c.requires.rule c.requires.term in
    let head = c.split_term.ensures.first ∙ ap (take_terms 1) c.behind_first.ensures in
    let body = c.split_term.ensures.rest ∙ ap (drop_terms 1) c.behind_first.ensures in
    let same : clause_of c.args.cells.now ≡ record { pattern = []; body = c.split_term.result.1.now } =
    rule.clause ∙ (λ i. pattern_of (arguments (sym head i)) (sym body i)) ∙ c.in-None.ensures.argument c.split_term.result.1.now in
    let found_is : TypeClause → Option (List Demand) → Type 0 = λ k found. option_map (demands_shown h) found ≡ demands k t in
    subst (λ (k : TypeClause). IfOk c.of_no_pattern.result (found_is k))
    (sym same)
    (IfOk-weaker c.of_no_pattern.result (λ (found : Option (List Demand)). (u : List Cell) → option_map (demands_shown h) found ≡ demands (record { pattern = []; body = c.split_term.result.1.now }) u)
    (found_is (record { pattern = []; body = c.split_term.result.1.now }))
    (λ found p. p t) c.of_no_pattern.ensures.demands)
