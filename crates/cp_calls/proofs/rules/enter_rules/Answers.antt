use Rattle.std.proofs.Common.{◌≡◌, [], length, map, sym, ◌∙◌, ap, subst}
use Rattle.std.proofs.lemmas.Bool.{false≢true}
use Rattle.cp_term.specs.Preorder.{arguments}
use Rattle.cp_heap.specs.State.{instance_at}
use Rattle.cp_builtin.proofs.ListLaws.{length-instances}
use Rattle.cp_props.specs.Arguments.{HaveArguments}
use Rattle.cp_props.specs.Checks.{check_shown}
use Rattle.cp_code.specs.Checks as tests
use Rattle.cp_code.specs.Programs.{code_of, type_of}
use Rattle.cp_run.specs.Shown.{here_of, instance_in, rules_from}
use Rattle.cp_calls.proofs.ExitLaws.{none-shown, rules-none, rules-some}
use Rattle.cp_calls.proofs.rules.enter_rules.Goals as goal

pub returns-then-is_empty-clause-moved : goal.returns-then-is_empty-clause-moved
returns-then-is_empty-clause-moved c budget =
    let code = code_of c.args.program.now budget in
    let r = c.args.run.now in
    let cs = map check_shown c.args.checks.now in
    let hs = map check_shown c.in_ok-held.held in
    c.in_ok-open_rules.ensures.moved code
    ∙ rules-none code r c.args.pred.now cs hs (rules_from code c.args.place 0) (instance_in (here_of r) c.args.goal.at) c.args.rest c.args.level (ap (map check_shown) (c.is_empty.ensures.0 c.if-is_empty.true))
    (c.in_ok-held.ensures.held ∙ ap (tests.held (map type_of c.args.program.now.types) cs) c.requires.arguments)

pub returns-clause-moved : goal.returns-clause-moved
returns-clause-moved c budget =
    let code = code_of c.args.program.now budget in
    let r = c.args.run.now in
    let cs = map check_shown c.args.checks.now in
    let hs = map check_shown c.in_ok-held.held in
    let no : (hs ≡ [] → ⊥) = λ e. false≢true (sym c.if-is_empty.false ∙ c.is_empty.ensures.1 (none-shown c.in_ok-held.held e)) in
    c.in_ok-open_tested.ensures.moved code
    ∙ rules-some code r c.args.pred.now cs hs (rules_from code c.args.place 0) (instance_in (here_of r) c.args.goal.at) c.args.rest c.args.level no
    (c.in_ok-held.ensures.held ∙ ap (tests.held (map type_of c.args.program.now.types) cs) c.requires.arguments)

pub open_tested-requires-clause-named : goal.open_tested-requires-clause-named
open_tested-requires-clause-named c =
    let h = c.args.run.now.heap in
    let args = c.args.args.now in
    let e : length args ≡ length (arguments (instance_at h c.args.goal.at)) = sym (length-instances h args) ∙ ap length c.requires.arguments in
    subst (λ k. HaveArguments k (map check_shown c.in_ok-held.held)) e c.in_ok-held.ensures.named
