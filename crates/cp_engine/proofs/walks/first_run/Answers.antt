use Rattle.std.proofs.Common.{◌≡◌, ◌∙◌, ap, arith}
use Rattle.cp_term.specs.Numbering.{fresh, next_variable}
use Rattle.cp_term.proofs.lemmas.NumberingLaws.{fresh-zero}
use Rattle.cp_code.specs.Requests.{full_name}
use Rattle.cp_heap.specs.State.{terms_at}
use Rattle.cp_run.specs.declared.run.Run.{Run}
use Rattle.cp_engine.specs.Walking.{code}
use Rattle.cp_engine.proofs.WalkLaws.{first-shown, first-walks}
use Rattle.cp_engine.proofs.walks.first_run.Goals as goal

pub returns : goal.returns
returns c =
    let r : Run = record c.new-run.result { heap = c.import.new.self } in
    let empty = c.new-run.ensures.state in
    let none : c.new-run.result.heap.variables ≡ 0 = ap (λ (x : Run). x.heap.variables) empty in
    let more = c.in_ok-goal.ensures.variables in
    let vars : c.import.new.self.variables ≡ next_variable c.args.started.now.goal = omega arith in
    first-walks (code c.args.code.now) c.args.started.now.goal c.the_machine_keeps_its_meaning.ensures.first c.enter.new.run c.in_ok-enter.ensures.stands
    (c.in_ok-enter.ensures.moved (code c.args.code.now)
    ∙ first-shown (code c.args.code.now) c.args.started.now.goal r c.in_ok-goal.goal.at (terms_at c.import.new.self c.new-none.result) (full_name c.in_ok-context.context)
    (ap (λ (x : Run). x.goals) empty)
    c.new-run.ensures.frames
    (c.in_ok-goal.ensures.trail ∙ ap (λ (x : Run). x.heap.trail) empty)
    (c.in_ok-goal.ensures.term ∙ ap (λ (x : Run). fresh x.heap.variables c.args.started.now.goal) empty ∙ fresh-zero c.args.started.now.goal)
    vars
    (ap (λ (x : Run). x.units) empty)
    (ap (λ (x : Run). x.copies) empty)
    (ap (terms_at c.import.new.self) c.new-none.ensures)
    c.in_ok-context.ensures)
