use Rattle.std.proofs.Common.{map, sym, ◌∙◌, arith}
use Rattle.cp_code.specs.Programs.{type_of}
use Rattle.cp_props.proofs.Searching.{pushed-ends, pushed-cost}
use Rattle.cp_props.proofs.search.has_within.Goals as goal

pub attempts-smaller : goal.attempts-smaller
attempts-smaller c =
    let types = map type_of c.args.types.now in
    let h = c.args.heap.now in
    let cost = pushed-cost types h c.pop.new.self c.attempts.attempts c.in-Some.attempt c.in-Some.ensures in
    omega (arith, c.in_ok-passed-in-Some.ensures.went.less, cost)

pub attempts-preserved : goal.attempts-preserved
attempts-preserved c =
    let types = map type_of c.args.types.now in
    let h = c.args.heap.now in
    record {
      live = c.in_ok-passed-in-Some.ensures.live;
      so_far = c.in_ok-passed-in-Some.ensures.went.answer_is
          ∙ sym (pushed-ends types h c.pop.new.self c.attempts.attempts c.in-Some.attempt c.in-Some.ensures c.attempts.passed)
          ∙ c.attempts.invariant.so_far;
    }
