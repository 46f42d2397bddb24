use Rattle.std.proofs.Common.{◌≡◌, ◌≤◌, ◌+◌, length, sum, ◌++◌, sym, ◌∙◌, ap, arith, length-append, subst}
use mathlib.Core.Path.{subst₂}
use Rattle.cp_term.specs.TermGraph.{graph_cells}
use Rattle.cp_term.specs.Classes.{Joining}
use Rattle.cp_term.proofs.lemmas.ClassLaws.{pair-within, named-clash, named-same, named-join, more_of}
use Rattle.cp_term.proofs.classes.joined.Goals as goal

pub find-left-requires-clause-within : goal.find-left-requires-clause-within
find-left-requires-clause-within c =
    let j = c.requires.joining in
    let inside = pair-within (graph_cells c.args.graph) c.args.graph.ends.now c.args.graph.second c.requires.graph c.args.parents.now c.args.schemas.now c.args.pairs.now.items c.args.pair j in
    let len = j.len in
    omega arith

pub find-right-requires-clause-within : goal.find-right-requires-clause-within
find-right-requires-clause-within c =
    let j = c.requires.joining in
    let inside = pair-within (graph_cells c.args.graph) c.args.graph.ends.now c.args.graph.second c.requires.graph c.args.parents.now c.args.schemas.now c.args.pairs.now.items c.args.pair j in
    let len = j.len in
    let kept = c.find-left.auto.parents in
    omega arith

pub returns-then-left-right-clause-joining : goal.returns-then-left-right-clause-joining
returns-then-left-right-clause-joining c = λ _.
    let j = c.requires.joining in
    let left = c.find-left.ensures.forest j.root j.forest in
    let right = c.find-right.ensures.forest j.root left.0 in
    named-same (graph_cells c.args.graph) c.args.graph.ends.now c.args.graph.second c.requires.graph c.args.parents.now c.args.schemas.now c.args.pairs.now.items c.args.pair j
    c.find-left.result c.find-right.result left.1 right.1
    c.find-right.new.parents (c.find-right.auto.parents ∙ c.find-left.auto.parents ∙ j.len) c.find-right.ensures.falls right.0 c.if-left-right.true

pub returns-in-None-clause-clash : goal.returns-in-None-clause-clash
returns-in-None-clause-clash c = λ _ m.
    let j = c.requires.joining in
    let left = c.find-left.ensures.forest j.root j.forest in
    let right = c.find-right.ensures.forest j.root left.0 in
    named-clash (graph_cells c.args.graph) c.args.graph.ends.now c.args.graph.second c.requires.graph c.args.parents.now c.args.schemas.now c.args.pairs.now.items c.args.pair j
    c.find-left.result c.find-right.result left.1 right.1
    (rw c.in-None.is at c.in_ok-combined.ensures.schema) m

pub returns-in-Some-clause-joining : goal.returns-in-Some-clause-joining
returns-in-Some-clause-joining c = λ _.
    let j = c.requires.joining in
    let left = c.find-left.ensures.forest j.root j.forest in
    let right = c.find-right.ensures.forest j.root left.0 in
    let combines = rw c.in-Some.is at c.in_ok-combined.ensures.schema in
    let pairs = rw c.in-Some.is at c.in_ok-combined.ensures.pairs in
    let after = (named-join (graph_cells c.args.graph) c.args.graph.ends.now c.args.graph.second c.requires.graph c.args.parents.now c.args.schemas.now c.args.pairs.now.items c.args.pair j
    c.find-left.result c.find-right.result left.1 right.1
    c.find-right.new.parents (c.find-right.auto.parents ∙ c.find-left.auto.parents ∙ j.len) c.find-right.ensures.falls right.0
    c.if-left-right.false c.in-Some.schema combines).0 in
    let moved = subst₂ (λ ps ss. Joining (graph_cells c.args.graph) c.args.graph.ends.now c.args.graph.second ps ss
    (c.args.pairs.now.items ++ more_of (graph_cells c.args.graph) c.args.graph.ends.now c.args.schemas.now c.find-left.result c.find-right.result))
    (sym c.join.ensures.parents) (sym c.join.ensures.schemas) after in
    subst (Joining (graph_cells c.args.graph) c.args.graph.ends.now c.args.graph.second c.join.new.parents c.join.new.schemas) (sym pairs) moved

pub returns-in-Some-clause-less : goal.returns-in-Some-clause-less
returns-in-Some-clause-less c = λ _.
    let j = c.requires.joining in
    let left = c.find-left.ensures.forest j.root j.forest in
    let right = c.find-right.ensures.forest j.root left.0 in
    let combines = rw c.in-Some.is at c.in_ok-combined.ensures.schema in
    let pairs = rw c.in-Some.is at c.in_ok-combined.ensures.pairs in
    let after = (named-join (graph_cells c.args.graph) c.args.graph.ends.now c.args.graph.second c.requires.graph c.args.parents.now c.args.schemas.now c.args.pairs.now.items c.args.pair j
    c.find-left.result c.find-right.result left.1 right.1
    c.find-right.new.parents (c.find-right.auto.parents ∙ c.find-left.auto.parents ∙ j.len) c.find-right.ensures.falls right.0
    c.if-left-right.false c.in-Some.schema combines) in
    let more = more_of (graph_cells c.args.graph) c.args.graph.ends.now c.args.schemas.now c.find-left.result c.find-right.result in
    let lower : sum c.join.new.parents + 1 ≤ sum c.find-right.new.parents = subst (λ ps. sum ps + 1 ≤ sum c.find-right.new.parents) (sym c.join.ensures.parents) after.1 in
    let few : length more ≤ 255 = after.2 in
    let long : length c.combined.new.pairs.items ≡ length c.args.pairs.now.items + length more = ap length pairs ∙ length-append c.args.pairs.now.items more in
    let first = c.find-left.ensures.sum in
    let second = c.find-right.ensures.sum in
    let new_len = c.combined.new.pairs.ok.0 in
    let old_len = c.args.pairs.now.ok.0 in
    omega arith
