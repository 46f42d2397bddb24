use Rattle.std.proofs.Common.{get_or, sym, ◌∙◌, ap, arith}
use mathlib.Core.Path.{subst₂}
use Rattle.std.specs.Prelude.{is_some}
use Rattle.std.proofs.lemmas.List.{length-map}
use Rattle.cp_term.specs.CellRefs.{cell_at}
use Rattle.cp_term.specs.Classes.{Clashes, Combines}
use Rattle.cp_term.proofs.lemmas.TermGraphLaws.{cell_of-got}
use Rattle.cp_term.proofs.lemmas.ClassLaws.{Clashes-from, Combines-from}
use Rattle.cp_term.proofs.classes.combined.Goals as goal

pub returns-then-not-is_same-clause-schema : goal.returns-then-not-is_same-clause-schema
returns-then-not-is_same-clause-schema c =
    let refs = c.args.graph.cells.now in
    let len = length-map refs cell_at in
    let left = cell_of-got refs c.args.left c.index-graph-left.result (omega arith) in
    let right = cell_of-got refs c.args.right c.index-graph-right.result (omega arith) in
    subst₂ Clashes (sym left) (sym right)
    (Clashes-from (cell_at (get_or refs c.args.left c.index-graph-left.result)) (cell_at (get_or refs c.args.right c.index-graph-right.result))
    (sym (c.is_some.ensures ∙ ap is_some c.variable.ensures.value) ∙ c.if-is_some.false)
    (sym (c.is_some-2.ensures ∙ ap is_some c.variable-2.ensures.value) ∙ c.if-is_some-2.false)
    (sym c.is_same.ensures ∙ c.if-not-is_same.true))

pub returns-clause-schema : goal.returns-clause-schema
returns-clause-schema c =
    let refs = c.args.graph.cells.now in
    let len = length-map refs cell_at in
    let left = cell_of-got refs c.args.left c.index-graph-left.result (omega arith) in
    let right = cell_of-got refs c.args.right c.index-graph-right.result (omega arith) in
    subst₂ (λ x y. Combines x y c.args.left c.args.right c.args.left) (sym left) (sym right)
    (Combines-from (cell_at (get_or refs c.args.left c.index-graph-left.result)) (cell_at (get_or refs c.args.right c.index-graph-right.result)) c.args.left c.args.right (sym c.is_same.ensures ∙ c.if-not-is_same.false))
