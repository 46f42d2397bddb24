use Rattle.std.proofs.Common.{◌≡◌, ◌+◌, length, get_or, set, ◌++◌, ◌∷◌, [], sym, ◌∙◌, ap, arith, subst}
use mathlib.Core.Path.{subst₂}
use Rattle.std.specs.Prelude.{Some, None, unwrap_or}
use Rattle.std.proofs.lemmas.List.{length-map, length-set, with_items_is}
use Rattle.cp_term.specs.declared.classes.Pair.{Pair}
use Rattle.cp_term.specs.CellRefs.{variable_of, cell_at, cells_at}
use Rattle.cp_term.specs.TermGraph.{cell_of}
use Rattle.cp_term.proofs.lemmas.TermGraphLaws.{cell_of-read}
use Rattle.cp_term.proofs.lemmas.FirstPairs.{Seen, Seen-other, Seen-variable, Begins-end, is_variable_cell, variable-below}
use Rattle.cp_term.proofs.classes.first_pairs.Goals as goal
use Rattle.cp_term.proofs.classes.first_pairs.Goals.{in-Some+in_ok-push-in-Some, in-None}

pub first_place-left-requires : goal.first_place-left-requires
first_place-left-requires c =
    let refs = c.args.cells.now in
    let len = length-map refs cell_at in
    let read = cell_of-read refs c.loop-at.at c.index-cells-at.result (omega arith) c.index-cells-at.is in
    let is = is_variable_cell (cell_of (cells_at refs) c.loop-at.at) c.in-Some.variable (ap variable_of read ∙ sym c.in-Some.ensures.value) in
    let below = variable-below (cells_at refs) c.loop-at.at c.in-Some.variable (omega arith) is in
    let seen = c.loop-at.invariant.len in
    let same = ap length c.as_mut_slice.ensures.value in
    omega arith

pub loop-at-preserved : goal.loop-at-preserved
loop-at-preserved c = elim c.match-variable.branch [
  | in-Some+in_ok-push-in-Some w ↦
      let refs = c.args.cells.now in
      let at = c.loop-at.at in
      let v = w.in-Some.variable in
      let firsts = c.loop-at.firsts.items in
      let len = length-map refs cell_at in
      let read = cell_of-read refs at c.index-cells-at.result (omega arith) c.index-cells-at.is in
      let is = is_variable_cell (cell_of (cells_at refs) at) v (ap variable_of read ∙ sym w.in-Some.ensures.value) in
      let first : w.first_place-left.result ≡ unwrap_or (get_or firsts v None) at =
      w.first_place-left.ensures.first ∙ ap (λ xs. unwrap_or (get_or xs v None) at) w.as_mut_slice.ensures.value in
      let changed : w.first_place-left.new.firsts ≡ set firsts v (Some (unwrap_or (get_or firsts v None) at)) =
      w.first_place-left.ensures.firsts ∙ (λ i. set (w.as_mut_slice.ensures.value i) v (Some (first i))) in
      let same_len = ap length changed in
      let set_len = length-set firsts v (Some (unwrap_or (get_or firsts v None) at)) in
      let vec = c.loop-at.firsts.ok.0 in
      let items = ap (λ x. x.items) w.firsts-is ∙ with_items_is c.loop-at.firsts w.first_place-left.new.firsts (omega arith) ∙ changed in
      let last : Pair = record { left = unwrap_or (get_or firsts v None) at; right = at } in
      let pairs = ap (λ x. x.items) w.pairs-is ∙ w.in_ok-push-in-Some.ensures.items ∙ (λ i. c.loop-at.pairs.items ++ record { left = first i; right = at } ∷ []) in
      subst₂ (Seen (cells_at refs) c.args.second (at + 1)) (sym items) (sym pairs)
      (Seen-variable (cells_at refs) c.args.second at firsts c.loop-at.pairs.items c.loop-at.invariant (omega arith) v is)
  | in-None w ↦
      let refs = c.args.cells.now in
      let at = c.loop-at.at in
      let len = length-map refs cell_at in
      let read = cell_of-read refs at c.index-cells-at.result (omega arith) c.index-cells-at.is in
      let none = ap variable_of read ∙ sym c.variable.ensures.value ∙ w.in-None.is in
      subst₂ (Seen (cells_at refs) c.args.second (at + 1)) (sym (ap (λ x. x.items) w.firsts-is)) (sym (ap (λ x. x.items) w.pairs-is))
      (Seen-other (cells_at refs) c.args.second at c.loop-at.firsts.items c.loop-at.pairs.items c.loop-at.invariant (omega arith) none)
]

pub returns : goal.returns
returns c =
    let refs = c.args.cells.now in
    let len = length-map refs cell_at in
    let end : c.loop-at.at ≡ length (cells_at refs) = let h = c.loop-at.auto.at-end in omega arith in
    Begins-end (cells_at refs) c.args.second c.loop-at.firsts.items c.loop-at.pairs.items
    (subst (λ k. Seen (cells_at refs) c.args.second k c.loop-at.firsts.items c.loop-at.pairs.items) end c.loop-at.invariant) c.requires
