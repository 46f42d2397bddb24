use Rattle.std.proofs.Common.{◌≡◌, ◌+◌, map, drop, sym, ◌∙◌, ap}
use Rattle.std.specs.Prelude.{Some, if◌then◌else◌, slice_get}
use Rattle.std.specs.Option.{option_map}
use Rattle.std.proofs.lemmas.Option.{slice_get-map}
use Rattle.cp_code.specs.Properties.{row_named}
use Rattle.cp_code.specs.Programs.{type_of}
use Rattle.cp_props.proofs.Searching.{row_next}
use Rattle.cp_props.proofs.search.row_of.Goals as goal

pub types-preserved : goal.types-preserved
types-preserved c =
    let rows = map type_of c.args.types.now in
    let name = c.args.name.now in
    let i = c.types.at in
    let r = type_of c.in-Some.row.now in
    let here : slice_get rows i ≡ Some r = slice_get-map type_of c.args.types.now i ∙ ap (option_map type_of) (sym c.in-Some.ensures.value) in
    c.types.invariant ∙ row_next name rows i r here ∙ ap (λ b. if b then Some r else row_named name (drop (i + 1) rows)) (sym c.is_named.ensures ∙ c.if-is_named.false)

pub returns-then-is_named-clause-row : goal.returns-then-is_named-clause-row
returns-then-is_named-clause-row c =
    let rows = map type_of c.args.types.now in
    let name = c.args.name.now in
    let i = c.types.at in
    let r = type_of c.in-Some.row.now in
    let here : slice_get rows i ≡ Some r = slice_get-map type_of c.args.types.now i ∙ ap (option_map type_of) (sym c.in-Some.ensures.value) in
    here ∙ sym (c.types.invariant ∙ row_next name rows i r here ∙ ap (λ b. if b then Some r else row_named name (drop (i + 1) rows)) (sym c.is_named.ensures ∙ c.if-is_named.true))
