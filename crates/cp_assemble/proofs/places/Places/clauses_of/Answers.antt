use Rattle.std.proofs.Common.{◌∙◌, ap, map, slice_get}
use Rattle.std.specs.List.{filter_map}
use Rattle.cp_declaration.specs.declared.indicator.Indicator.{Indicator}
use Rattle.cp_link.specs.Linked.{clause_in}
use Rattle.cp_assemble.specs.declared.places.Key.{Key}
use Rattle.cp_assemble.specs.Index.{places_in, places_or}
use Rattle.cp_assemble.specs.Rows.{named}
use Rattle.cp_assemble.proofs.KeyLaws.{looked_up}
use Rattle.cp_assemble.proofs.places.Places.clauses_of.Goals as goal

pub returns-in-Some : goal.returns-in-Some
returns-in-Some c =
    let pred = c.args.pred.now in
    let key : Key = record { name = c.in_ok-clone.field-0; arity = pred.arity } in
    c.in_ok-all-in-Some.ensures
    ∙ ap (λ ns. map (clause_in c.args.module_name.now) (filter_map (slice_get c.args.clauses.now) ns))
    (c.as_slice.ensures
    ∙ ap places_or c.in-Some.ensures.value
    ∙ looked_up key c.self.inside.rows.entries
    ∙ ap (λ rows. places_in rows (named key)) c.self.view_is
    ∙ ap (λ n. places_in c.args.self.now (let i : Indicator = record { name = n; arity = pred.arity } in i)) c.in_ok-clone.ensures.cases)

pub returns : goal.returns
returns c =
    let pred = c.args.pred.now in
    let key : Key = record { name = c.in_ok-clone.field-0; arity = pred.arity } in
    c.new.ensures
    ∙ ap (λ ns. map (clause_in c.args.module_name.now) (filter_map (slice_get c.args.clauses.now) ns))
    (ap places_or c.in-None.ensures.value
    ∙ looked_up key c.self.inside.rows.entries
    ∙ ap (λ rows. places_in rows (named key)) c.self.view_is
    ∙ ap (λ n. places_in c.args.self.now (let i : Indicator = record { name = n; arity = pred.arity } in i)) c.in_ok-clone.ensures.cases)
