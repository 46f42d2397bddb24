use Rattle.std.proofs.Common.{◌∙◌, ap, sym}
use Rattle.std.specs.Prelude.{if◌then◌else◌}
use Rattle.cp_declaration.specs.declared.indicator.Indicator.{Indicator}
use Rattle.cp_module.specs.Causes.{same}
use Rattle.cp_assemble.specs.Index.{places_in}
use Rattle.cp_assemble.proofs.KeyLaws.{same-is, written_again}
use Rattle.cp_assemble.proofs.places.Places.add.Goals as goal

pub returns : goal.returns
returns c = λ p.
    let pred = c.args.pred in
    let old = c.args.self.now in
    let all = c.push.new.self in
    c.in_ok-_none.ensures.rows p
    ∙ ap (λ x. if same p pred then all else x)
    (c.in_ok-places.ensures.rows p
    ∙ ap (λ n. if same p (let i : Indicator = record { name = n; arity = pred.arity } in i) then c.new.result else places_in old p) c.in_ok-copy.ensures.cases
    ∙ ap (λ none. if same p pred then none else places_in old p) c.new.ensures)
    ∙ written_again (same p pred) all c.in_ok-places.places (places_in old p) c.args.at
    (λ h. c.in_ok-places.ensures.old
    ∙ ap (λ n. places_in old (let i : Indicator = record { name = n; arity = pred.arity } in i)) c.in_ok-copy.ensures.cases
    ∙ ap (λ i. places_in old i) (sym (same-is p pred h)))
    c.in_ok-push.ensures.ok
