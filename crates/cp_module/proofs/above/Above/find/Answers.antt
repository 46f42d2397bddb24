use Rattle.std.proofs.Common.{◌∙◌, ap}
use Rattle.cp_declaration.specs.declared.indicator.Indicator.{Indicator}
use Rattle.cp_module.specs.declared.above.Key.{Key}
use Rattle.cp_module.specs.Above.{known_in, known_or}
use Rattle.cp_module.proofs.KeyLaws.{looked_up, named}
use Rattle.cp_module.proofs.above.Above.find.Goals as goal

pub returns : goal.returns
returns c =
    let key : Key = record { name = c.in_ok-clone.field-0; arity = c.args.arity } in
    c.known_or.ensures
    ∙ ap known_or (c.copied.ensures ∙ c.get.ensures.value)
    ∙ looked_up key c.self.inside.rows.entries
    ∙ ap (λ rows. known_in rows (named key)) c.self.view_is
    ∙ ap (λ n. known_in c.args.self.now (let p : Indicator = record { name = n; arity = c.args.arity } in p)) c.in_ok-clone.ensures.cases
