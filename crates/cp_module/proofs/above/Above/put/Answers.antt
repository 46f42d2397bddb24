use Rattle.std.proofs.Common.{◌∙◌, ap, map}
use Rattle.std.specs.Prelude.{if◌then◌else◌}
use Rattle.cp_declaration.specs.declared.indicator.Indicator.{Indicator}
use Rattle.cp_module.specs.declared.above.Key.{Key}
use Rattle.cp_module.specs.Causes.{same}
use Rattle.cp_module.specs.Above.{known_in}
use Rattle.cp_module.specs.Rows.{row_of}
use Rattle.cp_module.proofs.KeyLaws.{inserted, named}
use Rattle.cp_module.proofs.above.Above.put.Goals as goal

pub returns : goal.returns
returns c = λ p.
    let key : Key = record { name = c.in_ok-clone.field-0; arity = c.args.arity } in
    let known = c.args.known in
    ap (λ es. known_in (map row_of es) p) c.in_ok-insert.ensures.entries
    ∙ inserted key known c.self.inside.rows.entries p
    ∙ ap (λ rows. if same p (named key) then known else known_in rows p) c.self.view_is
    ∙ ap (λ n. if same p (let q : Indicator = record { name = n; arity = c.args.arity } in q) then known else known_in c.args.self.now p) c.in_ok-clone.ensures.cases
