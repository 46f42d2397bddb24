use Rattle.std.proofs.Common.{◌∙◌, ap, map}
use Rattle.std.specs.Prelude.{if◌then◌else◌}
use Rattle.cp_module.specs.Causes.{same}
use Rattle.cp_assemble.specs.Index.{places_in, places_or}
use Rattle.cp_assemble.specs.Rows.{named, row_of}
use Rattle.cp_assemble.proofs.KeyLaws.{inserted, looked_up}
use Rattle.cp_assemble.proofs.places.Places.replace.Goals as goal

pub returns-clause-rows : goal.returns-clause-rows
returns-clause-rows c = λ p.
    let key = c.args.key in
    let places = c.args.places in
    ap (λ es. places_in (map row_of es) p) c.in_ok-old.ensures.entries
    ∙ inserted key places c.self.inside.rows.entries p
    ∙ ap (λ rows. if same p (named key) then places else places_in rows p) c.self.view_is

pub returns-clause-old : goal.returns-clause-old
returns-clause-old c =
    let key = c.args.key in
    c.places_or.ensures
    ∙ ap places_or c.in_ok-old.ensures.old
    ∙ looked_up key c.self.inside.rows.entries
    ∙ ap (λ rows. places_in rows (named key)) c.self.view_is
