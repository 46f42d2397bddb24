use Rattle.std.proofs.Common.{◌∙◌, ap, map}
use Rattle.std.specs.Prelude.{is_some}
use Rattle.cp_link.specs.Imports.{is_imported}
use Rattle.cp_link.specs.Keyed.{origin_in}
use Rattle.cp_link.specs.Imported.{row_of}
use Rattle.cp_link.proofs.OriginLaws.{looked_up, is_there}
use Rattle.cp_link.proofs.import_list.ImportList.has.Goals as goal

pub returns : goal.returns
returns c =
    let es = c.self.inside.origins.entries in
    let key = c.in_ok-key.key in
    c.is_some.ensures ∙ is_there _ c.get.result
    ∙ ap is_some (c.get.ensures.value ∙ looked_up key es ∙ ap (origin_in (map row_of es)) c.in_ok-key.ensures)
    ∙ c.self.invariant.found c.args.pred.now
    ∙ ap (λ ps. is_imported ps c.args.pred.now) c.self.view_is
