use Rattle.std.proofs.Common.{◌∙◌, ap, map}
use Rattle.std.specs.List.{list_any}
use Rattle.cp_link.specs.Refusals.{clashes_with}
use Rattle.cp_link.specs.Keyed.{origin_in, differs}
use Rattle.cp_link.specs.Imported.{row_of}
use Rattle.cp_link.proofs.OriginLaws.{looked_up}
use Rattle.cp_link.proofs.import_list.ImportList.clashes.Goals as goal

pub returns : goal.returns
returns c =
    let es = c.self.inside.origins.entries in
    let import = c.args.import.now in
    c.differs.ensures
    ∙ ap (λ o. differs o import.module) (c.get.ensures.value ∙ looked_up c.in_ok-key.key es ∙ ap (origin_in (map row_of es)) c.in_ok-key.ensures)
    ∙ c.self.invariant.others import
    ∙ ap (list_any (clashes_with import)) c.self.view_is
