use Rattle.std.proofs.Common.{◌∙◌, ap, sym, slice_get}
use Rattle.std.specs.Str.{bytes_eq}
use Rattle.cp_module.specs.Parts.{Part}
use Rattle.cp_link.proofs.ModuleLaws.{module_there, module_missing}
use Rattle.cp_link.proofs.imports.module_of_file.Goals as goal

pub returns-in-Some : goal.returns-in-Some
returns-in-Some c =
    c.module_at.ensures ∙ ap (λ ms. slice_get ms c.in-Some.at) c.requires
    ∙ module_there (λ (p : Part). bytes_eq p.file c.args.file.now) c.args.parts.now c.in-Some.at (sym c.in-Some.is ∙ c.place_of_file.ensures)

pub returns-in-None : goal.returns-in-None
returns-in-None c = module_missing (λ (p : Part). bytes_eq p.file c.args.file.now) c.args.parts.now (sym c.in-None.is ∙ c.place_of_file.ensures)
