use Rattle.std.proofs.Common.{◌++◌, ◌∙◌, ap}
use Rattle.cp_module.specs.Paths.{imported_file}
use Rattle.cp_link.specs.Imports.{file_named}
use Rattle.cp_link.specs.Kept.{from_module}
use Rattle.cp_link.proofs.ModuleLaws.{from_same}
use Rattle.cp_link.proofs.imports.push_used.Goals as goal

pub returns : goal.returns
returns c =
    let imports = c.args.imports in
    c.in_ok-push_from.ensures
    ∙ ap (λ o. c.args.all.now ++ from_module imports o) c.in_ok-of.ensures
    ∙ ap (λ ps. c.args.all.now ++ ps) (from_same imports (file_named c.args.parts.now (imported_file c.args.file.now c.args.name.now)))
