use Rattle.std.proofs.Common.{◌∙◌, ap}
use Rattle.cp_module.specs.Paths.{imported_file}
use Rattle.cp_link.specs.Imports.{file_named}
use Rattle.cp_link.specs.Kept.{lacks_of}
use Rattle.cp_link.proofs.ModuleLaws.{lacks_same}
use Rattle.cp_link.proofs.refusals.lacks_named.Goals as goal

pub returns : goal.returns
returns c =
    let imports = c.args.imports.now in
    c.in_ok-found.ensures ∙ ap (λ o. lacks_of o imports) c.in_ok-of.ensures
    ∙ lacks_same imports (file_named c.args.parts.now (imported_file c.args.file.now c.args.name.now))
