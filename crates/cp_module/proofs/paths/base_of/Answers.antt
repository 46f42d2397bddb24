use Rattle.std.proofs.Common.{sym, ◌∙◌}
use Rattle.cp_module.proofs.PathLaws.{base_then, base_else}
use Rattle.cp_module.proofs.paths.base_of.Goals as goal

pub returns-then-has_ending : goal.returns-then-has_ending
returns-then-has_ending c =
    base_then c.args.path.now c.file_part-file.result.now _ c.file_part-file.ensures.value (sym c.has_ending.ensures ∙ c.if-has_ending.true) c.saturating_sub.ensures

pub returns-else-has_ending : goal.returns-else-has_ending
returns-else-has_ending c =
    base_else c.args.path.now c.file_part-file.result.now c.file_part-file.ensures.value (sym c.has_ending.ensures ∙ c.if-has_ending.false)
