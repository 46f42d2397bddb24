use Rattle.std.proofs.lemmas.Result.{err_from_is_err_and}
use Rattle.cp_load.proofs.Making.{loads, loads_end}
use Rattle.cp_load.proofs.loading.load.Goals as goal

pub returns-in_err-parts-clause-loads : goal.returns-in_err-parts-clause-loads
returns-in_err-parts-clause-loads g c =
    let p = err_from_is_err_and c.from_residual.result c.from_residual.ensures.1 in
    loads_end (g.F.Files.tree c.args.files.now) c.args.name.now c.args.need.main c.from_residual.result c.in_err-parts.field-0.0 p.0 c.in_err-parts.ensures.loads p.1 p.2

pub returns-clause-loads : goal.returns-clause-loads
returns-clause-loads g c =
    loads (g.F.Files.tree c.args.files.now) c.args.name.now c.args.need.main c.in_ok-parts.parts c.program_of.result c.in_ok-parts.ensures.loads c.program_of.ensures
