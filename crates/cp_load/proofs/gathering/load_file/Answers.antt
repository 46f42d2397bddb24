use Rattle.std.proofs.lemmas.Result.{err_from_is_err_and}
use Rattle.cp_load.proofs.Taking.{some_content, takes_nothing, takes_bytes, no_fault, no_miss}
use Rattle.cp_load.proofs.Making.{cause_at}
use Rattle.cp_load.proofs.gathering.load_file.Goals as goal

pub returns-in_err-name-clause-loads : goal.returns-in_err-name-clause-loads
returns-in_err-name-clause-loads g c =
    let p = err_from_is_err_and c.from_residual.result c.from_residual.ensures.1 in
    takes_nothing (g.F.Files.tree c.args.files.now) c.args.file.now c.from_residual.result p.0 p.1 p.2

pub returns-in_err-text-clause-loads : goal.returns-in_err-text-clause-loads
returns-in_err-text-clause-loads g c =
    let p = err_from_is_err_and c.from_residual-in_err-text.result c.from_residual-in_err-text.ensures.1 in
    takes_nothing (g.F.Files.tree c.args.files.now) c.args.file.now c.from_residual-in_err-text.result p.0 p.1 p.2

pub returns-in-Bytes-clause-loads : goal.returns-in-Bytes-clause-loads
returns-in-Bytes-clause-loads g c =
    takes_bytes (g.F.Files.tree c.args.files.now) c.args.file.now c.in_ok-name.name c.in-Bytes.text c.as_slice.result.now c.in_ok-text.field-0 c.part_of.result c.in_ok-text.ensures.content c.in-Bytes.is
    c.in_ok-name.ensures c.as_slice.ensures c.part_of.ensures.loads

pub returns-in-Bytes-clause-cause : goal.returns-in-Bytes-clause-cause
returns-in-Bytes-clause-cause g c =
    cause_at _ (g.F.Files.faults c.args.files.now) (g.F.Files.faults c.fetch.new.self) (g.F.Files.misses c.args.files.now) (g.F.Files.misses c.fetch.new.self) c.part_of.result c.part_of.ensures.cause
    (c.in_ok-text.ensures.no_fault (no_fault c.in_ok-text.field-0 c.in-Bytes.text c.in-Bytes.is _)) (c.in_ok-text.ensures.not_missing (no_miss c.in_ok-text.field-0 c.in-Bytes.text c.in-Bytes.is _))

pub returns-in-Fault-clause-loads : goal.returns-in-Fault-clause-loads
returns-in-Fault-clause-loads g c = let k = some_content (g.F.Files.tree c.args.files.now) c.args.file.now in (k.0, k.1, c.in_ok-name.ensures)
