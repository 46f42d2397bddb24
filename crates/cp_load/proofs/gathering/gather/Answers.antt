use Rattle.std.proofs.Common.{refl, sym, subst, Option, arith}
use Rattle.std.proofs.lemmas.Result.{err_from_is_err_and}
use Rattle.cp_io.specs.Content.{Tree}
use Rattle.cp_load.specs.Reached.{Gathers, IsReached}
use Rattle.cp_load.proofs.Reaching.{gathers_nothing, gathers_not, gathers_all, first_reached}
use Rattle.cp_load.proofs.gathering.gather.Goals as goal

pub returns-in_err-bytes_of-clause-loads : goal.returns-in_err-bytes_of-clause-loads
returns-in_err-bytes_of-clause-loads g c =
    let p = err_from_is_err_and c.from_residual.result c.from_residual.ensures.1 in
    gathers_nothing (g.F.Files.tree c.args.files.now) c.args.name.now c.from_residual.result p.0 p.1 p.2

pub returns-in_err-push-clause-loads : goal.returns-in_err-push-clause-loads
returns-in_err-push-clause-loads g c =
    let p = err_from_is_err_and c.from_residual-in_err-push.result c.from_residual-in_err-push.ensures.1 in
    gathers_nothing (g.F.Files.tree c.args.files.now) c.args.name.now c.from_residual-in_err-push.result p.0 p.1 p.2

pub files-init : goal.files-init
files-init g c = (
  first_reached (g.F.Files.tree c.args.files.now) c.args.name.now c.in_ok-bytes_of.field-0 c.new-known.result c.push.new.self c.new-parts.result c.in_ok-bytes_of.ensures c.new-known.ensures c.in_ok-push.ensures.ok c.new-parts.ensures,
  refl,
  refl,
  refl,
)

pub returns-in_err-gather_next-clause-loads : goal.returns-in_err-gather_next-clause-loads
returns-in_err-gather_next-clause-loads g c =
    let p = err_from_is_err_and c.from_residual-in_err-gather_next.result c.from_residual-in_err-gather_next.ensures.1 in
    let name = c.args.name.now in
    let Reach : Option Tree → Type 0 = λ t. IsReached t name c.files.known c.files.parts in
    let All : Option Tree → Type 0 = λ t. Gathers t name c.from_residual-in_err-gather_next.result in
    let here : IsReached (g.F.Files.tree c.files.files) name c.files.known c.files.parts = subst Reach (sym c.files.invariant.1) c.files.invariant.0 in
    subst All c.files.invariant.1
    (gathers_not (g.F.Files.tree c.files.files) name c.gather_next.new.known c.gather_next.new.parts c.from_residual-in_err-gather_next.result c.in_err-gather_next.field-0.0 p.0 (c.in_err-gather_next.ensures.loads name here) p.1 p.2)

pub returns-clause-loads : goal.returns-clause-loads
returns-clause-loads g c = gathers_all (g.F.Files.tree c.args.files.now) c.args.name.now c.files.known c.files.parts c.files.invariant.0 (omega arith)
