use Rattle.std.proofs.Common.{◌<◌, ◌+◌, ◌-◌, ◌∙◌, ap, take, drop, length, arith}
use Rattle.cp_module.specs.Paths.{last_part}
use Rattle.cp_module.proofs.PathLaws.{slash_more, other_more}
use Rattle.cp_module.proofs.paths.file_part.Goals as goal
use Rattle.cp_module.proofs.paths.file_part.Goals.{then-byte-eq47, else-byte-eq47}

pub loop-at-preserved : goal.loop-at-preserved
loop-at-preserved c =
    let path = c.args.path.now in
    let at = c.loop-at.at in
    let start = c.loop-at.start in
    let lt : at < length path = omega arith in
    elim c.if-byte-eq47.branch [
      | then-byte-eq47 w ↦ record {
        within = omega arith;
        part = slash_more path (take (at - start) (drop start path)) c.if-byte-eq47.start at lt w.if-byte-eq47.true w.start-is ∙ c.loop-at.invariant.part;
      }
      | else-byte-eq47 w ↦ record {
        within = omega arith;
        part = ap (λ s. last_part (take (at + 1 - s) (drop s path)) (drop (at + 1) path)) w.start-is ∙ other_more path start at c.loop-at.invariant.within lt w.if-byte-eq47.false ∙ c.loop-at.invariant.part;
      }
    ]
