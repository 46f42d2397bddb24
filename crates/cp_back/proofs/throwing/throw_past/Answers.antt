use Rattle.std.proofs.Common.{sym, ◌∙◌, ap, subst, reverse}
use Rattle.cp_run.specs.declared.run.Run.{Run}
use Rattle.cp_run.specs.Shown.{here_of, shown}
use Rattle.cp_run.specs.Stands.{Stands}
use Rattle.cp_back.proofs.BelowLaws.{passed}
use Rattle.cp_back.proofs.throwing.throw_past.Goals as goal

pub returns-clause-moved : goal.returns-clause-moved
returns-clause-moved c code =
    let run = c.args.run.now in
    ap (shown code) c.go.ensures
    ∙ (passed c.args.frame (reverse run.frames.items) (here_of run) c.requires.passed c.requires.holds.frames).1 code c.args.ball c.args.catchers run.units run.copies

pub returns-clause-stands : goal.returns-clause-stands
returns-clause-stands c =
    let run = c.args.run.now in
    let P : Run → Type 0 = λ r. Stands r in
    subst P (sym c.go.ensures)
    (record { holds = record { items = c.requires.holds.items; frames = (passed c.args.frame (reverse run.frames.items) (here_of run) c.requires.passed c.requires.holds.frames).0 }; point = tt })
