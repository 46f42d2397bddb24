use Rattle.std.proofs.Common.{sym, ◌∙◌, ap, subst, reverse}
use Rattle.cp_code.specs.Machine as machine
use Rattle.cp_run.specs.declared.run.Run.{Run}
use Rattle.cp_run.specs.Shown.{here_of, shown, frames_of}
use Rattle.cp_run.specs.Stands.{Stands}
use Rattle.cp_back.proofs.BelowLaws.{below-moment}
use Rattle.cp_back.proofs.throwing.throw_past_findall.Goals as goal

pub returns-clause-moved : goal.returns-clause-moved
returns-clause-moved c code =
    let run = c.args.run.now in
    ap (shown code) c.go.ensures
    ∙ ap (λ cs. machine.to (machine.Throws c.args.ball c.args.catchers) run.units cs (frames_of code run)) c.replace.ensures.after
    ∙ ap (machine.to (machine.Throws c.args.ball c.args.catchers) run.units c.args.outer) ((below-moment c.args.moment (reverse run.frames.items) (here_of run) c.requires.frames.0 c.requires.frames.3).1 code)

pub returns-clause-stands : goal.returns-clause-stands
returns-clause-stands c =
    let run = c.args.run.now in
    let P : Run → Type 0 = λ r. Stands r in
    subst P (sym c.go.ensures)
    (record { holds = record { items = c.requires.items; frames = (below-moment c.args.moment (reverse run.frames.items) (here_of run) c.requires.frames.0 c.requires.frames.3).0 }; point = tt })
