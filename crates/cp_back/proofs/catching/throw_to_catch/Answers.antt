use Rattle.std.proofs.Common.{◌+◌, suc, sym, ◌∙◌, ap, subst, reverse, get_or, []}
use Rattle.cp_term.specs.Numbering.{fresh, next_variable}
use Rattle.cp_term.specs.Unification.{unify}
use Rattle.cp_code.specs.Machine as machine
use Rattle.cp_code.specs.Tree.{is_among}
use Rattle.cp_run.specs.declared.run.Run.{Run}
use Rattle.cp_run.specs.Shown.{back, bound, goals_shown, here_of, frames_shown, shown}
use Rattle.cp_run.specs.Stands.{Stands}
use Rattle.cp_back.proofs.BelowLaws.{below-moment}
use Rattle.cp_back.proofs.BackLaws.{met-is, left-is}
use Rattle.cp_back.proofs.catching.throw_to_catch.Goals as goal

pub returns-then-may_catch-clause-moved : goal.returns-then-may_catch-clause-moved
returns-then-may_catch-clause-moved c code =
    c.in_ok-catch.ensures.moved code
    ∙ met-is code c.args.run.now c.take_back.new.run c.args.moment c.args.seer c.args.pattern c.args.recovery c.args.ball c.args.catchers c.args.rest c.args.level c.take_back.ensures (sym c.may_catch.ensures ∙ c.if-may_catch.true)

pub returns-clause-moved : goal.returns-clause-moved
returns-clause-moved c code =
    let run = c.args.run.now in
    let h = back c.args.moment (here_of run) in
    ap (shown code) c.go.ensures
    ∙ ap (machine.to (machine.Throws c.args.ball c.args.catchers) run.units run.copies) ((below-moment c.args.moment (reverse run.frames.items) (here_of run) c.requires.frames.0 c.requires.frames.4).1 code)
    ∙ left-is code (frames_shown code h (reverse run.frames.items)) (unify (bound h) (get_or h.terms c.args.pattern.at []) (fresh h.variables c.args.ball)) c.args.seer (get_or h.terms c.args.recovery.at []) c.args.ball c.args.catchers (goals_shown h c.args.rest) (h.variables + next_variable c.args.ball) c.args.level run.units run.copies (is_among (suc c.args.level) c.args.catchers) (sym c.may_catch.ensures ∙ c.if-may_catch.false)

pub returns-clause-stands : goal.returns-clause-stands
returns-clause-stands c =
    let run = c.args.run.now in
    let P : Run → Type 0 = λ r. Stands r in
    subst P (sym c.go.ensures)
    (record { holds = record { items = c.requires.items; frames = (below-moment c.args.moment (reverse run.frames.items) (here_of run) c.requires.frames.0 c.requires.frames.4).0 }; point = tt })
