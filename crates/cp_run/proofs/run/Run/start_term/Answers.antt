use Rattle.std.proofs.Common.{◌∙◌, ap}
use Rattle.cp_code.specs.Programs.{or_fail}
use Rattle.cp_code.specs.Machine.{goal_move}
use Rattle.cp_control.specs.Control.{body_read}
use Rattle.cp_run.specs.declared.run.Run.{Run}
use Rattle.cp_run.specs.Shown.{moved}
use Rattle.cp_run.proofs.StartLaws.{read-alone, charged-moved}
use Rattle.cp_run.proofs.run.Run.start_term.Goals as goal

pub returns-then-ran : goal.returns-then-ran
returns-then-ran c =
    let paid = c.charge.ensures.charged c.if-not-charge.false in (
      λ code.
          c.in_ok-ran.ensures.moved c.if-ran.true code
          ∙ ap (λ (r : Run). moved code c.charge.new.self c.args.rest c.args.level (goal_move code (or_fail (body_read r.heap.terms c.in_ok-seen.seen.at.at c.in_ok-seen.seen.control c.in_ok-seen.seen.seer)) c.args.own)) paid.1
          ∙ charged-moved code c.args.self.now c.charge.new.self _ _ c.args.own c.args.rest c.args.level
          (read-alone c.args.self.now.heap.terms c.in_ok-seen.seen.at.at c.in_ok-seen.seen.seer c.in_ok-seen.seen.control c.in_ok-seen.ensures.inner c.in_default.not-Both)
          (ap or_fail c.in_ok-seen.ensures.body) paid.0 paid.1,
      c.in_ok-ran.ensures.stands c.if-ran.true,
    )
