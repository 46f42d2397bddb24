use Rattle.std.proofs.Common.{inl, inr, sym, ◌∙◌}
use Rattle.cp_top.specs.Ending.{shown}
use Rattle.cp_top.proofs.Telling.{told_failed, told_whole, cut_at}
use Rattle.cp_top.proofs.tell.tell.Goals as goal

pub returns-then-has_failed : goal.returns-then-has_failed
returns-then-has_failed g c first zero records =
    inr (told_failed g.S.Sink.held g.S.Sink.faults c.args.log c.args.outcome first c.args.out records zero (sym c.has_failed.ensures ∙ c.if-has_failed.true))

pub returns-in-Ok : goal.returns-in-Ok
returns-in-Ok g c first zero records =
    inr (told_whole g.S.Sink.held g.S.Sink.faults c.args.log c.args.outcome first c.args.out c.tell_line.result.out (shown c.in-Ok.end) c.tell_line.result.status c.tell_line.result.outcome
    records (sym c.has_failed.ensures ∙ c.if-has_failed.false) c.in-Ok.ensures c.tell_line.ensures.status c.tell_line.ensures.outcome c.tell_line.ensures.written)

pub returns-in-Err : goal.returns-in-Err
returns-in-Err g c first zero records =
    inl (cut_at g.S.Sink.held g.S.Sink.faults c.args.outcome first c.args.out c.short.result.out c.short.result.status c.short.result.outcome
    records zero c.short.ensures.status c.short.ensures.none c.short.ensures.out)
