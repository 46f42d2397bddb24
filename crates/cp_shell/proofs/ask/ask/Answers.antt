use Rattle.std.proofs.Common.{inl, inr, [], ◌++◌, sym, ◌∙◌, ap}
use Rattle.cp_call.proofs.Adding.{HasAdded-none}
use Rattle.cp_shell.specs.Asked.{event_of}
use Rattle.cp_shell.proofs.Asking.{added_by_copy, asked_once, nothing}
use Rattle.cp_shell.proofs.ask.ask.Goals as goal

pub returns-in_err-recorded-clause-added : goal.returns-in_err-recorded-clause-added
returns-in_err-recorded-clause-added g c wrote = ([], c.reserve.ensures.items ∙ nothing _, HasAdded-none _ _ wrote _)

pub returns-clause-added : goal.returns-clause-added
returns-clause-added g c wrote = (
  event_of c.args.object c.in_ok-recorded.recorded c.ask-asked.result,
  c.record.ensures.items ∙ ap (λ x. x ++ event_of c.args.object c.in_ok-recorded.recorded c.ask-asked.result) c.reserve.ensures.items,
  added_by_copy _ _ _ wrote _ _ _ _ _ c.in_ok-recorded.ensures.cases c.requires.object
      (λ q. c.ask-asked.ensures.seen _ q) c.ask-asked.ensures.mine (λ q d. c.ask-asked.ensures.others _ q (inr (λ e. d (sym e)))) c.ask-asked.ensures.full,
)

pub returns-in_err-recorded-clause-event : goal.returns-in_err-recorded-clause-event
returns-in_err-recorded-clause-event g c = inl c.reserve.ensures.items

pub returns-clause-event : goal.returns-clause-event
returns-clause-event g c = asked_once _ _ _ _ c.in_ok-recorded.recorded c.ask-asked.result c.in_ok-recorded.ensures.cases
    (c.record.ensures.items ∙ ap (λ x. x ++ event_of c.args.object c.in_ok-recorded.recorded c.ask-asked.result) c.reserve.ensures.items)
