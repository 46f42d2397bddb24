use Rattle.cp_call.proofs.Growing.{Legal-push, state_after-push}
use Rattle.cp_call.proofs.laws.legal_histories_grow.Goals as goal

pub returns-clause-legal : goal.returns-clause-legal
returns-clause-legal c = Legal-push

pub returns-clause-state : goal.returns-clause-state
returns-clause-state c = state_after-push
