-- What follows a reply, as the definition of requests has it.
use Rattle.std.specs.Prelude.{List, codes}
use Rattle.cp_term.specs.declared.cell.Cell.{Cell}
use Rattle.cp_term.specs.declared.pred_name.PredName.{PredName}
use Rattle.cp_goal.specs.Errors.{word, resource_error}
use Rattle.cp_heap.specs.State.{State, instance_at}
use Rattle.cp_code.specs.Requests as requests
use Rattle.cp_code.specs.Requests.{Refused, existence_error, system_error, full_name, full_kind}
use Rattle.cp_request.specs.declared.follows.Follows.{Follows}
use Rattle.cp_request.specs.declared.follows.Follows.TheVariants as follows
use Rattle.cp_request.specs.declared.remote.RemoteError.{RemoteError}
use Rattle.cp_request.specs.declared.remote.RemoteError.TheVariants as remote_error
use Rattle.cp_request.specs.declared.remote.RemoteFollows.{RemoteFollows}
use Rattle.cp_request.specs.declared.remote.RemoteFollows.TheVariants as remote_follows
use Rattle.cp_request.specs.declared.remote.RemoteAnswer.{RemoteAnswer}

-- the terms of the goal are instances; what was looked for once is the copy that was handed out
abbrev pub follows_shown : State → (copy : List Cell) → Follows → requests.Follows
follows_shown h copy follows.Again = requests.Again
follows_shown h copy (follows.Facts place pattern fact) = requests.Facts place (instance_at h pattern.at) fact
follows_shown h copy (follows.Fact fact) = requests.Fact copy fact
follows_shown h copy (follows.Number number place) = requests.Number (instance_at h number.at) place
follows_shown h copy follows.Rest = requests.Rest
follows_shown h copy follows.Nothing = requests.Nothing
follows_shown h copy (follows.Raises by) = requests.Raises (full_kind by)

-- the kind of an error of a remote call of a predicate
abbrev pub remote_kind : PredName → RemoteError → Refused
remote_kind p remote_error.Limit = resource_error (codes "remote_answers")
remote_kind p remote_error.Steps = resource_error (codes "remote_steps")
remote_kind p remote_error.Suspended = resource_error (codes "remote_suspended")
remote_kind p remote_error.NoProcedure = existence_error (codes "procedure") (full_name p)
remote_kind p remote_error.Link = system_error (codes "link")
remote_kind p remote_error.PeerEnded = system_error (codes "peer_ended")
remote_kind p remote_error.BadReply = system_error (codes "bad_reply")
remote_kind p remote_error.NoActiveModule = existence_error (codes "active_module") (word p.module)

abbrev pub remote_shown : PredName → RemoteFollows → requests.RemoteFollows
remote_shown p remote_follows.Fails = requests.Fails
remote_shown p (remote_follows.Throws ball) = requests.Throws ball
remote_shown p (remote_follows.Breaks e) = requests.Breaks (remote_kind p e)

abbrev pub answer_shown : PredName → RemoteAnswer → requests.Answers
answer_shown p a = record { answers = a.answers; behind = remote_shown p a.behind }
