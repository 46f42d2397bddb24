use Rattle.std.proofs.Common.{◌∙◌, ap}
use Rattle.cp_code.specs.Requests as requests
use Rattle.cp_told.proofs.FollowLaws.{unbound, follows-unbound, manner-unbound, follows-there}
use Rattle.cp_told.proofs.replies.follows_of.Goals as goal

pub returns-clause-follows : goal.returns-clause-follows
returns-clause-follows c terms copy =
    follows-unbound terms copy c.of.result
    ∙ c.of.ensures (unbound terms) copy
    ∙ ap (λ m. requests.follows m c.args.reply) (manner-unbound terms copy c.args.manner)

pub returns-clause-there : goal.returns-clause-there
returns-clause-there c terms has =
    follows-there terms c.args.manner c.args.reply c.of.result
    (λ ts copy.
    follows-unbound ts copy c.of.result
    ∙ c.of.ensures (unbound ts) copy
    ∙ ap (λ m. requests.follows m c.args.reply) (manner-unbound ts copy c.args.manner))
    has
