use Rattle.std.proofs.Common.{◌∷◌, ◌∙◌, [], get_or, sym, ap, w64}
use Rattle.std.proofs.lemmas.Int.{to_z-of_z}
use Rattle.cp_code.specs.Requests.{Facts}
use Rattle.cp_code.specs.Tree.{AskFrom}
use Rattle.cp_code.specs.Machine.{reply_told}
use Rattle.cp_run.specs.declared.run.Run.{Run}
use Rattle.cp_run.specs.Shown.{asking_shown, here_of, goals_shown, moved}
use Rattle.cp_told.proofs.FollowLaws.{put-moved}
use Rattle.cp_told.proofs.replies.tell_facts.Goals as goal

pub returns-clause-moved : goal.returns-clause-moved
returns-clause-moved c code from =
    let old = c.args.run.now in
    let new = c.put.new.self in
    let put = c.in_ok-again.ensures.put in
    let a = asking_shown old.heap.terms c.args.asking in
    c.in_ok-find.ensures.moved code a c.args.place from (put.goals ∙ ap (λ z. AskFrom a z ∷ goals_shown (here_of old) c.args.rest) (to_z-of_z w64 c.args.place c.ranges.place) ∙ ap (λ gs. AskFrom a c.args.place ∷ gs) (sym ((put.older c.args.rest c.requires.rest).1)))
    ∙ put-moved code old new _ c.args.rest c.in_ok-again.again c.args.level (reply_told (Facts c.args.place (get_or new.heap.terms c.args.pattern.at []) c.args.fact) a from) put c.requires.rest
    ∙ ap (λ (r : Run). moved code old c.args.rest c.args.level (reply_told (Facts c.args.place (get_or r.heap.terms c.args.pattern.at []) c.args.fact) a from)) put.state
