use Rattle.std.proofs.Common.{rules, ◌∙◌, sym, ap, w64}
use Rattle.std.proofs.lemmas.Int.{to_z-of_z}
use Rattle.cp_code.specs.Machine.{reply_told}
use Rattle.cp_request.specs.declared.follows.Follows.TheVariants as follows
use Rattle.cp_run.specs.Shown.{asking_shown, moved}
use Rattle.cp_told.specs.Rows.{follows_shown}
use Rattle.cp_told.proofs.replies.tell_follows.Goals as goal

pub returns-in_ok-tell_facts-in-Facts-clause-moved : goal.returns-in_ok-tell_facts-in-Facts-clause-moved
returns-in_ok-tell_facts-in-Facts-clause-moved c code =
    let r = c.args.run.now in
    let a = asking_shown r.heap.terms c.args.asking in
    c.in_ok-tell_facts-in-Facts.ensures.moved code c.args.from
    ∙ ap (λ z. moved code r c.args.rest c.args.level (reply_told (follows_shown r.heap.terms c.args.asking.copy (follows.Facts z c.in-Facts.pattern c.in-Facts.fact)) a c.args.from)) (to_z-of_z w64 c.in-Facts.place (search rules))
    ∙ ap (λ f. moved code r c.args.rest c.args.level (reply_told (follows_shown r.heap.terms c.args.asking.copy f) a c.args.from)) (sym c.in-Facts.is)

pub returns-in_ok-raise_full-in-Raises-clause-moved : goal.returns-in_ok-raise_full-in-Raises-clause-moved
returns-in_ok-raise_full-in-Raises-clause-moved c code =
    let r = c.args.run.now in
    c.in_ok-raise_full-in-Raises.ensures.moved code c.args.level
    ∙ ap (λ f. moved code r c.args.rest c.args.level (reply_told (follows_shown r.heap.terms c.args.asking.copy f) (asking_shown r.heap.terms c.args.asking) c.args.from)) (sym c.in-Raises.is)
