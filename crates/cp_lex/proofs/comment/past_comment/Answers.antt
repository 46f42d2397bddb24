use Rattle.std.proofs.Common.{◌≡◌, ◌∙◌, sym, ap, false, drop}
use Rattle.cp_char.specs.Characters.{begins}
use Rattle.cp_lex.proofs.lemmas.CommentLaws.{comment_step, whole}
use Rattle.cp_lex.proofs.comment.past_comment.Goals as goal

pub loop-at-preserved : goal.loop-at-preserved
loop-at-preserved c =
    let at = c.loop-at.at in
    let text = c.args.text.now in
    let other : begins "*/" (drop at text) ≡ false = ap (λ t. begins "*/" t) (sym (whole at text)) ∙ sym c.starts_with.ensures.value ∙ c.if-starts_with.false in
    comment_step at text c.loop-at-test.true other ∙ c.loop-at.invariant
