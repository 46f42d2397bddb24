use Rattle.std.proofs.Common.{rules, arith, ◌≡◌, ◌∙◌, ◌++◌, ◌∷◌, [], sym, ap, subst}
use Rattle.std.specs.Prelude.{MatchResult, Ok}
use Rattle.std.specs.Int.{w64}
use Rattle.std.proofs.lemmas.Int.{to_z-of_z}
use Rattle.cp_goal.specs.Operations.{unary_value, binary_value}
use Rattle.cp_goal.specs.Evaluation.{or_faulty}
use Rattle.cp_arith.specs.declared.frame.Frame.TheVariants.{First, Second}
use Rattle.cp_arith.specs.declared.now.Now.TheVariants.{At, Behind}
use Rattle.cp_arith.specs.Frames.{filled, meaning, AreLive, Advances, StopsAt}
use Rattle.cp_arith.proofs.lemmas.Plugging.{behind, to_second}
use Rattle.cp_arith.proofs.leave.leave.Goals as goal

pub returns-in-Only : goal.returns-in-Only
returns-in-Only c = λ h live.
    let value_is : c.value.result ≡ unary_value c.in-Only.op c.args.value = c.value.ensures ∙ ap (unary_value c.in-Only.op) (to_z-of_z w64 c.args.value c.ranges.value) in
    subst (λ r. MatchResult r (λ next. Advances h (c.args.frames.now ++ c.args.frame ∷ []) (Behind c.args.value) c.args.frames.now next) (λ stop. StopsAt stop (meaning h (c.args.frames.now ++ c.args.frame ∷ []) (Behind c.args.value))))
    (sym c.behind.ensures)
    (behind h c.args.frames.now c.args.frame c.args.value c.value.result
    (ap (λ f. filled h f (Ok c.args.value)) c.in-Only.is ∙ ap or_faulty (sym value_is)) live)

pub returns-in_ok-push-in-First : goal.returns-in_ok-push-in-First
returns-in_ok-push-in-First c = λ h live.
    subst (λ f. Advances h (c.args.frames.now ++ f ∷ []) (Behind c.args.value) c.push.new.self (At c.in-First.second)) (sym c.in-First.is)
    (subst (λ fs. Advances h (c.args.frames.now ++ First c.in-First.op c.in-First.second ∷ []) (Behind c.args.value) fs (At c.in-First.second))
    (sym (c.in_ok-push-in-First.ensures.ok ∙ ap (λ z. c.args.frames.now ++ Second c.in-First.op z ∷ []) (to_z-of_z w64 c.args.value c.ranges.value)))
    (to_second h c.args.frames.now c.in-First.op c.in-First.second c.args.value (subst (λ f. AreLive h (c.args.frames.now ++ f ∷ [])) c.in-First.is live)))

pub returns-in-Second : goal.returns-in-Second
returns-in-Second c = λ h live.
    let value_is : c.value-in-Second.result ≡ binary_value c.in-Second.op c.in-Second.first c.args.value = grind (arith, rules, c.value-in-Second.ensures) in
    subst (λ r. MatchResult r (λ next. Advances h (c.args.frames.now ++ c.args.frame ∷ []) (Behind c.args.value) c.args.frames.now next) (λ stop. StopsAt stop (meaning h (c.args.frames.now ++ c.args.frame ∷ []) (Behind c.args.value))))
    (sym c.behind-in-Second.ensures)
    (behind h c.args.frames.now c.args.frame c.args.value c.value-in-Second.result
    (ap (λ f. filled h f (Ok c.args.value)) c.in-Second.is ∙ ap or_faulty (sym value_is)) live)
