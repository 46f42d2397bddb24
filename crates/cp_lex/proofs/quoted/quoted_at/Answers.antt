use Rattle.std.proofs.Common.{◌≡◌, ◌∷◌, [], ◌+◌, sym, ◌∙◌, ap, subst, arith, length}
use Rattle.cp_lex.specs.declared.quoted.Quoted.TheVariants.{Closed}
use Rattle.cp_lex.specs.Quoted.{quoted}
use Rattle.cp_lex.specs.Steps.{finished, IsQuotedWithin}
use Rattle.cp_lex.proofs.lemmas.QuotedLaws.{quoted-step, quoted-closed, quoted-within}
use Rattle.cp_lex.proofs.quoted.quoted_at.Goals as goal

pub returns-then-closes-clause-within : goal.returns-then-closes-clause-within
returns-then-closes-clause-within c =
    let l = c.loop-first in
    let here : quoted c.args.mark l.rest.now ≡ Closed [] 1 =
    ap (λ t. quoted c.args.mark t) c.in-Some.ensures.cases.0
    ∙ quoted-closed c.args.mark c.in-Some.first.now c.in-Some.behind.now c.part_at-part.result c.part_at-part.ensures.value (sym c.closes.ensures ∙ c.if-closes.true) in
    let value : c.closed.result ≡ quoted c.args.mark c.args.text.now = c.closed.ensures ∙ ap (λ q. finished l.bytes l.bad l.at q) (sym here) ∙ l.invariant.so_far in
    subst (λ q. IsQuotedWithin q (length c.args.text.now)) (sym value) (quoted-within c.args.mark 0 c.args.text.now)

pub loop-first-preserved : goal.loop-first-preserved
loop-first-preserved c =
    let l = c.loop-first in
    let p = c.part_at-part.result in
    let split = c.in-Some.ensures.cases.0 in
    let step = quoted-step c.args.mark c.in-Some.first.now c.in-Some.behind.now l.bytes l.bad l.at p c.part_at-part.ensures.value (sym c.closes.ensures ∙ c.if-closes.false) c.part_at-part.ensures.within in
    let all : finished l.bytes l.bad l.at (quoted c.args.mark (c.in-Some.first.now ∷ c.in-Some.behind.now)) ≡ quoted c.args.mark c.args.text.now =
    ap (λ t. finished l.bytes l.bad l.at (quoted c.args.mark t)) (sym split) ∙ l.invariant.so_far in
    record {
      places = omega (arith, ap length split, c.split_at.ensures.back_len);
      so_far = (λ i. finished (c.in_ok-spell.ensures i) (c.first_bad-bad.ensures i) (l.at + (1 + p.more)) (quoted c.args.mark (c.split_at.ensures.back i))) ∙ (sym step ∙ all);
    }
