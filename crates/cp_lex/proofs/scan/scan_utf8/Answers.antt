use Rattle.std.proofs.Common.{◌≡◌, ℕ, ◌+◌, ◌<◌, List, sym, ◌∙◌, ap, length, arith}
use Rattle.std.proofs.lemmas.Bool.{eqb-false}
use Rattle.cp_lex.specs.Lexical.{piece}
use Rattle.cp_lex.specs.Tokens.{newlines, scan_from, utf8_scan, Place}
use Rattle.cp_lex.specs.declared.before.Before.TheVariants.{NoWord}
use Rattle.cp_lex.specs.declared.piece.Piece.TheVariants.{Blank, Token, Refused}
use Rattle.cp_lex.proofs.lemmas.ScanLaws.{onto, place, inside_is, blank_step, token_step}
use Rattle.cp_lex.proofs.scan.scan_utf8.Goals as goal

pub split_at-requires : goal.split_at-requires
split_at-requires c =
    let l = c.loop-rest in
    let n : ℕ = c.in-Blank.len in
    let rest : List ℕ = l.rest.now in
    let p : Place = place l.at l.line in
    let some : 0 < length rest = omega (arith, eqb-false (length rest) 0 (sym c.is_empty.ensures ∙ c.loop-rest-test.true)) in
    let here : Blank n ≡ piece l.before rest = sym c.in-Blank.is ∙ c.in_ok-len.ensures in
    let inside = inside_is l.before rest p some (utf8_scan c.args.text.now) l.tokens l.invariant.so_far (Blank n) here in
    inside.1

pub split_at-requires-in-Token : goal.split_at-requires-in-Token
split_at-requires-in-Token c =
    let l = c.loop-rest in
    let n : ℕ = c.in-Token.len in
    let rest : List ℕ = l.rest.now in
    let p : Place = place l.at l.line in
    let some : 0 < length rest = omega (arith, eqb-false (length rest) 0 (sym c.is_empty.ensures ∙ c.loop-rest-test.true)) in
    let here : Token c.in-Token.kind n ≡ piece l.before rest = sym c.in-Token.is ∙ c.in_ok-len.ensures in
    let inside = inside_is l.before rest p some (utf8_scan c.args.text.now) l.tokens l.invariant.so_far (Token c.in-Token.kind n) here in
    inside.1

pub split_at-requires-in-Refused : goal.split_at-requires-in-Refused
split_at-requires-in-Refused c =
    let l = c.loop-rest in
    let n : ℕ = c.in-Refused.len in
    let rest : List ℕ = l.rest.now in
    let p : Place = place l.at l.line in
    let some : 0 < length rest = omega (arith, eqb-false (length rest) 0 (sym c.is_empty.ensures ∙ c.loop-rest-test.true)) in
    let here : Refused c.in-Refused.why n ≡ piece l.before rest = sym c.in-Refused.is ∙ c.in_ok-len.ensures in
    let inside = inside_is l.before rest p some (utf8_scan c.args.text.now) l.tokens l.invariant.so_far (Refused c.in-Refused.why n) here in
    inside

pub loop-rest-smaller-in-Blank : goal.loop-rest-smaller-in-Blank
loop-rest-smaller-in-Blank c =
    let l = c.loop-rest in
    let n : ℕ = c.in-Blank.len in
    let rest : List ℕ = l.rest.now in
    let p : Place = place l.at l.line in
    let some : 0 < length rest = omega (arith, eqb-false (length rest) 0 (sym c.is_empty.ensures ∙ c.loop-rest-test.true)) in
    let here : Blank n ≡ piece l.before rest = sym c.in-Blank.is ∙ c.in_ok-len.ensures in
    let inside = inside_is l.before rest p some (utf8_scan c.args.text.now) l.tokens l.invariant.so_far (Blank n) here in
    omega (arith, inside.0, c.split_at.ensures.back_len)

pub loop-rest-smaller : goal.loop-rest-smaller
loop-rest-smaller c =
    let l = c.loop-rest in
    let n : ℕ = c.in-Token.len in
    let rest : List ℕ = l.rest.now in
    let p : Place = place l.at l.line in
    let some : 0 < length rest = omega (arith, eqb-false (length rest) 0 (sym c.is_empty.ensures ∙ c.loop-rest-test.true)) in
    let here : Token c.in-Token.kind n ≡ piece l.before rest = sym c.in-Token.is ∙ c.in_ok-len.ensures in
    let inside = inside_is l.before rest p some (utf8_scan c.args.text.now) l.tokens l.invariant.so_far (Token c.in-Token.kind n) here in
    omega (arith, inside.0, c.split_at-in-Token.ensures.back_len)

pub loop-rest-preserved-in-Blank : goal.loop-rest-preserved-in-Blank
loop-rest-preserved-in-Blank c =
    let l = c.loop-rest in
    let n : ℕ = c.in-Blank.len in
    let rest : List ℕ = l.rest.now in
    let p : Place = place l.at l.line in
    let some : 0 < length rest = omega (arith, eqb-false (length rest) 0 (sym c.is_empty.ensures ∙ c.loop-rest-test.true)) in
    let here : Blank n ≡ piece l.before rest = sym c.in-Blank.is ∙ c.in_ok-len.ensures in
    let inside = inside_is l.before rest p some (utf8_scan c.args.text.now) l.tokens l.invariant.so_far (Blank n) here in
    let front = c.split_at.ensures.front_len in
    let lines = c.newlines-line.ensures.value ∙ ap newlines c.split_at.ensures.front in
    record {
      places = omega (arith, c.split_at.ensures.back_len, l.invariant.places);
      lines = omega (arith, front, c.newlines-line.ensures.within, l.invariant.lines);
      so_far = (λ i. onto l.tokens (scan_from NoWord 0 (place (l.at + n) (l.line + lines i)) (c.split_at.ensures.back i)))
          ∙ blank_step l.before rest p some (utf8_scan c.args.text.now) l.tokens l.invariant.so_far n here;
    }

pub loop-rest-preserved : goal.loop-rest-preserved
loop-rest-preserved c =
    let l = c.loop-rest in
    let n : ℕ = c.in-Token.len in
    let rest : List ℕ = l.rest.now in
    let p : Place = place l.at l.line in
    let some : 0 < length rest = omega (arith, eqb-false (length rest) 0 (sym c.is_empty.ensures ∙ c.loop-rest-test.true)) in
    let here : Token c.in-Token.kind n ≡ piece l.before rest = sym c.in-Token.is ∙ c.in_ok-len.ensures in
    let inside = inside_is l.before rest p some (utf8_scan c.args.text.now) l.tokens l.invariant.so_far (Token c.in-Token.kind n) here in
    let front = c.split_at-in-Token.ensures.front_len in
    let lines = c.newlines-line-in-Token.ensures.value ∙ ap newlines c.split_at-in-Token.ensures.front in
    record {
      places = omega (arith, c.split_at-in-Token.ensures.back_len, l.invariant.places);
      lines = omega (arith, front, c.newlines-line-in-Token.ensures.within, l.invariant.lines);
      so_far = (λ i. onto (c.in_ok-push-in-Token.ensures.ok i) (scan_from (c.behind-next.ensures i) 0 (place (l.at + n) (l.line + lines i)) (c.split_at-in-Token.ensures.back i)))
          ∙ token_step l.before rest p some (utf8_scan c.args.text.now) l.tokens l.invariant.so_far c.in-Token.kind n here;
    }
