use Rattle.std.proofs.Common.{◌≡◌, ◌+◌, suc, Some, None, sym, ap, subst, ◌∙◌, length, arith}
use Rattle.std.specs.Prelude.{Option, Result, Ok, Err}
use Rattle.cp_read.specs.declared.clause.ReadClause.{ReadClause}
use Rattle.cp_read.specs.declared.error.ReadError.{ReadError}
use Rattle.cp_read.specs.declared.error.ReadError.TheVariants.{Syntax}
use Rattle.cp_read.specs.Reading.{Reading, Answers}
use Rattle.cp_module.specs.declared.text.Text.{Text}
use Rattle.cp_module.specs.Texts.{clauses_from, syntax_why}
use Rattle.cp_module.proofs.ClauseLaws.{next_fresh, next_bounds, next_whole, last_whole, spent_whole, fault_whole}
use Rattle.cp_module.proofs.text.clauses_from.Goals as goal

pub clauses-preserved : goal.clauses-preserved
clauses-preserved c =
    let old = c.clauses.reader in
    let new = c.next_clause.new.self in
    let ops = c.clauses.ops in
    let clause = c.in-Ok-Some.clause in
    let is : c.next_clause.result ≡ Ok (Some clause) = cc in
    let P : Result (Option ReadClause) ReadError → Type 0 = λ r. Answers r old new ops in
    let h : Answers (Ok (Some clause)) old new ops = subst P is c.next_clause.ensures in
    record {
      fresh = next_fresh old new ops clause c.clauses.invariant.fresh h;
      bounds = next_bounds old new ops clause c.clauses.invariant.fresh c.clauses.invariant.bounds h;
      whole = next_whole (c.from-most.result + 1) c.clauses.turn ops c.change_operators.new.ops c.clauses.clauses c.push.new.self old new clause _ c.clauses-test.true c.clauses.invariant.fresh c.clauses.invariant.bounds h
          c.in_ok-change_operators-in-Ok-Some.ensures c.in_ok-push-in-Ok-Some.ensures.ok c.clauses.invariant.whole;
    }

pub returns-in-Ok-None : goal.returns-in-Ok-None
returns-in-Ok-None c =
    let old = c.clauses.reader in
    let new = c.next_clause.new.self in
    let ops = c.clauses.ops in
    let is : c.next_clause.result ≡ Ok None = cc in
    let P : Result (Option ReadClause) ReadError → Type 0 = λ r. Answers r old new ops in
    let h : Answers (Ok None) old new ops = subst P is c.next_clause.ensures in
    let most : c.from-most.result + 1 ≡ suc (length c.args.tokens) = omega (arith, c.from-most.ensures, c.len.ensures) in
    last_whole (c.from-most.result + 1) c.clauses.turn ops c.clauses.clauses old new _ c.clauses.invariant.fresh h c.clauses.invariant.whole
    ∙ ap (λ n. clauses_from n c.args.ops c.new-reader.result.rest) most
    ∙ ap (λ (r : Reading). clauses_from (suc (length c.args.tokens)) c.args.ops r.rest) c.new-reader.ensures

pub returns-in-Err-Syntax : goal.returns-in-Err-Syntax
returns-in-Err-Syntax c =
    let old = c.clauses.reader in
    let new = c.next_clause.new.self in
    let ops = c.clauses.ops in
    let line = c.in-Err-Syntax.line in
    let w = c.in-Err-Syntax.why in
    let is : c.next_clause.result ≡ Err (Syntax line w) = cc in
    let P : Result (Option ReadClause) ReadError → Type 0 = λ r. Answers r old new ops in
    let h : Answers (Err (Syntax line w)) old new ops = subst P is c.next_clause.ensures in
    let most : c.from-most.result + 1 ≡ suc (length c.args.tokens) = omega (arith, c.from-most.ensures, c.len.ensures) in
    let found : (let t : Text = record { clauses = c.clauses.clauses; ops = ops; fault = Some (record { line = line; why = syntax_why w }) } in t) ≡ clauses_from (suc (length c.args.tokens)) c.args.ops c.args.tokens =
    fault_whole (c.from-most.result + 1) c.clauses.turn ops c.clauses.clauses old new line w _ c.clauses-test.true c.clauses.invariant.fresh c.clauses.invariant.bounds h c.clauses.invariant.whole
    ∙ ap (λ n. clauses_from n c.args.ops c.new-reader.result.rest) most
    ∙ ap (λ (r : Reading). clauses_from (suc (length c.args.tokens)) c.args.ops r.rest) c.new-reader.ensures in
    cc

pub returns : goal.returns
returns c =
    let most : c.from-most.result + 1 ≡ suc (length c.args.tokens) = omega (arith, c.from-most.ensures, c.len.ensures) in
    spent_whole (c.from-most.result + 1) c.clauses.turn c.clauses.ops c.clauses.clauses c.clauses.reader.rest _ c.clauses-test.false c.clauses.invariant.whole
    ∙ ap (λ n. clauses_from n c.args.ops c.new-reader.result.rest) most
    ∙ ap (λ (r : Reading). clauses_from (suc (length c.args.tokens)) c.args.ops r.rest) c.new-reader.ensures
