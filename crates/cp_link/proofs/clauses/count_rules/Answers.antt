use Rattle.std.proofs.Common.{◌≡◌, ◌+◌, ◌<◌, [], ◌∷◌, ◌++◌, List, length, get_or, take, ap, sym, ◌∙◌, arith, length-append}
use Rattle.std.proofs.lemmas.List.{take_more}
use Rattle.std.proofs.lemmas.List.Elements.{filter-append}
use Rattle.std.specs.Prelude.{ℕ, not}
use Rattle.cp_read.specs.declared.clause.ReadClause.{ReadClause}
use Rattle.cp_declaration.specs.Declarations.{is_declaration}
use Rattle.cp_link.specs.Modules.{rules_in}
use Rattle.cp_link.proofs.clauses.count_rules.Goals as goal

more : (cs : List ReadClause) (i : ℕ) (x : ReadClause) → i < length cs → x ≡ get_or cs i x → length (rules_in (take (i + 1) cs)) ≡ length (rules_in (take i cs)) + length (rules_in (x ∷ []))
more cs i x h e =
    ap (λ ys. length (rules_in ys)) (take_more cs i x h ∙ ap (λ y. take i cs ++ y ∷ []) (sym e))
    ∙ ap length (filter-append (λ (c : ReadClause). not (is_declaration c.term)) (take i cs) (x ∷ []))
    ∙ length-append (rules_in (take i cs)) (rules_in (x ∷ []))

pub loop-clause-preserved : goal.loop-clause-preserved
loop-clause-preserved c =
    let m = more c.args.clauses.now c.loop-clause.clause-index c.clause-item.result c.loop-clause-test.true c.clause-item.is in
    (omega (arith, c.rule_count-count.ensures.most), omega (arith, m, c.loop-clause.invariant.1, c.rule_count-count.ensures.count))
