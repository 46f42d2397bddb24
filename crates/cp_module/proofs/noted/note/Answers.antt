use Rattle.std.proofs.Common.{sym, ap, ◌∙◌}
use Rattle.std.specs.Prelude.{if◌then◌else◌}
use Rattle.cp_code.specs.Clauses.{head_of}
use Rattle.cp_module.specs.Causes.{is_option, headed}
use Rattle.cp_module.specs.Above.{known_in, with_clause}
use Rattle.cp_module.proofs.AboveLaws.{on_ok, behind_declaration, behind_clause}
use Rattle.cp_module.proofs.noted.note.Goals as goal

pub returns-then-is_declaration : goal.returns-then-is_declaration
returns-then-is_declaration c =
    on_ok c.note_declaration.result _ _ (λ h. λ p. h p ∙ sym (behind_declaration c.args.clause.now p (known_in c.args.above.now p) (sym c.is_declaration.ensures ∙ c.if-is_declaration.true))) c.note_declaration.ensures

pub returns-else-is_declaration : goal.returns-else-is_declaration
returns-else-is_declaration c =
    on_ok c.note_head.result _ _ (λ h. λ p. h p ∙ ap (λ cells. if is_option p (headed (head_of cells)) then with_clause (known_in c.args.above.now p) else known_in c.args.above.now p) c.cells.ensures.value ∙ sym (behind_clause c.args.clause.now p (known_in c.args.above.now p) (sym c.is_declaration.ensures ∙ c.if-is_declaration.false))) c.note_head.ensures
