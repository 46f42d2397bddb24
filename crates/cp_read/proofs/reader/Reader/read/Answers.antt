use Rattle.std.proofs.Common.{◌≡◌, List, ◌∙◌, ap, subst, Ok, Err}
use Rattle.std.specs.Prelude.{Some, ◌-◌, drop}
use Rattle.cp_lex.specs.declared.token.Token.{Token}
use Rattle.cp_read.specs.declared.bounds.Bounds.{Bounds}
use Rattle.cp_read.specs.Clauses.{next_clause}
use Rattle.cp_read.specs.Reading.{Reading, Finds}
use Rattle.cp_read.proofs.lemmas.ReadLaws.{read-ok, read-refusal}
use Rattle.cp_read.proofs.reader.Reader.read.Goals as goal

pub returns-in-Ok : goal.returns-in-Ok
returns-in-Ok c =
    let tokens = c.self.inside.tokens in
    let at = c.self.inside.at in
    let ts = c.split_at.result.1.now in
    let rest = drop (c.len.result - c.in-Ok.left) tokens in (
      subst (λ (x : Reading). next_clause x.bounds c.args.ops.now x.rest ≡ Ok (Some (record { cells = c.in-Ok.term; line = c.first_line-line.result; rest = rest }))) c.self.view_is
          (read-ok c.self.inside.bounds c.args.ops.now tokens at c.len.result c.first_line-line.result ts c.is_empty.result (c.in-Ok.term, c.in-Ok.left) (c.self.invariant.0)
          (c.split_at.ensures.back ∙ ap (λ (l : List Token). drop at l) c.as_slice.ensures) c.is_empty.ensures c.if-is_empty.false c.in-Ok.ensures c.first_line-line.ensures c.len.ensures),
      ap (λ (x : Reading). let y : Reading = record { rest = rest; bounds = x.bounds; failed = x.failed } in y) c.self.view_is,
    )

pub returns-in-Err : goal.returns-in-Err
returns-in-Err c =
    let at = c.self.inside.at in
    let ts = c.split_at.result.1.now in
    read-refusal c.args.ops.now c.args.self.now c.self.inside.tokens at ts c.is_empty.result c.in-Err.refusal
    (c.split_at.ensures.back ∙ ap (λ (l : List Token). drop at l) c.as_slice.ensures ∙ ap (λ (x : Reading). x.rest) c.self.view_is) c.is_empty.ensures c.if-is_empty.false
    (subst (λ (b : Bounds). Finds (Err c.in-Err.refusal) ts b c.args.ops.now) (ap (λ (x : Reading). x.bounds) c.self.view_is) c.in-Err.ensures)
