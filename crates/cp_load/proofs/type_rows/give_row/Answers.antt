use Rattle.std.proofs.Common.{◌≡◌, ℕ, ◌+◌, ◌<◌, true, cond, List, ◌∷◌, ◌++◌, length, get_or, set, take, drop, sym, ◌∙◌, ap, add-one, arith}
use Rattle.std.specs.Str.{bytes_eq}
use Rattle.std.proofs.lemmas.List.{drop_more, get_or_default, set_split}
use Rattle.cp_code.specs.declared.clause.Clause.{Clause}
use Rattle.cp_code.specs.declared.type_row.TypeRow.{TypeRow}
use Rattle.cp_assertion.specs.RegularTypes.{given}
use Rattle.cp_load.proofs.type_rows.give_row.Goals as goal

set_is : (rows : List TypeRow) (i : ℕ) (y : TypeRow) → i < length rows → set rows i y ≡ take i rows ++ y ∷ drop (i + 1) rows
set_is rows i y h = set_split rows i y h ∙ ap (λ k. take i rows ++ y ∷ drop k rows) (sym (add-one i))

abbrev with_clauses : TypeRow → List Clause → TypeRow
with_clauses r cs = record { name = r.name; clauses = cs }

given_here : (rows : List TypeRow) (i : ℕ) (d : TypeRow) (name : List ℕ) (cs : List Clause) → i < length rows → bytes_eq (get_or rows i d).name name ≡ true
    → given (drop i rows) name cs ≡ with_clauses (get_or rows i d) cs ∷ drop (i + 1) rows
given_here rows i d name cs h e =
    let r = get_or rows i d in
    ap (λ rs. given rs name cs) (drop_more rows i d h)
    ∙ ap (λ b. cond b (with_clauses r cs ∷ drop (i + 1) rows) (r ∷ given (drop (i + 1) rows) name cs)) e

pub returns-then-eq : goal.returns-then-eq
returns-then-eq c =
    let rows = c.loop-at.rows in
    let at = c.loop-at.at in
    let name = c.args.name.now in
    let cs = c.args.clauses in
    let d = c.index-rows-at-then-eq.result in
    let more : at < length rows = omega arith in
    let first = c.index-rows-at.result in
    let row : (get_or rows at d).name ≡ (get_or rows at first).name = ap (λ (r : TypeRow). r.name) (get_or_default rows at d first more) in
    let same : bytes_eq (get_or rows at d).name name ≡ true =
    ap (λ n. bytes_eq n name) (row ∙ sym c.bytes.ensures.bytes) ∙ sym (c.if-eq.ensures {u = tt}) in
    set_is rows at (with_clauses (get_or rows at d) cs) more
    ∙ ap (λ rs. take at rows ++ rs) (sym (given_here rows at d name cs more same))
    ∙ sym (c.loop-at.invariant.1 cs)
    ∙ ap (λ rs. given rs name cs) c.loop-at.invariant.0
