use Rattle.std.proofs.Common.{◌≡◌, Bool, false, not, [], map, drop, sym, ap, subst}
use Rattle.std.proofs.lemmas.List.{drop_all}
use Rattle.cp_code.specs.Programs.{type_of}
use Rattle.cp_props.specs.Search.{clauses_at, attempt_shown, attempts_shown, GoesOn}
use Rattle.cp_props.proofs.Searching.{none_past, goes_by_failing}
use Rattle.cp_props.proofs.search.next_clause.Goals as goal

pub returns-in-None-clause-went : goal.returns-in-None-clause-went
returns-in-None-clause-went c =
    let types = map type_of c.args.types.now in
    let h = c.args.heap.now in
    let a = c.args.attempt in
    let past = none_past (clauses_at types a.row) a.next (sym c.in-None.ensures.clause) in
    let none : drop a.next (clauses_at types a.row) ≡ [] = drop_all a.next (clauses_at types a.row) past in
    subst (λ (ok : Bool). GoesOn types (attempts_shown types h c.args.attempts.now) (attempt_shown types h a) false (attempts_shown types h c.args.attempts.now) ok)
    (ap not (sym c.dropped.ensures))
    (goes_by_failing types (attempts_shown types h c.args.attempts.now) (attempt_shown types h a) none)
