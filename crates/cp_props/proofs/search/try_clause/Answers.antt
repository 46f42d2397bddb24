use Rattle.std.proofs.Common.{◌≡◌, ◌+◌, Bool, true, false, List, [], ◌∷◌, ◌++◌, map, drop, sym, ◌∙◌, ap, subst, rules}
use Rattle.std.specs.Prelude.{Some, None}
use Rattle.std.specs.Option.{option_map}
use Rattle.std.proofs.lemmas.Result.{IfOk-weaker}
use Rattle.std.proofs.lemmas.List.Elements.{All-push}
use Rattle.cp_heap.specs.State.{instance_at}
use Rattle.cp_code.specs.Properties.{clause_of}
use Rattle.cp_code.specs.Programs.{type_of}
use Rattle.cp_props.specs.declared.attempt.Attempt.{Attempt}
use Rattle.cp_props.specs.declared.demand.Demand.{Demand}
use Rattle.cp_props.specs.Demands.{demands, demands_shown}
use Rattle.cp_props.specs.Search.{clauses_at, attempt_shown, attempts_shown, GoesOn, IsLive, AreLive}
use Rattle.cp_props.proofs.Stacks.{drop-got}
use Rattle.cp_props.proofs.Searching.{if_ok_both, pushed-ends, pushed-cost, goes_to_clause, goes_past_clause}
use Rattle.cp_props.proofs.search.try_clause.Goals as goal

pub returns-in-Some-clause-went : goal.returns-in-Some-clause-went
returns-in-Some-clause-went c =
    let types = map type_of c.args.types.now in
    let h = c.args.heap.now in
    let a = c.args.attempt in
    let whole = c.args.clause.now.whole in
    let shown = attempt_shown types h a in
    let old = attempts_shown types h c.args.attempts.now in
    let new = attempts_shown types h c.put_passed.new.attempts in
    let past : Attempt = record { depth = a.depth; at = a.at; row = a.row; next = a.next + 1; demands = c.in-Some.demands; met = 0 } in
    let first = drop-got (clauses_at types a.row) a.next whole c.requires.clause in
    let told : demands (clause_of whole) (instance_at h a.at.at) ≡ Some (demands_shown h c.in-Some.demands) =
    sym c.in_ok-demands.ensures.demands ∙ ap (option_map (demands_shown h)) c.in-Some.is in
    if_ok_both c.put_passed.result
    (λ (ok : Bool). c.put_passed.new.attempts ≡ c.args.attempts.now ++ c.past_clause.result ∷ [])
    (λ (ok : Bool). ok ≡ true)
    (λ (ok : Bool). GoesOn types old shown false new ok)
    (λ ok pushed passed.
    let grown = pushed ∙ ap (λ (x : Attempt). c.args.attempts.now ++ x ∷ []) c.past_clause.ensures in
    subst (λ (t : Bool). GoesOn types old shown false new t) (sym passed)
    (goes_to_clause types old new shown whole (drop (a.next + 1) (clauses_at types a.row)) (demands_shown h c.in-Some.demands) first told
    (pushed-ends types h c.args.attempts.now c.put_passed.new.attempts past grown true)
    (pushed-cost types h c.args.attempts.now c.put_passed.new.attempts past grown)))
    c.put_passed.ensures.attempts c.put_passed.ensures.passed

pub returns-in-None-clause-went : goal.returns-in-None-clause-went
returns-in-None-clause-went c =
    let types = map type_of c.args.types.now in
    let h = c.args.heap.now in
    let a = c.args.attempt in
    let whole = c.args.clause.now.whole in
    let shown = attempt_shown types h a in
    let old = attempts_shown types h c.args.attempts.now in
    let new = attempts_shown types h c.put_passed-in-None.new.attempts in
    let past : Attempt = record { depth = a.depth; at = a.at; row = a.row; next = a.next + 1; demands = []; met = 0 } in
    let first = drop-got (clauses_at types a.row) a.next whole c.requires.clause in
    let told : demands (clause_of whole) (instance_at h a.at.at) ≡ None =
    sym c.in_ok-demands.ensures.demands ∙ ap (option_map (demands_shown h)) c.in-None.is in
    let past_is : c.past_clause-in-None.result ≡ past =
    c.past_clause-in-None.ensures ∙ ap (λ (ds : List Demand). record { depth = a.depth; at = a.at; row = a.row; next = a.next + 1; demands = ds; met = 0 }) c.new.ensures in
    if_ok_both c.put_passed-in-None.result
    (λ (ok : Bool). c.put_passed-in-None.new.attempts ≡ c.args.attempts.now ++ c.past_clause-in-None.result ∷ [])
    (λ (ok : Bool). ok ≡ false)
    (λ (ok : Bool). GoesOn types old shown false new ok)
    (λ ok pushed passed.
    let grown = pushed ∙ ap (λ (x : Attempt). c.args.attempts.now ++ x ∷ []) past_is in
    subst (λ (t : Bool). GoesOn types old shown false new t) (sym passed)
    (goes_past_clause types old new shown whole (drop (a.next + 1) (clauses_at types a.row)) first told
    (pushed-ends types h c.args.attempts.now c.put_passed-in-None.new.attempts past grown false)
    (pushed-cost types h c.args.attempts.now c.put_passed-in-None.new.attempts past grown)))
    c.put_passed-in-None.ensures.attempts c.put_passed-in-None.ensures.passed

pub returns-in-None-clause-live : goal.returns-in-None-clause-live
returns-in-None-clause-live c =
    let h = c.args.heap.now in
    let a = c.args.attempt in
    let past : Attempt = record { depth = a.depth; at = a.at; row = a.row; next = a.next + 1; demands = []; met = 0 } in
    let past_is : c.past_clause-in-None.result ≡ past =
    c.past_clause-in-None.ensures ∙ ap (λ (ds : List Demand). record { depth = a.depth; at = a.at; row = a.row; next = a.next + 1; demands = ds; met = 0 }) c.new.ensures in
    let live : IsLive h past = (c.requires.attempt.0, search rules) in
    IfOk-weaker c.put_passed-in-None.result
    (λ (ok : Bool). c.put_passed-in-None.new.attempts ≡ c.args.attempts.now ++ c.past_clause-in-None.result ∷ [])
    (λ (ok : Bool). AreLive h c.put_passed-in-None.new.attempts)
    (λ ok pushed. subst (AreLive h) (sym (pushed ∙ ap (λ (x : Attempt). c.args.attempts.now ++ x ∷ []) past_is)) (All-push (IsLive h) c.args.attempts.now past c.requires.live live))
    c.put_passed-in-None.ensures.attempts
