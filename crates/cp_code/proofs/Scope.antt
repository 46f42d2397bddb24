-- A tree ends by a cut or a throw only to levels and catchers that its goals name, or that it opened itself.
use Rattle.cp_code.specs.Requests.{pred_asking}
use Rattle.std.proofs.Common.{ℕ, zero, suc, ◌+◌, ◌<◌, Bool, true, false, List, [], ◌∷◌, map, length, Option, Some, None, arith, ℤ}
use Rattle.std.specs.Prelude.{nat_eq, nat_lt, Result, Ok, Err, codes, if◌then◌else◌}
use Rattle.cp_term.specs.declared.cell.Cell.{Cell}
use Rattle.cp_term.specs.declared.cell.Cell.TheVariants.{Int}
use Rattle.cp_term.specs.declared.pred_name.PredName.{PredName}
use Rattle.cp_term.specs.Preorder.{arguments}
use Rattle.cp_term.specs.Numbering.{fresh, next_variable}
use Rattle.cp_term.specs.Substitution.{Substitution, apply}
use Rattle.cp_term.specs.Unification.{unify, unifiable_apart}
use Rattle.cp_goal.specs.Builtins as builtins
use Rattle.cp_goal.specs.Builtins.{builtin, context}
use Rattle.cp_goal.specs.Errors.{instantiation_error, resource_error}
use Rattle.cp_goal.specs.Lists.{list_term}
use Rattle.cp_call.specs.declared.item.PutReply.TheVariants as put
use Rattle.cp_call.specs.declared.item.Next.{Next}
use Rattle.cp_call.specs.declared.item.Next.TheVariants as request
use Rattle.cp_call.specs.declared.item.Input.{Input}
use Rattle.cp_call.specs.declared.item.Input.TheVariants as input
use Rattle.cp_code.specs.Bodies.{Body, Cut, True, Fail, Both, Either, Choose, CallOf, CatchOf, ThrowOf, FindAll, Plain, body_of, Seen, seen_from}
use Rattle.cp_code.specs.Properties.{has}
use Rattle.cp_code.specs.Checks.{Check, held}
use Rattle.cp_code.specs.Code.{Code, Clause, Pred}
use Rattle.cp_code.specs.Goals.{Builtin, OnTerms, Property, Write, NewLine, OnFacts, Post, Wait, builtin_goal, seen_pred}
use Rattle.cp_code.specs.Requests.{Asking, Follows, Again, Facts, Fact, Number, Rest, Nothing, Raises, follows, handed_out, functor_of, full_name, fact_asking, post_goal, wait_goal, answers_of, RemoteFollows, Fails, Throws, Breaks, is_unbound}
use Rattle.cp_code.specs.Tree as trees
use Rattle.cp_code.specs.Tree.{Item, Goal, AskFrom, CutNow, Leave, Copy, Exit, Demands, Renamed, Done, CutTo, Throw, Steps, Waiting, Left, Run, Ends, Tree, in_turn, cut_at, opened, cut_behind, charge_of, charge, read_of, read, with_copies, throw_copy, throw_if, extended, enter_body, enter_goal, enter, rest_if, body_before, clause_if, clauses, behind, demand_if, exit_if, call_rules, rules_of_kind, call_renamed, facts_if, fact_if, followed, asked, ask, ask_or_raise, wrote, write, behind_answers, each_answer, answered, call_remote, is_among, recover_if, caught, apart, variables_in, collected, copied, ended, qualified, call_kind, first_of, piece_of, builtin_row, called_row, named_row, functor_row, body_row, answer, without_module, row, nothing, whole_row, tree_to, tree}
use Rattle.std.specs.Prelude.{slice_get}
use Rattle.cp_code.specs.Checks.{broken_call, broken_exit}
use Rattle.cp_code.specs.Code.{Kind, Rules, Shared, Remote, Wrapped}
use Rattle.cp_code.specs.Tree.{catchers}
use Rattle.cp_code.specs.Ends.{Each, Named, Ended}

module _ (P : ℕ → Type 0) where
  named_catchers : (items : List Item) → Named P items → Each P (catchers items)
  named_catchers [] h = tt
  named_catchers (Goal b l ∷ rest) h = named_catchers rest h.1
  named_catchers (AskFrom a place ∷ rest) h = named_catchers rest h
  named_catchers (CutNow l ∷ rest) h = named_catchers rest h.1
  named_catchers (Leave k ∷ rest) h = (h.0, named_catchers rest h.1)
  named_catchers (Copy x ctx ∷ rest) h = named_catchers rest h
  named_catchers (Exit p cs g ∷ rest) h = named_catchers rest h
  named_catchers (Demands p cs g ∷ rest) h = named_catchers rest h
  named_catchers (Renamed p cs g ∷ rest) h = named_catchers rest h

  named_behind : (p : PredName) (cs : List Check) (g : List Cell) (rest : List Item) → Named P rest → Named P (behind p cs g rest)
  named_behind p [] g rest h = h
  named_behind p (c ∷ cs) g rest h = h

  exit_ends : (o : Option ℕ) (p : PredName) (rest : List Item) (left : Left) (r : Run) → Named P rest → Ended P r → Ended P (exit_if o p rest left r)
  exit_ends (Some k) p rest left r h e = named_catchers rest h
  exit_ends None p rest left r h e = e

  demand_ends : (o : Option ℕ) (p : PredName) (rest : List Item) (left : Left) (r : Run) → Named P rest → Ended P r → Ended P (demand_if o p rest left r)
  demand_ends (Some k) p rest left r h e = named_catchers rest h
  demand_ends None p rest left r h e = e

  thrown_ends : (t : Result (List Cell) (List Cell)) (ctx : List Cell) (rest : List Item) (left : Left) → Named P rest → Ended P (throw_copy t ctx rest left)
  thrown_ends (Ok t) ctx rest left h = named_catchers rest h
  thrown_ends (Err kind) ctx rest left h = named_catchers rest h

  throw_if_ends : (b : Bool) (t ctx : List Cell) (rest : List Item) (left : Left) → Named P rest → Ended P (throw_if b t ctx rest left)
  throw_if_ends true t ctx rest left h = named_catchers rest h
  throw_if_ends false t ctx rest left h = thrown_ends (handed_out t) ctx rest left h

  copied_ends : (t : Result (List Cell) (List Cell)) (ctx : List Cell) (rest : List Item) (left : Left) → Named P rest → Ended P (copied t ctx rest left)
  copied_ends (Ok t) ctx rest left h = tt
  copied_ends (Err kind) ctx rest left h = named_catchers rest h

  behind_ends : (after : RemoteFollows) (ctx : List Cell) (rest : List Item) (left : Left) → Named P rest → Ended P (behind_answers after ctx rest left)
  behind_ends Fails ctx rest left h = tt
  behind_ends (Throws t) ctx rest left h = thrown_ends (handed_out t) ctx rest left h
  behind_ends (Breaks kind) ctx rest left h = named_catchers rest h

  turn : (r : Run) (k : Left → Run) → Ended P r → ((left : Left) → Ended P (k left)) → Ended P (in_turn r k)
  turn (Ends Done left) k h g = g left
  turn (Ends (CutTo l) left) k h g = h
  turn (Ends (Throw b ks) left) k h g = h
  turn (Ends Steps left) k h g = tt
  turn (Ends (Waiting n) left) k h g = tt

  cut_at_ends : (t : Bool) (l : ℕ) (left : Left) → P l → Ended P (cut_at t l left)
  cut_at_ends true l left h = tt
  cut_at_ends false l left h = h

  opens : (level : ℕ) (r : Run) → Ended P r → Ended P (opened level r)
  opens level (Ends Done left) h = tt
  opens level (Ends (CutTo l) left) h = cut_at_ends (nat_eq l level) l left h
  opens level (Ends (Throw b ks) left) h = h
  opens level (Ends Steps left) h = tt
  opens level (Ends (Waiting n) left) h = tt

  cuts : (level : ℕ) (r : Run) → P level → Ended P r → Ended P (cut_behind level r)
  cuts level (Ends Done left) p h = p
  cuts level (Ends (CutTo l) left) p h = h
  cuts level (Ends (Throw b ks) left) p h = h
  cuts level (Ends Steps left) p h = tt
  cuts level (Ends (Waiting n) left) p h = tt

  charges_at : (units : ℕ) (left : Left) (k : Left → Run) → ((left' : Left) → Ended P (k left')) → Ended P (charge_of units left k)
  charges_at zero left k h = tt
  charges_at (suc units) left k h = h _

  reads_at : (inputs : List Input) (due : Next) (left : Left) (k : Input → Left → Run) → ((i : Input) (left' : Left) → Ended P (k i left')) → Ended P (read_of inputs due left k)
  reads_at [] due left k h = tt
  reads_at (i ∷ inputs) due left k h = h i _

  answer_ends : (code : Code) (goal : List Cell) (t : Result (List Cell) (List Cell)) (left : Left) → Ended P (answer code goal t left)
  answer_ends code goal (Ok t) left = reads_at left.inputs _ left _ (λ i left'. tt)
  answer_ends code goal (Err kind) left = tt

  -- all levels above the last one that was opened
  abbrev New : ℕ → Type 0
  New level = (j : ℕ) → level < j → P j

  abbrev EndWell : Tree → Type 0
  EndWell T = (items : List Item) (s : Substitution) (next level : ℕ) (left : Left) → New level → Named P items → Ended P (T items s next level left)

  named_body : (b : Option Body) (next level : ℕ) (rest : List Item) → P level → Named P rest → Named P (body_before b next level rest)
  named_body None next level rest p h = h
  named_body (Some b) next level rest p h = (p, h)

  module _ (T : Tree) (hyp : EndWell T) where
    enter_body_ends : (b : Option Body) (g ctx : List Cell) (rest : List Item) (s : Substitution) (next level : ℕ) (left : Left) → New level → Named P rest → Ended P (enter_body T b g ctx rest s next level left)
    enter_body_ends None g ctx rest s next level left new h = named_catchers rest h
    enter_body_ends (Some b) g ctx rest s next level left new h =
        opens (suc level) _ (hyp (Goal b (suc level) ∷ rest) s next (suc level) left (λ j lt. new j (omega arith)) (new (suc level) (omega arith), h))

    enter_goal_ends : (seer : List ℕ) (g : Result (List Cell) (List Cell)) (ctx : List Cell) (rest : List Item) (s : Substitution) (next level : ℕ) (left : Left) → New level → Named P rest → Ended P (enter_goal T seer g ctx rest s next level left)
    enter_goal_ends seer (Ok g) ctx rest s next level left new h = enter_body_ends (body_of seer g) g ctx rest s next level left new h
    enter_goal_ends seer (Err kind) ctx rest s next level left new h = named_catchers rest h

    enter_if_ends : (unbound : Bool) (g : Seen) (extra : List (List Cell)) (ctx : List Cell) (rest : List Item) (s : Substitution) (next level : ℕ) (left : Left) → New level → Named P rest
        → Ended P (if unbound then trees.raise instantiation_error ctx rest left else enter_goal T g.seer (extended g.goal extra) ctx rest s next level left)
    enter_if_ends true g extra ctx rest s next level left new h = named_catchers rest h
    enter_if_ends false g extra ctx rest s next level left new h = enter_goal_ends g.seer (extended g.goal extra) ctx rest s next level left new h

    enter_ends : (seer : List ℕ) (g : List Cell) (extra : List (List Cell)) (ctx : List Cell) (rest : List Item) (s : Substitution) (next level : ℕ) (left : Left) → New level → Named P rest → Ended P (enter T seer g extra ctx rest s next level left)
    enter_ends seer g extra ctx rest s next level left new h =
        enter_if_ends (is_unbound ((seen_from seer (apply s g)).goal)) (seen_from seer (apply s g)) (map (apply s) extra) ctx rest s next level left new h

    rest_ends : (o : Option Substitution) (rest : List Item) (next level : ℕ) (left : Left) → New level → Named P rest → Ended P (rest_if T o rest next level left)
    rest_ends None rest next level left new h = tt
    rest_ends (Some s) rest next level left new h = hyp rest s next level left new h

    clause_ends : (o : Option Substitution) (c : Clause) (rest : List Item) (next level : ℕ) (left : Left) → New level → P level → Named P rest → Ended P (clause_if T o c rest next level left)
    clause_ends None c rest next level left new p h = tt
    clause_ends (Some s) c rest next level left new p h = hyp (body_before c.body next level rest) s (next + c.variables) level left new (named_body c.body next level rest p h)

    clauses_end : (cs : List Clause) (g : List Cell) (rest : List Item) (s : Substitution) (next level : ℕ) (left : Left) → New level → P level → Named P rest → Ended P (clauses T cs g rest s next level left)
    clauses_end [] g rest s next level left new p h = tt
    clauses_end (c ∷ cs) g rest s next level left new p h =
        turn _ _ (clause_ends (unify s g (fresh next c.head)) c rest next level left new p h) (λ left'. clauses_end cs g rest s next level left' new p h)

    rules_end : (code : Code) (p : PredName) (cs : List Check) (rs : List Clause) (g : List Cell) (rest : List Item) (s : Substitution) (next level : ℕ) (left : Left) → New level → Named P rest → Ended P (call_rules T code p cs rs g rest s next level left)
    rules_end code p cs rs g rest s next level left new h =
        opens (suc level) _ (clauses_end rs g (behind p (held code.types cs (arguments g)) g rest) s next (suc level) left (λ j lt. new j (omega arith)) (new (suc level) (omega arith)) (named_behind p (held code.types cs (arguments g)) g rest h))

    renamed_ends : (code : Code) (o : Option Pred) (cs : List Check) (g : List Cell) (rest : List Item) (s : Substitution) (next level : ℕ) (left : Left) → New level → Named P rest → Ended P (call_renamed T code o cs g rest s next level left)
    renamed_ends code (Some p) cs g rest s next level left new h = rules_end code p.name cs (rules_of_kind p.kind) g rest s next level left new h
    renamed_ends code None cs g rest s next level left new h = tt

    facts_end : (o : Option Substitution) (a : Asking) (place : ℤ) (rest : List Item) (s : Substitution) (next next' level : ℕ) (left : Left) → New level → Named P rest → Ended P (facts_if T o a place rest s next next' level left)
    facts_end None a place rest s next next' level left new h = tt
    facts_end (Some s') a place rest s next next' level left new h =
        turn _ _ (hyp rest s' next' level left new h) (λ left'. hyp (AskFrom a place ∷ rest) s next level left' new h)

    fact_ends : (b : Bool) (rest : List Item) (s : Substitution) (next level : ℕ) (left : Left) → New level → Named P rest → Ended P (fact_if T b rest s next level left)
    fact_ends true rest s next level left new h = hyp rest s next level left new h
    fact_ends false rest s next level left new h = tt

    followed_ends : (f : Follows) (a : Asking) (rest : List Item) (s : Substitution) (next level : ℕ) (left : Left) (k : Left → Run) → New level → Named P rest → Ended P (k left) → Ended P (followed T f a rest s next level left k)
    followed_ends Again a rest s next level left k new h e = e
    followed_ends (Facts place pattern fact) a rest s next level left k new h e = facts_end (unify s pattern (fresh next fact)) a place rest s next (next + next_variable fact) level left new h
    followed_ends (Fact pattern fact) a rest s next level left k new h e = fact_ends (unifiable_apart pattern fact) rest s next level left new h
    followed_ends (Number number place) a rest s next level left k new h e = rest_ends (unify s number (Int place ∷ [])) rest next level left new h
    followed_ends Rest a rest s next level left k new h e = hyp rest s next level left new h
    followed_ends Nothing a rest s next level left k new h e = tt
    followed_ends (Raises kind) a rest s next level left k new h e = named_catchers rest h

    asked_ends : (a : Asking) (after : Option ℤ) (rest : List Item) (s : Substitution) (next level units : ℕ) (copies : List (List Cell)) (inputs : List Input) → New level → Named P rest → Ended P (asked T a after rest s next level units copies inputs)
    asked_ends a after rest s next level units copies [] new h = tt
    asked_ends a after rest s next level units copies (input.Reply r ∷ inputs) new h =
        followed_ends (follows a.manner r) a rest s next level _ _ new h (asked_ends a after rest s next level units copies inputs new h)
    asked_ends a after rest s next level units copies (input.Put r ∷ inputs) new h = tt
    asked_ends a after rest s next level units copies (input.Remote r ∷ inputs) new h = tt
    asked_ends a after rest s next level units copies (input.More ∷ inputs) new h = tt

    ask_ends : (a : Result Asking (List Cell)) (ctx : List Cell) (rest : List Item) (s : Substitution) (next level : ℕ) (left : Left) → New level → Named P rest → Ended P (ask_or_raise T a ctx rest s next level left)
    ask_ends (Ok a) ctx rest s next level left new h = asked_ends a None rest s next level left.units left.copies left.inputs new h
    ask_ends (Err kind) ctx rest s next level left new h = named_catchers rest h

    wrote_ends : (ctx : List Cell) (rest : List Item) (s : Substitution) (next level : ℕ) (i : Input) (left : Left) → New level → Named P rest → Ended P (wrote T ctx rest s next level i left)
    wrote_ends ctx rest s next level (input.Put put.Wrote) left new h = hyp rest s next level left new h
    wrote_ends ctx rest s next level (input.Put put.Failed) left new h = named_catchers rest h
    wrote_ends ctx rest s next level (input.Reply r) left new h = tt
    wrote_ends ctx rest s next level (input.Remote r) left new h = tt
    wrote_ends ctx rest s next level input.More left new h = tt

    write_if_ends : (large : Bool) (bytes : List ℕ) (ctx : List Cell) (rest : List Item) (s : Substitution) (next level : ℕ) (left : Left) → New level → Named P rest
        → Ended P (if large then trees.raise (resource_error (codes "output_piece")) ctx rest left else read (request.Put bytes) left (wrote T ctx rest s next level))
    write_if_ends true bytes ctx rest s next level left new h = named_catchers rest h
    write_if_ends false bytes ctx rest s next level left new h = reads_at left.inputs _ left _ (λ i left'. wrote_ends ctx rest s next level i left' new h)

    write_ends : (bytes : List ℕ) (ctx : List Cell) (rest : List Item) (s : Substitution) (next level : ℕ) (left : Left) → New level → Named P rest → Ended P (write T bytes ctx rest s next level left)
    write_ends bytes ctx rest s next level left new h = write_if_ends (nat_lt 65535 (length bytes)) bytes ctx rest s next level left new h

    each_ends : (answers : List (List Cell)) (after : RemoteFollows) (g ctx : List Cell) (rest : List Item) (s : Substitution) (next level : ℕ) (left : Left) → New level → Named P rest → Ended P (each_answer T answers after g ctx rest s next level left)
    each_ends [] after g ctx rest s next level left new h = behind_ends after ctx rest left h
    each_ends (a ∷ answers) after g ctx rest s next level left new h =
        turn _ _ (rest_ends (unify s g (fresh next a)) rest (next + next_variable a) level left new h) (λ left'. each_ends answers after g ctx rest s next level left' new h)

    answered_ends : (p : PredName) (g : List Cell) (rest : List Item) (s : Substitution) (next level : ℕ) (i : Input) (left : Left) → New level → Named P rest → Ended P (answered T p g rest s next level i left)
    answered_ends p g rest s next level (input.Remote r) left new h = each_ends ((answers_of p r).answers) ((answers_of p r).behind) g (full_name p) rest s next level left new h
    answered_ends p g rest s next level (input.Reply r) left new h = tt
    answered_ends p g rest s next level (input.Put r) left new h = tt
    answered_ends p g rest s next level input.More left new h = tt

    remote_ends : (p : PredName) (g : List Cell) (t : Result (List Cell) (List Cell)) (rest : List Item) (s : Substitution) (next level : ℕ) (left : Left) → New level → Named P rest → Ended P (call_remote T p g t rest s next level left)
    remote_ends p g (Ok t) rest s next level left new h = reads_at left.inputs _ left _ (λ i left'. answered_ends p g rest s next level i left' new h)
    remote_ends p g (Err kind) rest s next level left new h = named_catchers rest h

    kind_ends : (code : Code) (p : PredName) (k : Kind) (g : List Cell) (rest : List Item) (s : Substitution) (next level : ℕ) (left : Left) → New level → Named P rest → Ended P (call_kind T code p k g rest s next level left)
    kind_ends code p (Rules cs rs) g rest s next level left new h = demand_ends (broken_call code.types cs cs (arguments g)) p rest left _ h (rules_end code p cs rs g rest s next level left new h)
    kind_ends code p (Shared object suspends) g rest s next level left new h = ask_ends (pred_asking object g p) (full_name p) rest s next level left new h
    kind_ends code p Remote g rest s next level left new h = remote_ends p g (handed_out g) rest s next level left new h
    kind_ends code p (Wrapped cs renamed) g rest s next level left new h = hyp (Demands p cs g ∷ Renamed renamed cs g ∷ rest) s next level left new h

    recover_ends : (among : Bool) (o : Option Substitution) (seer : List ℕ) (r : List Cell) (rest : List Item) (next level : ℕ) (b : List Cell) (ks : List ℕ) (left : Left) → New level → Named P rest → Each P ks → Ended P (recover_if T among o seer r rest next level b ks left)
    recover_ends true None seer r rest next level b ks left new h e = e
    recover_ends true (Some s) seer r rest next level b ks left new h e = enter_ends seer r [] (context seer (codes "catch") 3) rest s next level left new h
    recover_ends false o seer r rest next level b ks left new h e = e

    caught_ends : (k : ℕ) (seer : List ℕ) (catcher r : List Cell) (rest : List Item) (s : Substitution) (next level : ℕ) (run : Run) → New level → Named P rest → Ended P run → Ended P (caught T k seer catcher r rest s next level run)
    caught_ends k seer catcher r rest s next level (Ends Done left) new h e = tt
    caught_ends k seer catcher r rest s next level (Ends (CutTo l) left) new h e = e
    caught_ends k seer catcher r rest s next level (Ends (Throw b ks) left) new h e =
        recover_ends (is_among k ks) (unify s catcher (fresh next b)) seer r rest (next + next_variable b) level b ks left new h e
    caught_ends k seer catcher r rest s next level (Ends Steps left) new h e = tt
    caught_ends k seer catcher r rest s next level (Ends (Waiting n) left) new h e = tt

    collected_ends : (outer : List (List Cell)) (result : List Cell) (rest : List Item) (s : Substitution) (next level : ℕ) (run : Run) → New level → Named P rest → Ended P run → Ended P (collected T outer result rest s next level run)
    collected_ends outer result rest s next level (Ends Done left) new h e =
        rest_ends (unify s result (list_term (apart next left.copies))) rest (next + variables_in left.copies) level (with_copies outer left) new h
    collected_ends outer result rest s next level (Ends (CutTo l) left) new h e = e
    collected_ends outer result rest s next level (Ends (Throw b ks) left) new h e = e
    collected_ends outer result rest s next level (Ends Steps left) new h e = tt
    collected_ends outer result rest s next level (Ends (Waiting n) left) new h e = tt

    ended_ends : (e : builtins.End) (ctx : List Cell) (rest : List Item) (level : ℕ) (left : Left) → New level → Named P rest → Ended P (ended T e ctx rest level left)
    ended_ends (builtins.Succeeds s next) ctx rest level left new h = hyp rest s next level left new h
    ended_ends builtins.Fails ctx rest level left new h = tt
    ended_ends (builtins.Raises kind) ctx rest level left new h = named_catchers rest h

    builtin_ends : (code : Code) (seer : List ℕ) (b : Builtin) (args : List (List Cell)) (ctx : List Cell) (rest : List Item) (s : Substitution) (next level : ℕ) (left : Left) → New level → Named P rest → Ended P (builtin_row T code seer b args ctx rest s next level left)
    builtin_ends code seer (OnTerms b) args ctx rest s next level left new h = ended_ends (builtin b args s next) ctx rest level left new h
    builtin_ends code seer (Property name) args ctx rest s next level left new h = fact_ends (has code.types name (first_of args)) rest s next level left new h
    builtin_ends code seer (Write style) args ctx rest s next level left new h = write_ends (piece_of code style seer args) ctx rest s next level left new h
    builtin_ends code seer NewLine args ctx rest s next level left new h = write_ends (codes "\n") ctx rest s next level left new h
    builtin_ends code seer (OnFacts f) args ctx rest s next level left new h = ask_ends (fact_asking code f (seen_from seer (first_of args)) ctx) ctx rest s next level left new h
    builtin_ends code seer Post args ctx rest s next level left new h = ask_ends (post_goal seer args ctx) ctx rest s next level left new h
    builtin_ends code seer Wait args ctx rest s next level left new h = ask_ends (wait_goal args ctx) ctx rest s next level left new h

    called_ends : (code : Code) (seer : List ℕ) (o : Option Pred) (g ctx : List Cell) (rest : List Item) (s : Substitution) (next level : ℕ) (left : Left) → New level → Named P rest → Ended P (called_row T code seer o g ctx rest s next level left)
    called_ends code seer (Some p) g ctx rest s next level left new h = kind_ends code p.name p.kind (qualified seer p.goals g) rest s next level left new h
    called_ends code seer None g ctx rest s next level left new h = named_catchers rest h

    named_ends : (code : Code) (seer : List ℕ) (o : Option Builtin) (f : List ℕ × ℕ) (g : List Cell) (rest : List Item) (s : Substitution) (next level : ℕ) (left : Left) → New level → Named P rest → Ended P (named_row T code seer o f g rest s next level left)
    named_ends code seer (Some b) f g rest s next level left new h = builtin_ends code seer b (arguments g) (context seer f.0 f.1) rest s next level left new h
    named_ends code seer None f g rest s next level left new h = called_ends code seer (seen_pred code seer f.0 f.1) g (context seer f.0 f.1) rest s next level left new h

    functor_ends : (code : Code) (seer : List ℕ) (o : Option (List ℕ × ℕ)) (g : List Cell) (rest : List Item) (s : Substitution) (next level : ℕ) (left : Left) → New level → Named P rest → Ended P (functor_row T code seer o g rest s next level left)
    functor_ends code seer (Some f) g rest s next level left new h = named_ends code seer (builtin_goal f.0 f.1) f g rest s next level left new h
    functor_ends code seer None g rest s next level left new h = tt

    body_ends : (code : Code) (b : Body) (l : ℕ) (rest : List Item) (s : Substitution) (next level : ℕ) (left : Left) → New level → P l → Named P rest → Ended P (body_row T code b l rest s next level left)
    body_ends code Cut l rest s next level left new pl h = charges_at left.units left _ (λ left'. cuts l _ pl (hyp rest s next level left' new h))
    body_ends code True l rest s next level left new pl h = charges_at left.units left _ (λ left'. hyp rest s next level left' new h)
    body_ends code Fail l rest s next level left new pl h = charges_at left.units left _ (λ left'. tt)
    body_ends code (Both a b) l rest s next level left new pl h = body_ends code a l (Goal b l ∷ rest) s next level left new pl (pl, h)
    body_ends code (Either a b) l rest s next level left new pl h =
        charges_at left.units left _ (λ left'. turn _ _ (hyp (Goal a l ∷ rest) s next level left' new (pl, h)) (λ left''. hyp (Goal b l ∷ rest) s next level left'' new (pl, h)))
    body_ends code (Choose c t e) l rest s next level left new pl h =
        let one = new (level + 1) (omega arith) in
        let two = new (level + 2) (omega arith) in
        charges_at left.units left _ (λ left'. opens (level + 1) _ (turn _ _
        (opens (level + 2) _ (hyp (Goal c (level + 2) ∷ CutNow (level + 1) ∷ Goal t l ∷ rest) s next (level + 2) left' (λ j lt. new j (omega arith)) (two, (one, (pl, h)))))
        (λ left''. hyp (Goal e l ∷ rest) s next (level + 1) left'' (λ j lt. new j (omega arith)) (pl, h))))
    body_ends code (CallOf seer g extra) l rest s next level left new pl h =
        charges_at left.units left _ (λ left'. enter_ends seer g extra (context seer (codes "call") (suc (length extra))) rest s next level left' new h)
    body_ends code (CatchOf seer g catcher r) l rest s next level left new pl h =
        charges_at left.units left _ (λ left'. caught_ends (suc level) seer catcher r rest s next level _ new h
        (enter_ends seer g [] (context seer (codes "catch") 3) (Leave (suc level) ∷ rest) s next level left' new (new (suc level) (omega arith), h)))
    body_ends code (ThrowOf seer t) l rest s next level left new pl h =
        charges_at left.units left _ (λ left'. throw_if_ends (is_unbound (apply s t)) (apply s t) (context seer (codes "throw") 1) rest left' h)
    body_ends code (FindAll seer x g result) l rest s next level left new pl h =
        charges_at left.units left _ (λ left'. collected_ends left'.copies result rest s next level _ new h
        (enter_ends seer g [] (context seer (codes "findall") 3) (Copy x (context seer (codes "findall") 3) ∷ rest) s next level (with_copies [] left') new h))
    body_ends code (Plain seer g) l rest s next level left new pl h =
        charges_at left.units left _ (λ left'. functor_ends code seer (functor_of (apply s g)) (apply s g) rest s next level left' new h)

    again_ends : (a : Asking) (place : ℤ) (rest : List Item) (s : Substitution) (next level : ℕ) (left : Left) → New level → Named P rest → Ended P (charge left (λ left. ask T a (Some place) rest s next level left))
    again_ends a place rest s next level left new h = charges_at left.units left _ (λ left'. asked_ends a (Some place) rest s next level left'.units left'.copies left'.inputs new h)

    module _ (I : Tree) (renamed : (code : Code) (o : Option Pred) (cs : List Check) (g : List Cell) (rest : List Item) (s : Substitution) (next level : ℕ) (left : Left) → New level → Named P rest → Ended P (call_renamed I code o cs g rest s next level left)) where
      row_ends : (code : Code) (goal : List Cell) (items : List Item) (s : Substitution) (next level : ℕ) (left : Left) → New level → Named P items → Ended P (row T I code goal items s next level left)
      row_ends code goal [] s next level left new h = answer_ends code goal (handed_out (apply s (without_module goal (arguments goal)))) left
      row_ends code goal (Goal b l ∷ rest) s next level left new h = body_ends code b l rest s next level left new h.0 h.1
      row_ends code goal (AskFrom a place ∷ rest) s next level left new h = again_ends a place rest s next level left new h
      row_ends code goal (CutNow l ∷ rest) s next level left new h = cuts l _ h.0 (row_ends code goal rest s next level left new h.1)
      row_ends code goal (Leave k ∷ rest) s next level left new h = row_ends code goal rest s next level left new h.1
      row_ends code goal (Exit p cs g ∷ rest) s next level left new h = exit_ends (broken_exit code.types cs (arguments (apply s g))) p rest left _ h (row_ends code goal rest s next level left new h)
      row_ends code goal (Demands p cs g ∷ rest) s next level left new h = demand_ends (broken_call code.types cs cs (arguments g)) p rest left _ h (row_ends code goal rest s next level left new h)
      row_ends code goal (Renamed p cs g ∷ rest) s next level left new h = renamed code (slice_get code.renamed p) cs g rest s next level left new h
      row_ends code goal (Copy x ctx ∷ rest) s next level left new h = copied_ends (handed_out (apply s x)) ctx rest left h

  nothing_ends : EndWell nothing
  nothing_ends items s next level left new h = tt

  whole_ends : (T : Tree) → EndWell T → (code : Code) (goal : List Cell) → EndWell (whole_row T code goal)
  whole_ends T hyp code goal =
      let inside = row_ends T hyp nothing (renamed_ends nothing nothing_ends) code goal in
      row_ends T hyp (row T nothing code goal) (renamed_ends (row T nothing code goal) inside) code goal

  ends_to : (n : ℕ) (code : Code) (goal : List Cell) → EndWell (tree_to n code goal)
  ends_to zero code goal items s next level left new h = tt
  ends_to (suc n) code goal items s next level left new h = whole_ends (tree_to n code goal) (ends_to n code goal) code goal items s next level left new h

  pub tree_ends : (code : Code) (goal : List Cell) → EndWell (tree code goal)
  unfolding tree
  tree_ends code goal items s next level left new h = ends_to (suc (left.units + length left.inputs)) code goal items s next level left new h
