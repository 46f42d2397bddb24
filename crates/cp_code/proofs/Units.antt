-- A tree that does not end for want of units is the same with more of them, which are left over.
use Rattle.cp_code.specs.Requests.{pred_asking}
use Rattle.std.proofs.Common.{◌≡◌, refl, sym, ap, subst, ℕ, zero, suc, ◌+◌, Bool, true, false, List, [], ◌∷◌, map, length, Option, Some, None, arith, ℤ}
use Rattle.std.specs.Prelude.{nat_eq, nat_lt, Result, Ok, Err, codes, if◌then◌else◌}
use Rattle.cp_term.specs.declared.cell.Cell.{Cell}
use Rattle.cp_term.specs.declared.cell.Cell.TheVariants.{Int}
use Rattle.cp_term.specs.declared.pred_name.PredName.{PredName}
use Rattle.cp_term.specs.Preorder.{arguments}
use Rattle.cp_term.specs.Numbering.{fresh, next_variable}
use Rattle.cp_term.specs.Substitution.{Substitution, apply}
use Rattle.cp_term.specs.Unification.{unify, unifiable_apart}
use Rattle.cp_goal.specs.Builtins as builtins
use Rattle.cp_goal.specs.Builtins.{builtin, context}
use Rattle.cp_goal.specs.Errors.{instantiation_error, resource_error}
use Rattle.cp_goal.specs.Lists.{list_term}
use Rattle.cp_call.specs.declared.item.PutReply.TheVariants as put
use Rattle.cp_call.specs.declared.item.Next.{Next}
use Rattle.cp_call.specs.declared.item.Next.TheVariants as request
use Rattle.cp_call.specs.declared.item.Input.{Input}
use Rattle.cp_call.specs.declared.item.Input.TheVariants as input
use Rattle.cp_code.specs.Bodies.{Body, Cut, True, Fail, Both, Either, Choose, CallOf, CatchOf, ThrowOf, FindAll, Plain, body_of, Seen, seen_from}
use Rattle.cp_code.specs.Properties.{has}
use Rattle.cp_code.specs.Checks.{Check, held}
use Rattle.cp_code.specs.Code.{Code, Clause, Pred}
use Rattle.cp_code.specs.Goals.{Builtin, OnTerms, Property, Write, NewLine, OnFacts, Post, Wait, builtin_goal, seen_pred}
use Rattle.cp_code.specs.Requests.{Asking, Follows, Again, Facts, Fact, Number, Rest, Nothing, Raises, follows, handed_out, functor_of, full_name, fact_asking, post_goal, wait_goal, answers_of, RemoteFollows, Fails, Throws, Breaks, is_unbound}
use Rattle.cp_code.specs.Tree as trees
use Rattle.cp_code.specs.Tree.{Item, Goal, AskFrom, CutNow, Leave, Copy, Exit, Demands, Renamed, Done, CutTo, Throw, Steps, Waiting, Left, Run, Ends, Tree, in_turn, cut_at, opened, cut_behind, charge_of, charge, read_of, read, with_copies, throw_copy, throw_if, extended, enter_body, enter_goal, enter, rest_if, body_before, clause_if, clauses, behind, demand_if, exit_if, call_rules, rules_of_kind, call_renamed, facts_if, fact_if, followed, asked, ask, ask_or_raise, wrote, write, behind_answers, each_answer, answered, call_remote, is_among, recover_if, caught, apart, variables_in, collected, copied, ended, qualified, call_kind, first_of, piece_of, builtin_row, called_row, named_row, functor_row, body_row, answer, without_module, row, nothing, whole_row, tree_to, tree}
use Rattle.std.specs.Prelude.{slice_get}
use Rattle.cp_code.specs.Checks.{broken_call, broken_exit}
use Rattle.cp_code.specs.Code.{Kind, Rules, Shared, Remote, Wrapped}
use Rattle.cp_code.specs.Units.{with_more, More}
use Rattle.cp_code.specs.Laws.{MoreUnitsChangeNothing}
use Rattle.cp_code.proofs.Alike.{size}
use Rattle.cp_code.proofs.Fixed.{deep}

module _ (more : ℕ) where
  abbrev Alike : Run → Run → Type 0
  Alike = More more

  -- what a run that is the same of all that is left says of more
  abbrev Grows : (Left → Run) → Type 0
  Grows r = (left : Left) → Alike (r left) (r (with_more more left))

  exit_grows : (o : Option ℕ) (p : PredName) (rest : List Item) (left : Left) (r r' : Run) → Alike r r' → Alike (exit_if o p rest left r) (exit_if o p rest (with_more more left) r')
  exit_grows (Some k) p rest left r r' h = refl
  exit_grows None p rest left r r' h = h

  demand_grows : (o : Option ℕ) (p : PredName) (rest : List Item) (left : Left) (r r' : Run) → Alike r r' → Alike (demand_if o p rest left r) (demand_if o p rest (with_more more left) r')
  demand_grows (Some k) p rest left r r' h = refl
  demand_grows None p rest left r r' h = h

  thrown_grows : (t : Result (List Cell) (List Cell)) (ctx : List Cell) (rest : List Item) → Grows (throw_copy t ctx rest)
  thrown_grows (Ok t) ctx rest left = refl
  thrown_grows (Err kind) ctx rest left = refl

  throw_if_grows : (b : Bool) (t ctx : List Cell) (rest : List Item) → Grows (throw_if b t ctx rest)
  throw_if_grows true t ctx rest left = refl
  throw_if_grows false t ctx rest left = thrown_grows (handed_out t) ctx rest left

  copied_grows : (t : Result (List Cell) (List Cell)) (ctx : List Cell) (rest : List Item) → Grows (copied t ctx rest)
  copied_grows (Ok t) ctx rest left = refl
  copied_grows (Err kind) ctx rest left = refl

  behind_grows : (after : RemoteFollows) (ctx : List Cell) (rest : List Item) → Grows (behind_answers after ctx rest)
  behind_grows Fails ctx rest left = refl
  behind_grows (Throws t) ctx rest left = thrown_grows (handed_out t) ctx rest left
  behind_grows (Breaks kind) ctx rest left = refl

  turn : (r r' : Run) (f : Left → Run) → Alike r r' → Grows f → Alike (in_turn r f) (in_turn r' f)
  turn (Ends Done left) r' f h g = subst (λ x. Alike (f left) (in_turn x f)) (sym h) (g left)
  turn (Ends (CutTo l) left) r' f h g = ap (λ x. in_turn x f) h
  turn (Ends (Throw b ks) left) r' f h g = ap (λ x. in_turn x f) h
  turn (Ends Steps left) r' f h g = tt
  turn (Ends (Waiting n) left) r' f h g = ap (λ x. in_turn x f) h

  cut_at_grows : (t : Bool) (l : ℕ) → Grows (cut_at t l)
  cut_at_grows true l left = refl
  cut_at_grows false l left = refl

  opens : (level : ℕ) (r r' : Run) → Alike r r' → Alike (opened level r) (opened level r')
  opens level (Ends Done left) r' h = ap (opened level) h
  opens level (Ends (CutTo l) left) r' h = subst (λ x. Alike (cut_at (nat_eq l level) l left) (opened level x)) (sym h) (cut_at_grows (nat_eq l level) l left)
  opens level (Ends (Throw b ks) left) r' h = ap (opened level) h
  opens level (Ends Steps left) r' h = tt
  opens level (Ends (Waiting n) left) r' h = ap (opened level) h

  cuts : (level : ℕ) (r r' : Run) → Alike r r' → Alike (cut_behind level r) (cut_behind level r')
  cuts level (Ends Done left) r' h = ap (cut_behind level) h
  cuts level (Ends (CutTo l) left) r' h = ap (cut_behind level) h
  cuts level (Ends (Throw b ks) left) r' h = ap (cut_behind level) h
  cuts level (Ends Steps left) r' h = tt
  cuts level (Ends (Waiting n) left) r' h = ap (cut_behind level) h

  charge_at : (units : ℕ) (left : Left) (f : Left → Run) → Grows f → Alike (charge_of units left f) (charge_of (units + more) (with_more more left) f)
  charge_at zero left f h = tt
  charge_at (suc units) left f h =
      let one_more : suc (units + more) ≡ suc units + more = omega arith in
      subst (λ u. Alike (charge_of (suc units) left f) (charge_of u (with_more more left) f)) one_more (h (record { units = units; inputs = left.inputs; copies = left.copies }))

  charges : (f : Left → Run) → Grows f → Grows (λ left. charge left f)
  charges f h left = charge_at left.units left f h

  read_at : (inputs : List Input) (due : Next) (left : Left) (f : Input → Left → Run) → ((i : Input) → Grows (f i)) → Alike (read_of inputs due left f) (read_of inputs due (with_more more left) f)
  read_at [] due left f h = refl
  read_at (i ∷ inputs) due left f h = h i (record { units = left.units; inputs = inputs; copies = left.copies })

  reads : (due : Next) (f : Input → Left → Run) → ((i : Input) → Grows (f i)) → Grows (λ left. read due left f)
  reads due f h left = read_at left.inputs due left f h

  answer_grows : (code : Code) (goal : List Cell) (t : Result (List Cell) (List Cell)) → Grows (answer code goal t)
  answer_grows code goal (Ok t) left = read_at left.inputs _ left _ (λ i left'. refl)
  answer_grows code goal (Err kind) left = refl

  abbrev TreeGrows : Tree → Type 0
  TreeGrows T = (items : List Item) (s : Substitution) (next level : ℕ) → Grows (T items s next level)

  module _ (T : Tree) (hyp : TreeGrows T) where
    enter_body_grows : (b : Option Body) (g ctx : List Cell) (rest : List Item) (s : Substitution) (next level : ℕ) → Grows (enter_body T b g ctx rest s next level)
    enter_body_grows None g ctx rest s next level left = refl
    enter_body_grows (Some b) g ctx rest s next level left = opens (suc level) _ _ (hyp (Goal b (suc level) ∷ rest) s next (suc level) left)

    enter_goal_grows : (seer : List ℕ) (g : Result (List Cell) (List Cell)) (ctx : List Cell) (rest : List Item) (s : Substitution) (next level : ℕ) → Grows (enter_goal T seer g ctx rest s next level)
    enter_goal_grows seer (Ok g) ctx rest s next level left = enter_body_grows (body_of seer g) g ctx rest s next level left
    enter_goal_grows seer (Err kind) ctx rest s next level left = refl

    enter_if_grows : (unbound : Bool) (g : Seen) (extra : List (List Cell)) (ctx : List Cell) (rest : List Item) (s : Substitution) (next level : ℕ)
        → Grows (λ left. if unbound then trees.raise instantiation_error ctx rest left else enter_goal T g.seer (extended g.goal extra) ctx rest s next level left)
    enter_if_grows true g extra ctx rest s next level left = refl
    enter_if_grows false g extra ctx rest s next level left = enter_goal_grows g.seer (extended g.goal extra) ctx rest s next level left

    enter_grows : (seer : List ℕ) (g : List Cell) (extra : List (List Cell)) (ctx : List Cell) (rest : List Item) (s : Substitution) (next level : ℕ) → Grows (enter T seer g extra ctx rest s next level)
    enter_grows seer g extra ctx rest s next level left =
        enter_if_grows (is_unbound ((seen_from seer (apply s g)).goal)) (seen_from seer (apply s g)) (map (apply s) extra) ctx rest s next level left

    rest_grows : (o : Option Substitution) (rest : List Item) (next level : ℕ) → Grows (rest_if T o rest next level)
    rest_grows None rest next level left = refl
    rest_grows (Some s) rest next level left = hyp rest s next level left

    clause_grows : (o : Option Substitution) (c : Clause) (rest : List Item) (next level : ℕ) → Grows (clause_if T o c rest next level)
    clause_grows None c rest next level left = refl
    clause_grows (Some s) c rest next level left = hyp (body_before c.body next level rest) s (next + c.variables) level left

    clauses_grow : (cs : List Clause) (g : List Cell) (rest : List Item) (s : Substitution) (next level : ℕ) → Grows (clauses T cs g rest s next level)
    clauses_grow [] g rest s next level left = refl
    clauses_grow (c ∷ cs) g rest s next level left =
        turn _ _ _ (clause_grows (unify s g (fresh next c.head)) c rest next level left) (clauses_grow cs g rest s next level)

    rules_grow : (code : Code) (p : PredName) (cs : List Check) (rs : List Clause) (g : List Cell) (rest : List Item) (s : Substitution) (next level : ℕ) → Grows (call_rules T code p cs rs g rest s next level)
    rules_grow code p cs rs g rest s next level left =
        opens (suc level) _ _ (clauses_grow rs g (behind p (held code.types cs (arguments g)) g rest) s next (suc level) left)

    renamed_grows : (code : Code) (o : Option Pred) (cs : List Check) (g : List Cell) (rest : List Item) (s : Substitution) (next level : ℕ) → Grows (call_renamed T code o cs g rest s next level)
    renamed_grows code (Some p) cs g rest s next level left = rules_grow code p.name cs (rules_of_kind p.kind) g rest s next level left
    renamed_grows code None cs g rest s next level left = refl

    facts_grow : (o : Option Substitution) (a : Asking) (place : ℤ) (rest : List Item) (s : Substitution) (next next' level : ℕ) → Grows (facts_if T o a place rest s next next' level)
    facts_grow None a place rest s next next' level left = refl
    facts_grow (Some s') a place rest s next next' level left =
        turn _ _ _ (hyp rest s' next' level left) (hyp (AskFrom a place ∷ rest) s next level)

    fact_grows : (b : Bool) (rest : List Item) (s : Substitution) (next level : ℕ) → Grows (fact_if T b rest s next level)
    fact_grows true rest s next level left = hyp rest s next level left
    fact_grows false rest s next level left = refl

    followed_grows : (f : Follows) (a : Asking) (rest : List Item) (s : Substitution) (next level : ℕ) (left : Left) (r r' : Left → Run) → Alike (r left) (r' (with_more more left)) → Alike (followed T f a rest s next level left r) (followed T f a rest s next level (with_more more left) r')
    followed_grows Again a rest s next level left r r' e = e
    followed_grows (Facts place pattern fact) a rest s next level left r r' e = facts_grow (unify s pattern (fresh next fact)) a place rest s next (next + next_variable fact) level left
    followed_grows (Fact pattern fact) a rest s next level left r r' e = fact_grows (unifiable_apart pattern fact) rest s next level left
    followed_grows (Number number place) a rest s next level left r r' e = rest_grows (unify s number (Int place ∷ [])) rest next level left
    followed_grows Rest a rest s next level left r r' e = hyp rest s next level left
    followed_grows Nothing a rest s next level left r r' e = refl
    followed_grows (Raises kind) a rest s next level left r r' e = refl

    asked_grows : (a : Asking) (after : Option ℤ) (rest : List Item) (s : Substitution) (next level units : ℕ) (copies : List (List Cell)) (inputs : List Input) → Alike (asked T a after rest s next level units copies inputs) (asked T a after rest s next level (units + more) copies inputs)
    asked_grows a after rest s next level units copies [] = refl
    asked_grows a after rest s next level units copies (input.Reply r ∷ inputs) =
        followed_grows (follows a.manner r) a rest s next level _ _ _ (asked_grows a after rest s next level units copies inputs)
    asked_grows a after rest s next level units copies (input.Put r ∷ inputs) = refl
    asked_grows a after rest s next level units copies (input.Remote r ∷ inputs) = refl
    asked_grows a after rest s next level units copies (input.More ∷ inputs) = refl

    ask_grows : (a : Result Asking (List Cell)) (ctx : List Cell) (rest : List Item) (s : Substitution) (next level : ℕ) → Grows (ask_or_raise T a ctx rest s next level)
    ask_grows (Ok a) ctx rest s next level left = asked_grows a None rest s next level left.units left.copies left.inputs
    ask_grows (Err kind) ctx rest s next level left = refl

    wrote_grows : (ctx : List Cell) (rest : List Item) (s : Substitution) (next level : ℕ) (i : Input) → Grows (wrote T ctx rest s next level i)
    wrote_grows ctx rest s next level (input.Put put.Wrote) left = hyp rest s next level left
    wrote_grows ctx rest s next level (input.Put put.Failed) left = refl
    wrote_grows ctx rest s next level (input.Reply r) left = refl
    wrote_grows ctx rest s next level (input.Remote r) left = refl
    wrote_grows ctx rest s next level input.More left = refl

    write_if_grows : (large : Bool) (bytes : List ℕ) (ctx : List Cell) (rest : List Item) (s : Substitution) (next level : ℕ)
        → Grows (λ left. if large then trees.raise (resource_error (codes "output_piece")) ctx rest left else read (request.Put bytes) left (wrote T ctx rest s next level))
    write_if_grows true bytes ctx rest s next level left = refl
    write_if_grows false bytes ctx rest s next level left = read_at left.inputs _ left _ (wrote_grows ctx rest s next level)

    write_grows : (bytes : List ℕ) (ctx : List Cell) (rest : List Item) (s : Substitution) (next level : ℕ) → Grows (write T bytes ctx rest s next level)
    write_grows bytes ctx rest s next level left = write_if_grows (nat_lt 65535 (length bytes)) bytes ctx rest s next level left

    each_grows : (answers : List (List Cell)) (after : RemoteFollows) (g ctx : List Cell) (rest : List Item) (s : Substitution) (next level : ℕ) → Grows (each_answer T answers after g ctx rest s next level)
    each_grows [] after g ctx rest s next level left = behind_grows after ctx rest left
    each_grows (a ∷ answers) after g ctx rest s next level left =
        turn _ _ _ (rest_grows (unify s g (fresh next a)) rest (next + next_variable a) level left) (each_grows answers after g ctx rest s next level)

    answered_grows : (p : PredName) (g : List Cell) (rest : List Item) (s : Substitution) (next level : ℕ) (i : Input) → Grows (answered T p g rest s next level i)
    answered_grows p g rest s next level (input.Remote r) left = each_grows ((answers_of p r).answers) ((answers_of p r).behind) g (full_name p) rest s next level left
    answered_grows p g rest s next level (input.Reply r) left = refl
    answered_grows p g rest s next level (input.Put r) left = refl
    answered_grows p g rest s next level input.More left = refl

    remote_grows : (p : PredName) (g : List Cell) (t : Result (List Cell) (List Cell)) (rest : List Item) (s : Substitution) (next level : ℕ) → Grows (call_remote T p g t rest s next level)
    remote_grows p g (Ok t) rest s next level left = read_at left.inputs _ left _ (answered_grows p g rest s next level)
    remote_grows p g (Err kind) rest s next level left = refl

    kind_grows : (code : Code) (p : PredName) (k : Kind) (g : List Cell) (rest : List Item) (s : Substitution) (next level : ℕ) → Grows (call_kind T code p k g rest s next level)
    kind_grows code p (Rules cs rs) g rest s next level left = demand_grows (broken_call code.types cs cs (arguments g)) p rest left _ _ (rules_grow code p cs rs g rest s next level left)
    kind_grows code p (Shared object suspends) g rest s next level left = ask_grows (pred_asking object g p) (full_name p) rest s next level left
    kind_grows code p Remote g rest s next level left = remote_grows p g (handed_out g) rest s next level left
    kind_grows code p (Wrapped cs renamed) g rest s next level left = hyp (Demands p cs g ∷ Renamed renamed cs g ∷ rest) s next level left

    recover_grows : (among : Bool) (o : Option Substitution) (seer : List ℕ) (r : List Cell) (rest : List Item) (next level : ℕ) (b : List Cell) (ks : List ℕ) → Grows (recover_if T among o seer r rest next level b ks)
    recover_grows true None seer r rest next level b ks left = refl
    recover_grows true (Some s) seer r rest next level b ks left = enter_grows seer r [] (context seer (codes "catch") 3) rest s next level left
    recover_grows false o seer r rest next level b ks left = refl

    caught_grows : (k : ℕ) (seer : List ℕ) (catcher r : List Cell) (rest : List Item) (s : Substitution) (next level : ℕ) (run run' : Run) → Alike run run' → Alike (caught T k seer catcher r rest s next level run) (caught T k seer catcher r rest s next level run')
    caught_grows k seer catcher r rest s next level (Ends Done left) run' e = ap (caught T k seer catcher r rest s next level) e
    caught_grows k seer catcher r rest s next level (Ends (CutTo l) left) run' e = ap (caught T k seer catcher r rest s next level) e
    caught_grows k seer catcher r rest s next level (Ends (Throw b ks) left) run' e =
        subst (λ x. Alike (caught T k seer catcher r rest s next level (Ends (Throw b ks) left)) (caught T k seer catcher r rest s next level x)) (sym e)
        (recover_grows (is_among k ks) (unify s catcher (fresh next b)) seer r rest (next + next_variable b) level b ks left)
    caught_grows k seer catcher r rest s next level (Ends Steps left) run' e = tt
    caught_grows k seer catcher r rest s next level (Ends (Waiting n) left) run' e = ap (caught T k seer catcher r rest s next level) e

    collected_grows : (outer : List (List Cell)) (result : List Cell) (rest : List Item) (s : Substitution) (next level : ℕ) (run run' : Run) → Alike run run' → Alike (collected T outer result rest s next level run) (collected T outer result rest s next level run')
    collected_grows outer result rest s next level (Ends Done left) run' e =
        subst (λ x. Alike (collected T outer result rest s next level (Ends Done left)) (collected T outer result rest s next level x)) (sym e)
        (rest_grows (unify s result (list_term (apart next left.copies))) rest (next + variables_in left.copies) level (with_copies outer left))
    collected_grows outer result rest s next level (Ends (CutTo l) left) run' e = ap (collected T outer result rest s next level) e
    collected_grows outer result rest s next level (Ends (Throw b ks) left) run' e = ap (collected T outer result rest s next level) e
    collected_grows outer result rest s next level (Ends Steps left) run' e = tt
    collected_grows outer result rest s next level (Ends (Waiting n) left) run' e = ap (collected T outer result rest s next level) e

    ended_grows : (e : builtins.End) (ctx : List Cell) (rest : List Item) (level : ℕ) → Grows (ended T e ctx rest level)
    ended_grows (builtins.Succeeds s next) ctx rest level left = hyp rest s next level left
    ended_grows builtins.Fails ctx rest level left = refl
    ended_grows (builtins.Raises kind) ctx rest level left = refl

    builtin_grows : (code : Code) (seer : List ℕ) (b : Builtin) (args : List (List Cell)) (ctx : List Cell) (rest : List Item) (s : Substitution) (next level : ℕ) → Grows (builtin_row T code seer b args ctx rest s next level)
    builtin_grows code seer (OnTerms b) args ctx rest s next level left = ended_grows (builtin b args s next) ctx rest level left
    builtin_grows code seer (Property name) args ctx rest s next level left = fact_grows (has code.types name (first_of args)) rest s next level left
    builtin_grows code seer (Write style) args ctx rest s next level left = write_grows (piece_of code style seer args) ctx rest s next level left
    builtin_grows code seer NewLine args ctx rest s next level left = write_grows (codes "\n") ctx rest s next level left
    builtin_grows code seer (OnFacts f) args ctx rest s next level left = ask_grows (fact_asking code f (seen_from seer (first_of args)) ctx) ctx rest s next level left
    builtin_grows code seer Post args ctx rest s next level left = ask_grows (post_goal seer args ctx) ctx rest s next level left
    builtin_grows code seer Wait args ctx rest s next level left = ask_grows (wait_goal args ctx) ctx rest s next level left

    called_grows : (code : Code) (seer : List ℕ) (o : Option Pred) (g ctx : List Cell) (rest : List Item) (s : Substitution) (next level : ℕ) → Grows (called_row T code seer o g ctx rest s next level)
    called_grows code seer (Some p) g ctx rest s next level left = kind_grows code p.name p.kind (qualified seer p.goals g) rest s next level left
    called_grows code seer None g ctx rest s next level left = refl

    named_grows : (code : Code) (seer : List ℕ) (o : Option Builtin) (f : List ℕ × ℕ) (g : List Cell) (rest : List Item) (s : Substitution) (next level : ℕ) → Grows (named_row T code seer o f g rest s next level)
    named_grows code seer (Some b) f g rest s next level left = builtin_grows code seer b (arguments g) (context seer f.0 f.1) rest s next level left
    named_grows code seer None f g rest s next level left = called_grows code seer (seen_pred code seer f.0 f.1) g (context seer f.0 f.1) rest s next level left

    functor_grows : (code : Code) (seer : List ℕ) (o : Option (List ℕ × ℕ)) (g : List Cell) (rest : List Item) (s : Substitution) (next level : ℕ) → Grows (functor_row T code seer o g rest s next level)
    functor_grows code seer (Some f) g rest s next level left = named_grows code seer (builtin_goal f.0 f.1) f g rest s next level left
    functor_grows code seer None g rest s next level left = refl

    body_grows : (code : Code) (b : Body) (l : ℕ) (rest : List Item) (s : Substitution) (next level : ℕ) → Grows (body_row T code b l rest s next level)
    body_grows code Cut l rest s next level left = charges _ (λ left'. cuts l _ _ (hyp rest s next level left')) left
    body_grows code True l rest s next level left = charges _ (λ left'. hyp rest s next level left') left
    body_grows code Fail l rest s next level left = charges _ (λ left'. refl) left
    body_grows code (Both a b) l rest s next level left = body_grows code a l (Goal b l ∷ rest) s next level left
    body_grows code (Either a b) l rest s next level left =
        charges _ (λ left'. turn _ _ _ (hyp (Goal a l ∷ rest) s next level left') (hyp (Goal b l ∷ rest) s next level)) left
    body_grows code (Choose c t e) l rest s next level left =
        charges _ (λ left'. opens (level + 1) _ _ (turn _ _ _
        (opens (level + 2) _ _ (hyp (Goal c (level + 2) ∷ CutNow (level + 1) ∷ Goal t l ∷ rest) s next (level + 2) left'))
        (hyp (Goal e l ∷ rest) s next (level + 1)))) left
    body_grows code (CallOf seer g extra) l rest s next level left =
        charges _ (λ left'. enter_grows seer g extra (context seer (codes "call") (suc (length extra))) rest s next level left') left
    body_grows code (CatchOf seer g catcher r) l rest s next level left =
        charges _ (λ left'. caught_grows (suc level) seer catcher r rest s next level _ _ (enter_grows seer g [] (context seer (codes "catch") 3) (Leave (suc level) ∷ rest) s next level left')) left
    body_grows code (ThrowOf seer t) l rest s next level left =
        charges _ (λ left'. throw_if_grows (is_unbound (apply s t)) (apply s t) (context seer (codes "throw") 1) rest left') left
    body_grows code (FindAll seer x g result) l rest s next level left =
        charges _ (λ left'. collected_grows left'.copies result rest s next level _ _
        (enter_grows seer g [] (context seer (codes "findall") 3) (Copy x (context seer (codes "findall") 3) ∷ rest) s next level (with_copies [] left'))) left
    body_grows code (Plain seer g) l rest s next level left =
        charges _ (λ left'. functor_grows code seer (functor_of (apply s g)) (apply s g) rest s next level left') left

    again_grows : (a : Asking) (place : ℤ) (rest : List Item) (s : Substitution) (next level : ℕ) → Grows (λ left. charge left (λ left. ask T a (Some place) rest s next level left))
    again_grows a place rest s next level left = charges _ (λ left'. asked_grows a (Some place) rest s next level left'.units left'.copies left'.inputs) left

    module _ (I : Tree) (renamed : (code : Code) (o : Option Pred) (cs : List Check) (g : List Cell) (rest : List Item) (s : Substitution) (next level : ℕ) → Grows (call_renamed I code o cs g rest s next level)) where
      row_grows : (code : Code) (goal : List Cell) (items : List Item) (s : Substitution) (next level : ℕ) → Grows (row T I code goal items s next level)
      row_grows code goal [] s next level left = answer_grows code goal (handed_out (apply s (without_module goal (arguments goal)))) left
      row_grows code goal (Goal b l ∷ rest) s next level left = body_grows code b l rest s next level left
      row_grows code goal (AskFrom a place ∷ rest) s next level left = again_grows a place rest s next level left
      row_grows code goal (CutNow l ∷ rest) s next level left = cuts l _ _ (row_grows code goal rest s next level left)
      row_grows code goal (Leave k ∷ rest) s next level left = row_grows code goal rest s next level left
      row_grows code goal (Exit p cs g ∷ rest) s next level left = exit_grows (broken_exit code.types cs (arguments (apply s g))) p rest left _ _ (row_grows code goal rest s next level left)
      row_grows code goal (Demands p cs g ∷ rest) s next level left = demand_grows (broken_call code.types cs cs (arguments g)) p rest left _ _ (row_grows code goal rest s next level left)
      row_grows code goal (Renamed p cs g ∷ rest) s next level left = renamed code (slice_get code.renamed p) cs g rest s next level left
      row_grows code goal (Copy x ctx ∷ rest) s next level left = copied_grows (handed_out (apply s x)) ctx rest left

  nothing_grows : TreeGrows nothing
  nothing_grows items s next level left = refl

  whole_grows : (T : Tree) → TreeGrows T → (code : Code) (goal : List Cell) → TreeGrows (whole_row T code goal)
  whole_grows T hyp code goal =
      let inside = row_grows T hyp nothing (renamed_grows nothing nothing_grows) code goal in
      row_grows T hyp (row T nothing code goal) (renamed_grows (row T nothing code goal) inside) code goal

  grows_to : (n : ℕ) (code : Code) (goal : List Cell) → TreeGrows (tree_to n code goal)
  grows_to zero code goal items s next level left = tt
  grows_to (suc n) code goal items s next level left = whole_grows (tree_to n code goal) (grows_to n code goal) code goal items s next level left

-- a bound that is enough with more units is enough without them
pub tree_grows : MoreUnitsChangeNothing
unfolding tree
tree_grows = λ code goal items s next level left more.
    let n = suc (left.units + more + length left.inputs) in
    subst (λ r. More more r (tree_to n code goal items s next level (with_more more left)))
    (sym (deep (suc (size left)) (suc (size left)) n (omega arith) (omega arith) code goal items s next level left (omega arith)).same)
    (grows_to more n code goal items s next level left)
