-- What a tree asks of shared objects and of other modules, and what it hands out, is in form.
use Rattle.std.proofs.Common.{◌≡◌, refl, sym, ap, subst, ℕ, zero, suc, ◌+◌, ◌<◌, ◌≤◌, Bool, true, false, List, [], ◌∷◌, map, length, Option, Some, None, arith, ℤ, pos}
use Rattle.std.specs.Prelude.{cond, nat_eq, nat_lt, Result, Ok, Err, codes, if◌then◌else◌, slice_get}
use Rattle.std.proofs.lemmas.Bool.{ltb-false}
use Rattle.std.proofs.lemmas.Option.{slice_get_past}
use Rattle.cp_term.specs.declared.cell.Cell.{Cell}
use Rattle.cp_term.specs.declared.cell.Cell.TheVariants.{Var, Int, Atom, Func}
use Rattle.cp_term.specs.declared.pred_name.PredName.{PredName}
use Rattle.cp_term.specs.Preorder.{arguments}
use Rattle.cp_term.specs.Numbering.{fresh, next_variable, seen_after, canon_from, canon}
use Rattle.cp_term.specs.Substitution.{Substitution, apply}
use Rattle.cp_term.specs.Unification.{unify, unifiable_apart}
use Rattle.cp_goal.specs.Builtins as builtins
use Rattle.cp_goal.specs.Builtins.{builtin, context, error_term, ball}
use Rattle.cp_goal.specs.Errors.{instantiation_error, type_error, domain_error, resource_error}
use Rattle.cp_goal.specs.Lists.{list_term}
use Rattle.cp_call.specs.declared.item.PutReply.TheVariants as put
use Rattle.cp_call.specs.declared.item.Next.{Next}
use Rattle.cp_call.specs.declared.item.Next.TheVariants as request
use Rattle.cp_call.specs.declared.item.Input.{Input}
use Rattle.cp_call.specs.declared.item.Input.TheVariants as input
use Rattle.cp_call.specs.Machine.{IsCallable, IsInForm}
use Rattle.cp_code.specs.declared.assertion.Assertion.{Assertion}
use Rattle.cp_code.specs.declared.pred_info.PredInfo.{PredInfo}
use Rattle.cp_code.specs.declared.pred_kind.PredKind.{PredKind}
use Rattle.cp_code.specs.declared.pred_kind.PredKind.TheVariants as pred_kind
use Rattle.cp_code.specs.Bodies.{Body, Cut, True, Fail, Both, Either, Choose, CallOf, CatchOf, ThrowOf, FindAll, Plain, body_of, Seen, seen_from}
use Rattle.cp_code.specs.Properties.{has}
use Rattle.cp_code.specs.Checks.{Check, broken_call, held, broken_exit}
use Rattle.cp_code.specs.Code.{Code, Clause, Pred, Kind, Rules, Shared, Remote, Wrapped}
use Rattle.cp_code.specs.Goals.{FactGoal, Current, Builtin, OnTerms, Property, Write, NewLine, OnFacts, Post, Wait, builtin_goal, pred_at, seen_pred}
use Rattle.cp_code.specs.Lawful.{NamesObject, NameObjects, IsWithin, AreWithin, AsksAreInForm, ProgramsAskInForm}
use Rattle.cp_code.specs.Programs.{kind_of, pred_of, code_of, objects_of, objects_of-lists}
use Rattle.cp_code.specs.Requests.{needs_concurrent, Asking, Follows, Again, Facts, Fact, Number, Rest, Nothing, Raises, follows, handed_out, handed_over, functor_of, fact_functor, full_name, asking_with, asking_of_kind, asking_of_pred, asking_of_functor, existence_error, system_error, fact_asking, pred_asking, is_create, posted, post_asking, post_of_body, post_goal, wait_goal, answers_of, RemoteFollows, Fails, Throws, Breaks, is_unbound}
use Rattle.cp_code.specs.Tree as trees
use Rattle.cp_code.specs.Tree.{Item, Goal, AskFrom, CutNow, Leave, Copy, Exit, Demands, Renamed, Done, CutTo, Throw, Steps, Waiting, Left, Run, Ends, Tree, in_turn, cut_at, opened, cut_behind, charge_of, read_of, read, with_copies, throw_copy, throw_if, extended, enter_body, enter_goal, enter, rest_if, body_before, clause_if, clauses, behind, demand_if, exit_if, call_rules, rules_of_kind, call_renamed, facts_if, fact_if, followed, asked, ask_or_raise, wrote, write, behind_answers, each_answer, answered, call_remote, is_among, recover_if, caught, apart, variables_in, collected, copied, ended, qualified, call_kind, first_of, piece_of, builtin_row, called_row, named_row, plain_row, body_row, goal_context, context_of_functor, answer, without_module, row, nothing, whole_row, tree_to, tree, next_of}

-- ---- sizes

canon_length : (seen : List ℕ) (cells : List Cell) → length (canon_from seen cells) ≡ length cells
canon_length seen [] = refl
canon_length seen (c ∷ cells) = ap (λ n. suc n) (canon_length (seen_after seen c) cells)

-- at most 4,096 cells
abbrev Small : List Cell → Type 0
Small t = length t ≤ 4096

abbrev IsSmall : Result (List Cell) (List Cell) → Type 0
IsSmall (Ok t) = Small t
IsSmall (Err kind) = Unit {0}

handed_small : (t : List Cell) → IsSmall (handed_out t)
handed_small t = by_size (nat_lt 4096 (length t)) refl
  where
    by_size : (b : Bool) → nat_lt 4096 (length t) ≡ b → IsSmall (cond b (Err (resource_error (codes "term_size"))) (Ok (canon t)))
    by_size true e = tt
    by_size false e =
        let h : length t ≤ 4096 = ltb-false 4096 (length t) e in
        let k : length (canon_from [] t) ≡ length t = canon_length [] t in
        omega arith

-- a context of an error is a name in a module with a number of arguments
abbrev Short : List Cell → Type 0
Short ctx = length ctx ≤ 5

ball_small : (kind ctx : List Cell) → Short ctx → Small (ball kind ctx)
ball_small kind ctx h = by_size (nat_lt 4096 (length (error_term kind ctx))) refl
  where
    by_size : (b : Bool) → nat_lt 4096 (length (error_term kind ctx)) ≡ b → Small (cond b (error_term (resource_error (codes "term_size")) ctx) (canon (error_term kind ctx)))
    by_size true e = omega arith
    by_size false e =
        let h : length (error_term kind ctx) ≤ 4096 = ltb-false 4096 (length (error_term kind ctx)) e in
        let k : length (canon_from [] (error_term kind ctx)) ≡ length (error_term kind ctx) = canon_length [] (error_term kind ctx) in
        omega arith

context_short : (m f : List ℕ) (k : ℕ) → Short (context m f k)
context_short m f k = omega arith

-- ---- a goal that is callable

first_kept : (seen : List ℕ) (t : List Cell) → IsCallable t → IsCallable (canon_from seen t)
first_kept seen [] h = h
first_kept seen (Var v ∷ cells) h = absurd h
first_kept seen (Int i ∷ cells) h = absurd h
first_kept seen (Atom a ∷ cells) h = tt
first_kept seen (Func f k ∷ cells) h = tt

abbrev AreCallable : Result (List Cell) (List Cell) → Type 0
AreCallable (Ok t) = IsCallable t
AreCallable (Err kind) = Unit {0}

handed_callable : (t : List Cell) → IsCallable t → AreCallable (handed_out t)
handed_callable t h = by_size (nat_lt 4096 (length t))
  where
    by_size : (b : Bool) → AreCallable (cond b (Err (resource_error (codes "term_size"))) (Ok (canon t)))
    by_size true = tt
    by_size false = first_kept [] t h

qualified_callable : (m : List ℕ) (marks : List Bool) (t : List Cell) → IsCallable t → IsCallable (qualified m marks t)
qualified_callable m marks [] h = h
qualified_callable m marks (Var v ∷ cells) h = absurd h
qualified_callable m marks (Int i ∷ cells) h = absurd h
qualified_callable m marks (Atom a ∷ cells) h = tt
qualified_callable m marks (Func f k ∷ cells) h = tt

-- ---- questions

module _ (objects : ℕ) (lists : 2 ≤ objects) where
  abbrev AskFits : Asking → Type 0
  AskFits a = (a.object < objects) × Short a.error_context

  abbrev ResultFits : Result Asking (List Cell) → Type 0
  ResultFits (Ok a) = AskFits a
  ResultFits (Err kind) = Unit {0}

  asking_fits : (g : FactGoal) (object : ℕ) (ctx fact : List Cell) (t : Result (List Cell) (List Cell)) → object < objects → Short ctx → ResultFits (asking_with g object ctx fact t)
  asking_fits g object ctx fact (Ok t) lt c = (lt, c)
  asking_fits g object ctx fact (Err kind) lt c = tt

  plain_fits : (b : Bool) (g : FactGoal) (object : ℕ) (ctx : List Cell) (p : PredName) (fact : Seen) → object < objects → Short ctx
      → ResultFits (cond b (Err (domain_error (codes "concurrent") (full_name p))) (asking_with g object ctx fact.goal (handed_over g fact.goal)))
  plain_fits true g object ctx p fact lt c = tt
  plain_fits false g object ctx p fact lt c = asking_fits g object ctx fact.goal (handed_over g fact.goal) lt c

  kind_asking : (g : FactGoal) (fact : Seen) (f : List ℕ × ℕ) (p : PredName) (k : Kind) (ctx : List Cell) → IsWithin objects k → Short ctx → ResultFits (asking_of_kind g fact f p k ctx)
  kind_asking g fact f p (Rules cs rs) ctx w c = tt
  kind_asking g fact f p (Shared object true) ctx w c = asking_fits g object ctx fact.goal (handed_over g fact.goal) w c
  kind_asking g fact f p (Shared object false) ctx w c = plain_fits (needs_concurrent g) g object ctx p fact w c
  kind_asking g fact f p Remote ctx w c = tt
  kind_asking g fact f p (Wrapped cs n) ctx w c = tt

  abbrev PredFits : Option Pred → Type 0
  PredFits None = Unit {0}
  PredFits (Some p) = IsWithin objects p.kind

  got : (preds : List Pred) (n : ℕ) → AreWithin objects preds → PredFits (slice_get preds n)
  got [] n h = subst PredFits (sym (slice_get_past [] n (omega arith))) tt
  got (p ∷ preds) zero h = h.0
  got (p ∷ preds) (suc n) h = got preds n h.1

  at : (code : Code) (o : Option ℕ) → AreWithin objects code.preds → PredFits (pred_at code o)
  at code None h = tt
  at code (Some n) h = got code.preds n h

  pred_fits : (g : FactGoal) (fact : Seen) (f : List ℕ × ℕ) (o : Option Pred) (ctx : List Cell) → PredFits o → Short ctx → ResultFits (asking_of_pred g fact f o ctx)
  pred_fits g fact f (Some p) ctx w c = kind_asking g fact f p.name p.kind ctx w c
  pred_fits g fact f None ctx w c = tt

  functor_fits : (code : Code) (g : FactGoal) (fact : Seen) (o : Option (List ℕ × ℕ)) (ctx : List Cell) → AreWithin objects code.preds → Short ctx → ResultFits (asking_of_functor code g fact o ctx)
  functor_fits code g fact (Some f) ctx w c = pred_fits g fact f (seen_pred code fact.seer f.0 f.1) ctx (at code (code.sees fact.seer f.0 f.1) w) c
  functor_fits code g fact None ctx w c = tt

  posted_fits : (id ctx : List Cell) (t : Result (List Cell) (List Cell)) → Short ctx → ResultFits (post_asking id ctx t)
  posted_fits id ctx (Ok goal) c = (omega arith, c)
  posted_fits id ctx (Err kind) c = tt

  checked_fits : (a b d : Bool) (x y z : List Cell) (r : Result Asking (List Cell)) → ResultFits r → ResultFits (cond a (cond b (cond d r (Err x)) (Err y)) (Err z))
  checked_fits true true true x y z r h = h
  checked_fits true true false x y z r h = tt
  checked_fits true false d x y z r h = tt
  checked_fits false b d x y z r h = tt

  body_fits : (o : Option Body) (seen : Seen) (m : List ℕ) (goal engine thread id ctx : List Cell) → Short ctx → ResultFits (post_of_body o seen m goal engine thread id ctx)
  body_fits (Some body) seen m goal engine thread id ctx c =
      checked_fits (is_create engine) (is_create thread) (is_unbound id) _ _ _ (post_asking id ctx (handed_out (posted m goal))) (posted_fits id ctx (handed_out (posted m goal)) c)
  body_fits None seen m goal engine thread id ctx c = tt

  unbound_fits : (b : Bool) (seen : Seen) (m : List ℕ) (goal engine thread id ctx : List Cell) → Short ctx → ResultFits (cond b (Err instantiation_error) (post_of_body (body_of seen.seer seen.goal) seen m goal engine thread id ctx))
  unbound_fits true seen m goal engine thread id ctx c = tt
  unbound_fits false seen m goal engine thread id ctx c = body_fits (body_of seen.seer seen.goal) seen m goal engine thread id ctx c

  post_fits : (m : List ℕ) (args : List (List Cell)) (ctx : List Cell) → Short ctx → ResultFits (post_goal m args ctx)
  post_fits m (goal ∷ engine ∷ thread ∷ id ∷ []) ctx c = unbound_fits (is_unbound ((seen_from m goal).goal)) (seen_from m goal) m goal engine thread id ctx c
  post_fits m args ctx c = tt

  wait_fits : (args : List (List Cell)) (ctx : List Cell) → Short ctx → ResultFits (wait_goal args ctx)
  wait_fits ((Var v ∷ cells) ∷ []) ctx c = tt
  wait_fits ((Int (pos (suc n)) ∷ cells) ∷ []) ctx c = (omega arith, c)
  wait_fits ((Int i ∷ cells) ∷ []) ctx c = tt
  wait_fits (t ∷ []) ctx c = tt
  wait_fits args ctx c = tt

  -- ---- goals and ends

  abbrev ItemsFit : List Item → Type 0
  ItemsFit [] = Unit {0}
  ItemsFit (AskFrom a place ∷ rest) = AskFits a × ItemsFit rest
  ItemsFit (Copy x ctx ∷ rest) = Short ctx × ItemsFit rest
  ItemsFit (i ∷ rest) = ItemsFit rest

  abbrev RunFits : Run → Type 0
  RunFits (Ends (Throw b ks) left) = Small b
  RunFits (Ends (Waiting n) left) = IsInForm objects n
  RunFits (Ends e left) = Unit {0}

  fits_behind : (p : PredName) (cs : List Check) (g : List Cell) (rest : List Item) → ItemsFit rest → ItemsFit (behind p cs g rest)
  fits_behind p [] g rest h = h
  fits_behind p (c ∷ cs) g rest h = h

  exit_ends : (o : Option ℕ) (p : PredName) (rest : List Item) (left : Left) (r : Run) → RunFits r → RunFits (exit_if o p rest left r)
  exit_ends (Some k) p rest left r e = omega arith
  exit_ends None p rest left r e = e

  demand_ends : (o : Option ℕ) (p : PredName) (rest : List Item) (left : Left) (r : Run) → RunFits r → RunFits (demand_if o p rest left r)
  demand_ends (Some k) p rest left r e = omega arith
  demand_ends None p rest left r e = e

  thrown_ends : (t : Result (List Cell) (List Cell)) (ctx : List Cell) (rest : List Item) (left : Left) → IsSmall t → Short ctx → RunFits (throw_copy t ctx rest left)
  thrown_ends (Ok t) ctx rest left s c = s
  thrown_ends (Err kind) ctx rest left s c = ball_small kind ctx c

  throw_if_ends : (b : Bool) (t ctx : List Cell) (rest : List Item) (left : Left) → Short ctx → RunFits (throw_if b t ctx rest left)
  throw_if_ends true t ctx rest left c = ball_small instantiation_error ctx c
  throw_if_ends false t ctx rest left c = thrown_ends (handed_out t) ctx rest left (handed_small t) c

  copied_ends : (t : Result (List Cell) (List Cell)) (ctx : List Cell) (rest : List Item) (left : Left) → Short ctx → RunFits (copied t ctx rest left)
  copied_ends (Ok t) ctx rest left c = tt
  copied_ends (Err kind) ctx rest left c = ball_small kind ctx c

  behind_ends : (after : RemoteFollows) (ctx : List Cell) (rest : List Item) (left : Left) → Short ctx → RunFits (behind_answers after ctx rest left)
  behind_ends Fails ctx rest left c = tt
  behind_ends (Throws t) ctx rest left c = thrown_ends (handed_out t) ctx rest left (handed_small t) c
  behind_ends (Breaks kind) ctx rest left c = ball_small kind ctx c

  turn : (r : Run) (k : Left → Run) → RunFits r → ((left : Left) → RunFits (k left)) → RunFits (in_turn r k)
  turn (Ends Done left) k h g = g left
  turn (Ends (CutTo l) left) k h g = tt
  turn (Ends (Throw b ks) left) k h g = h
  turn (Ends Steps left) k h g = tt
  turn (Ends (Waiting n) left) k h g = h

  cut_at_ends : (t : Bool) (l : ℕ) (left : Left) → RunFits (cut_at t l left)
  cut_at_ends true l left = tt
  cut_at_ends false l left = tt

  opens : (level : ℕ) (r : Run) → RunFits r → RunFits (opened level r)
  opens level (Ends Done left) h = tt
  opens level (Ends (CutTo l) left) h = cut_at_ends (nat_eq l level) l left
  opens level (Ends (Throw b ks) left) h = h
  opens level (Ends Steps left) h = tt
  opens level (Ends (Waiting n) left) h = h

  cuts : (level : ℕ) (r : Run) → RunFits r → RunFits (cut_behind level r)
  cuts level (Ends Done left) h = tt
  cuts level (Ends (CutTo l) left) h = tt
  cuts level (Ends (Throw b ks) left) h = h
  cuts level (Ends Steps left) h = tt
  cuts level (Ends (Waiting n) left) h = h

  charges_at : (units : ℕ) (left : Left) (k : Left → Run) → ((left' : Left) → RunFits (k left')) → RunFits (charge_of units left k)
  charges_at zero left k h = tt
  charges_at (suc units) left k h = h _

  reads_at : (inputs : List Input) (due : Next) (left : Left) (k : Input → Left → Run) → IsInForm objects due → ((i : Input) (left' : Left) → RunFits (k i left')) → RunFits (read_of inputs due left k)
  reads_at [] due left k w h = w
  reads_at (i ∷ inputs) due left k w h = h i _

  goal_context_short : (m : List ℕ) (o : Option (List ℕ × ℕ)) → Short (context_of_functor m o)
  goal_context_short m (Some f) = context_short m f.0 f.1
  goal_context_short m None = context_short m (codes "call") 1

  answer_ends : (code : Code) (goal : List Cell) (t : Result (List Cell) (List Cell)) (left : Left) → IsSmall t → RunFits (answer code goal t left)
  answer_ends code goal (Ok t) left s = reads_at left.inputs _ left _ s (λ i left'. tt)
  answer_ends code goal (Err kind) left s =
      ball_small kind (goal_context code (seen_from code.first goal)) (goal_context_short ((seen_from code.first goal).seer) (functor_of ((seen_from code.first goal).goal)))

  abbrev EndWell : Tree → Type 0
  EndWell T = (items : List Item) (s : Substitution) (next level : ℕ) (left : Left) → ItemsFit items → RunFits (T items s next level left)

  fits_body : (b : Option Body) (next level : ℕ) (rest : List Item) → ItemsFit rest → ItemsFit (body_before b next level rest)
  fits_body None next level rest h = h
  fits_body (Some b) next level rest h = h

  module _ (T : Tree) (hyp : EndWell T) where
    enter_body_ends : (b : Option Body) (g ctx : List Cell) (rest : List Item) (s : Substitution) (next level : ℕ) (left : Left) → Short ctx → ItemsFit rest → RunFits (enter_body T b g ctx rest s next level left)
    enter_body_ends None g ctx rest s next level left c h = ball_small (type_error (codes "callable") g) ctx c
    enter_body_ends (Some b) g ctx rest s next level left c h = opens (suc level) _ (hyp (Goal b (suc level) ∷ rest) s next (suc level) left h)

    enter_goal_ends : (seer : List ℕ) (g : Result (List Cell) (List Cell)) (ctx : List Cell) (rest : List Item) (s : Substitution) (next level : ℕ) (left : Left) → Short ctx → ItemsFit rest → RunFits (enter_goal T seer g ctx rest s next level left)
    enter_goal_ends seer (Ok g) ctx rest s next level left c h = enter_body_ends (body_of seer g) g ctx rest s next level left c h
    enter_goal_ends seer (Err kind) ctx rest s next level left c h = ball_small kind ctx c

    enter_if_ends : (unbound : Bool) (g : Seen) (extra : List (List Cell)) (ctx : List Cell) (rest : List Item) (s : Substitution) (next level : ℕ) (left : Left) → Short ctx → ItemsFit rest
        → RunFits (if unbound then trees.raise instantiation_error ctx rest left else enter_goal T g.seer (extended g.goal extra) ctx rest s next level left)
    enter_if_ends true g extra ctx rest s next level left c h = ball_small instantiation_error ctx c
    enter_if_ends false g extra ctx rest s next level left c h = enter_goal_ends g.seer (extended g.goal extra) ctx rest s next level left c h

    enter_ends : (seer : List ℕ) (g : List Cell) (extra : List (List Cell)) (ctx : List Cell) (rest : List Item) (s : Substitution) (next level : ℕ) (left : Left) → Short ctx → ItemsFit rest → RunFits (enter T seer g extra ctx rest s next level left)
    enter_ends seer g extra ctx rest s next level left c h =
        enter_if_ends (is_unbound ((seen_from seer (apply s g)).goal)) (seen_from seer (apply s g)) (map (apply s) extra) ctx rest s next level left c h

    rest_ends : (o : Option Substitution) (rest : List Item) (next level : ℕ) (left : Left) → ItemsFit rest → RunFits (rest_if T o rest next level left)
    rest_ends None rest next level left h = tt
    rest_ends (Some s) rest next level left h = hyp rest s next level left h

    clause_ends : (o : Option Substitution) (c : Clause) (rest : List Item) (next level : ℕ) (left : Left) → ItemsFit rest → RunFits (clause_if T o c rest next level left)
    clause_ends None c rest next level left h = tt
    clause_ends (Some s) c rest next level left h = hyp (body_before c.body next level rest) s (next + c.variables) level left (fits_body c.body next level rest h)

    clauses_end : (cs : List Clause) (g : List Cell) (rest : List Item) (s : Substitution) (next level : ℕ) (left : Left) → ItemsFit rest → RunFits (clauses T cs g rest s next level left)
    clauses_end [] g rest s next level left h = tt
    clauses_end (c ∷ cs) g rest s next level left h =
        turn _ _ (clause_ends (unify s g (fresh next c.head)) c rest next level left h) (λ left'. clauses_end cs g rest s next level left' h)

    rules_end : (code : Code) (p : PredName) (cs : List Check) (rs : List Clause) (g : List Cell) (rest : List Item) (s : Substitution) (next level : ℕ) (left : Left) → ItemsFit rest → RunFits (call_rules T code p cs rs g rest s next level left)
    rules_end code p cs rs g rest s next level left h =
        opens (suc level) _ (clauses_end rs g (behind p (held code.types cs (arguments g)) g rest) s next (suc level) left (fits_behind p (held code.types cs (arguments g)) g rest h))

    renamed_ends : (code : Code) (o : Option Pred) (cs : List Check) (g : List Cell) (rest : List Item) (s : Substitution) (next level : ℕ) (left : Left) → ItemsFit rest → RunFits (call_renamed T code o cs g rest s next level left)
    renamed_ends code (Some p) cs g rest s next level left h = rules_end code p.name cs (rules_of_kind p.kind) g rest s next level left h
    renamed_ends code None cs g rest s next level left h = tt

    facts_end : (o : Option Substitution) (a : Asking) (place : ℤ) (rest : List Item) (s : Substitution) (next next' level : ℕ) (left : Left) → AskFits a → ItemsFit rest → RunFits (facts_if T o a place rest s next next' level left)
    facts_end None a place rest s next next' level left w h = tt
    facts_end (Some s') a place rest s next next' level left w h =
        turn _ _ (hyp rest s' next' level left h) (λ left'. hyp (AskFrom a place ∷ rest) s next level left' (w, h))

    fact_ends : (b : Bool) (rest : List Item) (s : Substitution) (next level : ℕ) (left : Left) → ItemsFit rest → RunFits (fact_if T b rest s next level left)
    fact_ends true rest s next level left h = hyp rest s next level left h
    fact_ends false rest s next level left h = tt

    followed_ends : (f : Follows) (a : Asking) (rest : List Item) (s : Substitution) (next level : ℕ) (left : Left) (k : Left → Run) → AskFits a → ItemsFit rest → RunFits (k left) → RunFits (followed T f a rest s next level left k)
    followed_ends Again a rest s next level left k w h e = e
    followed_ends (Facts place pattern fact) a rest s next level left k w h e = facts_end (unify s pattern (fresh next fact)) a place rest s next (next + next_variable fact) level left w h
    followed_ends (Fact pattern fact) a rest s next level left k w h e = fact_ends (unifiable_apart pattern fact) rest s next level left h
    followed_ends (Number number place) a rest s next level left k w h e = rest_ends (unify s number (Int place ∷ [])) rest next level left h
    followed_ends Rest a rest s next level left k w h e = hyp rest s next level left h
    followed_ends Nothing a rest s next level left k w h e = tt
    followed_ends (Raises kind) a rest s next level left k w h e = ball_small kind a.error_context w.1

    asked_ends : (a : Asking) (after : Option ℤ) (rest : List Item) (s : Substitution) (next level units : ℕ) (copies : List (List Cell)) (inputs : List Input) → AskFits a → ItemsFit rest → RunFits (asked T a after rest s next level units copies inputs)
    asked_ends a after rest s next level units copies [] w h = w.0
    asked_ends a after rest s next level units copies (input.Reply r ∷ inputs) w h =
        followed_ends (follows a.manner r) a rest s next level _ _ w h (asked_ends a after rest s next level units copies inputs w h)
    asked_ends a after rest s next level units copies (input.Put r ∷ inputs) w h = tt
    asked_ends a after rest s next level units copies (input.Remote r ∷ inputs) w h = tt
    asked_ends a after rest s next level units copies (input.More ∷ inputs) w h = tt

    ask_ends : (a : Result Asking (List Cell)) (ctx : List Cell) (rest : List Item) (s : Substitution) (next level : ℕ) (left : Left) → ResultFits a → Short ctx → ItemsFit rest → RunFits (ask_or_raise T a ctx rest s next level left)
    ask_ends (Ok a) ctx rest s next level left w c h = asked_ends a None rest s next level left.units left.copies left.inputs w h
    ask_ends (Err kind) ctx rest s next level left w c h = ball_small kind ctx c

    wrote_ends : (ctx : List Cell) (rest : List Item) (s : Substitution) (next level : ℕ) (i : Input) (left : Left) → Short ctx → ItemsFit rest → RunFits (wrote T ctx rest s next level i left)
    wrote_ends ctx rest s next level (input.Put put.Wrote) left c h = hyp rest s next level left h
    wrote_ends ctx rest s next level (input.Put put.Failed) left c h = ball_small (system_error (codes "output")) ctx c
    wrote_ends ctx rest s next level (input.Reply r) left c h = tt
    wrote_ends ctx rest s next level (input.Remote r) left c h = tt
    wrote_ends ctx rest s next level input.More left c h = tt

    write_if_ends : (large : Bool) (bytes : List ℕ) (ctx : List Cell) (rest : List Item) (s : Substitution) (next level : ℕ) (left : Left) → Short ctx → ItemsFit rest
        → RunFits (if large then trees.raise (resource_error (codes "output_piece")) ctx rest left else read (request.Put bytes) left (wrote T ctx rest s next level))
    write_if_ends true bytes ctx rest s next level left c h = ball_small (resource_error (codes "output_piece")) ctx c
    write_if_ends false bytes ctx rest s next level left c h = reads_at left.inputs _ left _ tt (λ i left'. wrote_ends ctx rest s next level i left' c h)

    write_ends : (bytes : List ℕ) (ctx : List Cell) (rest : List Item) (s : Substitution) (next level : ℕ) (left : Left) → Short ctx → ItemsFit rest → RunFits (write T bytes ctx rest s next level left)
    write_ends bytes ctx rest s next level left c h = write_if_ends (nat_lt 65535 (length bytes)) bytes ctx rest s next level left c h

    each_ends : (answers : List (List Cell)) (after : RemoteFollows) (g ctx : List Cell) (rest : List Item) (s : Substitution) (next level : ℕ) (left : Left) → Short ctx → ItemsFit rest → RunFits (each_answer T answers after g ctx rest s next level left)
    each_ends [] after g ctx rest s next level left c h = behind_ends after ctx rest left c
    each_ends (a ∷ answers) after g ctx rest s next level left c h =
        turn _ _ (rest_ends (unify s g (fresh next a)) rest (next + next_variable a) level left h) (λ left'. each_ends answers after g ctx rest s next level left' c h)

    answered_ends : (p : PredName) (g : List Cell) (rest : List Item) (s : Substitution) (next level : ℕ) (i : Input) (left : Left) → ItemsFit rest → RunFits (answered T p g rest s next level i left)
    answered_ends p g rest s next level (input.Remote r) left h =
        each_ends ((answers_of p r).answers) ((answers_of p r).behind) g (full_name p) rest s next level left (context_short p.module p.name p.arity) h
    answered_ends p g rest s next level (input.Reply r) left h = tt
    answered_ends p g rest s next level (input.Put r) left h = tt
    answered_ends p g rest s next level input.More left h = tt

    remote_ends : (p : PredName) (g : List Cell) (t : Result (List Cell) (List Cell)) (rest : List Item) (s : Substitution) (next level : ℕ) (left : Left) → IsSmall t → AreCallable t → ItemsFit rest → RunFits (call_remote T p g t rest s next level left)
    remote_ends p g (Ok t) rest s next level left small callable h =
        reads_at left.inputs _ left _ (record { callable = callable; size = small; limit = refl; looks = refl }) (λ i left'. answered_ends p g rest s next level i left' h)
    remote_ends p g (Err kind) rest s next level left small callable h = ball_small kind (full_name p) (context_short p.module p.name p.arity)

    own_asking : (object : ℕ) (g : List Cell) (p : PredName) → object < objects → ResultFits (pred_asking object g p)
    own_asking object g p lt = asking_fits Current object (full_name p) g (handed_out g) lt (context_short p.module p.name p.arity)

    kind_ends : (code : Code) (p : PredName) (k : Kind) (g : List Cell) (rest : List Item) (s : Substitution) (next level : ℕ) (left : Left) → IsWithin objects k → IsCallable g → ItemsFit rest → RunFits (call_kind T code p k g rest s next level left)
    kind_ends code p (Rules cs rs) g rest s next level left w callable h = demand_ends (broken_call code.types cs cs (arguments g)) p rest left _ (rules_end code p cs rs g rest s next level left h)
    kind_ends code p (Shared object suspends) g rest s next level left w callable h =
        ask_ends (pred_asking object g p) (full_name p) rest s next level left (own_asking object g p w) (context_short p.module p.name p.arity) h
    kind_ends code p Remote g rest s next level left w callable h = remote_ends p g (handed_out g) rest s next level left (handed_small g) (handed_callable g callable) h
    kind_ends code p (Wrapped cs renamed) g rest s next level left w callable h = hyp (Demands p cs g ∷ Renamed renamed cs g ∷ rest) s next level left h

    recover_ends : (among : Bool) (o : Option Substitution) (seer : List ℕ) (r : List Cell) (rest : List Item) (next level : ℕ) (b : List Cell) (ks : List ℕ) (left : Left) → Small b → ItemsFit rest → RunFits (recover_if T among o seer r rest next level b ks left)
    recover_ends true None seer r rest next level b ks left small h = small
    recover_ends true (Some s) seer r rest next level b ks left small h = enter_ends seer r [] (context seer (codes "catch") 3) rest s next level left (context_short seer (codes "catch") 3) h
    recover_ends false o seer r rest next level b ks left small h = small

    caught_ends : (k : ℕ) (seer : List ℕ) (catcher r : List Cell) (rest : List Item) (s : Substitution) (next level : ℕ) (run : Run) → ItemsFit rest → RunFits run → RunFits (caught T k seer catcher r rest s next level run)
    caught_ends k seer catcher r rest s next level (Ends Done left) h e = tt
    caught_ends k seer catcher r rest s next level (Ends (CutTo l) left) h e = tt
    caught_ends k seer catcher r rest s next level (Ends (Throw b ks) left) h e =
        recover_ends (is_among k ks) (unify s catcher (fresh next b)) seer r rest (next + next_variable b) level b ks left e h
    caught_ends k seer catcher r rest s next level (Ends Steps left) h e = tt
    caught_ends k seer catcher r rest s next level (Ends (Waiting n) left) h e = e

    collected_ends : (outer : List (List Cell)) (result : List Cell) (rest : List Item) (s : Substitution) (next level : ℕ) (run : Run) → ItemsFit rest → RunFits run → RunFits (collected T outer result rest s next level run)
    collected_ends outer result rest s next level (Ends Done left) h e =
        rest_ends (unify s result (list_term (apart next left.copies))) rest (next + variables_in left.copies) level (with_copies outer left) h
    collected_ends outer result rest s next level (Ends (CutTo l) left) h e = tt
    collected_ends outer result rest s next level (Ends (Throw b ks) left) h e = e
    collected_ends outer result rest s next level (Ends Steps left) h e = tt
    collected_ends outer result rest s next level (Ends (Waiting n) left) h e = e

    ended_ends : (e : builtins.End) (ctx : List Cell) (rest : List Item) (level : ℕ) (left : Left) → Short ctx → ItemsFit rest → RunFits (ended T e ctx rest level left)
    ended_ends (builtins.Succeeds s next) ctx rest level left c h = hyp rest s next level left h
    ended_ends builtins.Fails ctx rest level left c h = tt
    ended_ends (builtins.Raises kind) ctx rest level left c h = ball_small kind ctx c

    module _ (code : Code) (within : AreWithin objects code.preds) where
      builtin_ends : (seer : List ℕ) (b : Builtin) (args : List (List Cell)) (ctx : List Cell) (rest : List Item) (s : Substitution) (next level : ℕ) (left : Left) → Short ctx → ItemsFit rest → RunFits (builtin_row T code seer b args ctx rest s next level left)
      builtin_ends seer (OnTerms b) args ctx rest s next level left c h = ended_ends (builtin b args s next) ctx rest level left c h
      builtin_ends seer (Property name) args ctx rest s next level left c h = fact_ends (has code.types name (first_of args)) rest s next level left h
      builtin_ends seer (Write style) args ctx rest s next level left c h = write_ends (piece_of code style seer args) ctx rest s next level left c h
      builtin_ends seer NewLine args ctx rest s next level left c h = write_ends (codes "\n") ctx rest s next level left c h
      builtin_ends seer (OnFacts f) args ctx rest s next level left c h =
          ask_ends (fact_asking code f (seen_from seer (first_of args)) ctx) ctx rest s next level left
          (functor_fits code f (seen_from seer (first_of args)) (fact_functor ((seen_from seer (first_of args)).goal)) ctx within c) c h
      builtin_ends seer Post args ctx rest s next level left c h = ask_ends (post_goal seer args ctx) ctx rest s next level left (post_fits seer args ctx c) c h
      builtin_ends seer Wait args ctx rest s next level left c h = ask_ends (wait_goal args ctx) ctx rest s next level left (wait_fits args ctx c) c h

      called_ends : (seer : List ℕ) (o : Option Pred) (g ctx : List Cell) (rest : List Item) (s : Substitution) (next level : ℕ) (left : Left) → PredFits o → IsCallable g → Short ctx → ItemsFit rest → RunFits (called_row T code seer o g ctx rest s next level left)
      called_ends seer (Some p) g ctx rest s next level left w callable c h = kind_ends code p.name p.kind (qualified seer p.goals g) rest s next level left w (qualified_callable seer p.goals g callable) h
      called_ends seer None g ctx rest s next level left w callable c h = ball_small (existence_error (codes "procedure") ctx) ctx c

      named_ends : (seer : List ℕ) (o : Option Builtin) (f : List ℕ × ℕ) (g : List Cell) (rest : List Item) (s : Substitution) (next level : ℕ) (left : Left) → IsCallable g → ItemsFit rest → RunFits (named_row T code seer o f g rest s next level left)
      named_ends seer (Some b) f g rest s next level left callable h = builtin_ends seer b (arguments g) (context seer f.0 f.1) rest s next level left (context_short seer f.0 f.1) h
      named_ends seer None f g rest s next level left callable h =
          called_ends seer (seen_pred code seer f.0 f.1) g (context seer f.0 f.1) rest s next level left (at code (code.sees seer f.0 f.1) within) callable (context_short seer f.0 f.1) h

      plain_ends : (seer : List ℕ) (g : List Cell) (rest : List Item) (s : Substitution) (next level : ℕ) (left : Left) → ItemsFit rest → RunFits (plain_row T code seer g rest s next level left)
      plain_ends seer [] rest s next level left h = tt
      plain_ends seer (Var v ∷ cells) rest s next level left h = tt
      plain_ends seer (Int i ∷ cells) rest s next level left h = tt
      plain_ends seer (Atom a ∷ cells) rest s next level left h = named_ends seer (builtin_goal a 0) (a, 0) (Atom a ∷ cells) rest s next level left tt h
      plain_ends seer (Func f k ∷ cells) rest s next level left h = named_ends seer (builtin_goal f k) (f, k) (Func f k ∷ cells) rest s next level left tt h

      body_ends : (b : Body) (l : ℕ) (rest : List Item) (s : Substitution) (next level : ℕ) (left : Left) → ItemsFit rest → RunFits (body_row T code b l rest s next level left)
      body_ends Cut l rest s next level left h = charges_at left.units left _ (λ left'. cuts l _ (hyp rest s next level left' h))
      body_ends True l rest s next level left h = charges_at left.units left _ (λ left'. hyp rest s next level left' h)
      body_ends Fail l rest s next level left h = charges_at left.units left _ (λ left'. tt)
      body_ends (Both a b) l rest s next level left h = body_ends a l (Goal b l ∷ rest) s next level left h
      body_ends (Either a b) l rest s next level left h =
          charges_at left.units left _ (λ left'. turn _ _ (hyp (Goal a l ∷ rest) s next level left' h) (λ left''. hyp (Goal b l ∷ rest) s next level left'' h))
      body_ends (Choose c t e) l rest s next level left h =
          charges_at left.units left _ (λ left'. opens (level + 1) _ (turn _ _
          (opens (level + 2) _ (hyp (Goal c (level + 2) ∷ CutNow (level + 1) ∷ Goal t l ∷ rest) s next (level + 2) left' h))
          (λ left''. hyp (Goal e l ∷ rest) s next (level + 1) left'' h)))
      body_ends (CallOf seer g extra) l rest s next level left h =
          charges_at left.units left _ (λ left'. enter_ends seer g extra (context seer (codes "call") (suc (length extra))) rest s next level left' (context_short seer (codes "call") (suc (length extra))) h)
      body_ends (CatchOf seer g catcher r) l rest s next level left h =
          charges_at left.units left _ (λ left'. caught_ends (suc level) seer catcher r rest s next level _ h
          (enter_ends seer g [] (context seer (codes "catch") 3) (Leave (suc level) ∷ rest) s next level left' (context_short seer (codes "catch") 3) h))
      body_ends (ThrowOf seer t) l rest s next level left h =
          charges_at left.units left _ (λ left'. throw_if_ends (is_unbound (apply s t)) (apply s t) (context seer (codes "throw") 1) rest left' (context_short seer (codes "throw") 1))
      body_ends (FindAll seer x g result) l rest s next level left h =
          charges_at left.units left _ (λ left'. collected_ends left'.copies result rest s next level _ h
          (enter_ends seer g [] (context seer (codes "findall") 3) (Copy x (context seer (codes "findall") 3) ∷ rest) s next level (with_copies [] left') (context_short seer (codes "findall") 3) (context_short seer (codes "findall") 3, h)))
      body_ends (Plain seer g) l rest s next level left h = charges_at left.units left _ (λ left'. plain_ends seer (apply s g) rest s next level left' h)

      module _ (I : Tree) (renamed : (o : Option Pred) (cs : List Check) (g : List Cell) (rest : List Item) (s : Substitution) (next level : ℕ) (left : Left) → ItemsFit rest → RunFits (call_renamed I code o cs g rest s next level left)) where
        row_ends : (goal : List Cell) (items : List Item) (s : Substitution) (next level : ℕ) (left : Left) → ItemsFit items → RunFits (row T I code goal items s next level left)
        row_ends goal [] s next level left h = answer_ends code goal (handed_out (apply s (without_module goal (arguments goal)))) left (handed_small (apply s (without_module goal (arguments goal))))
        row_ends goal (Goal b l ∷ rest) s next level left h = body_ends b l rest s next level left h
        row_ends goal (AskFrom a place ∷ rest) s next level left h = charges_at left.units left _ (λ left'. asked_ends a (Some place) rest s next level left'.units left'.copies left'.inputs h.0 h.1)
        row_ends goal (CutNow l ∷ rest) s next level left h = cuts l _ (row_ends goal rest s next level left h)
        row_ends goal (Leave k ∷ rest) s next level left h = row_ends goal rest s next level left h
        row_ends goal (Exit p cs g ∷ rest) s next level left h = exit_ends (broken_exit code.types cs (arguments (apply s g))) p rest left _ (row_ends goal rest s next level left h)
        row_ends goal (Demands p cs g ∷ rest) s next level left h = demand_ends (broken_call code.types cs cs (arguments g)) p rest left _ (row_ends goal rest s next level left h)
        row_ends goal (Renamed p cs g ∷ rest) s next level left h = renamed (slice_get code.renamed p) cs g rest s next level left h
        row_ends goal (Copy x ctx ∷ rest) s next level left h = copied_ends (handed_out (apply s x)) ctx rest left h.0

  nothing_ends : EndWell nothing
  nothing_ends items s next level left h = tt

  module _ (code : Code) (within : AreWithin objects code.preds) where
    whole_ends : (T : Tree) → EndWell T → (goal : List Cell) → EndWell (whole_row T code goal)
    whole_ends T hyp goal =
        let inside = row_ends T hyp code within nothing (renamed_ends nothing nothing_ends code) goal in
        row_ends T hyp code within (row T nothing code goal) (renamed_ends (row T nothing code goal) inside code) goal

    ends_to : (n : ℕ) (goal : List Cell) → EndWell (tree_to n code goal)
    ends_to zero goal items s next level left h = tt
    ends_to (suc n) goal items s next level left h = whole_ends (tree_to n code goal) (ends_to n goal) goal items s next level left h

    tree_fits : (goal : List Cell) → EndWell (tree code goal)
    unfolding tree
    tree_fits goal items s next level left h = ends_to (suc (left.units + length left.inputs)) goal items s next level left h

    end_fits : (r : Run) → RunFits r → IsInForm objects (next_of r)
    end_fits (Ends Done left) h = tt
    end_fits (Ends (CutTo l) left) h = tt
    end_fits (Ends (Throw b ks) left) h = h
    end_fits (Ends Steps left) h = tt
    end_fits (Ends (Waiting n) left) h = h

pub asks_are_in_form : AsksAreInForm
asks_are_in_form objects lists code within goal inputs =
    end_fits objects lists code within _
    (enter_ends objects lists (tree code goal) (tree_fits objects lists code within goal) code.first goal [] (context code.first (codes "call") 1) [] [] (next_variable goal) 0
    (record { units = code.budget; inputs = inputs; copies = [] }) (context_short code.first (codes "call") 1) tt)

-- ---- a program

named_kind : (objects : ℕ) (k : PredKind) (cs : List Check) (rules : List Clause) → NamesObject objects k → IsWithin objects (kind_of cs rules k)
named_kind objects pred_kind.Rules cs rules h = tt
named_kind objects (pred_kind.Concurrent n) cs rules h = h
named_kind objects (pred_kind.Plain n) cs rules h = h
named_kind objects (pred_kind.Remote n) cs rules h = tt

named_preds : (objects : ℕ) (assertions : List Assertion) (preds : List PredInfo) → NameObjects objects preds → AreWithin objects (map (pred_of assertions) preds)
named_preds objects assertions [] h = tt
named_preds objects assertions (q ∷ preds) h = (named_kind objects q.kind _ _ h.0, named_preds objects assertions preds h.1)

pub programs_ask_in_form : ProgramsAskInForm
programs_ask_in_form p lawful budget goal inputs =
    asks_are_in_form (objects_of p) (objects_of-lists p) (code_of p budget) (named_preds (objects_of p) p.checks p.preds lawful.objects) goal inputs
