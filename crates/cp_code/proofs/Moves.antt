-- Each move of the machine keeps what its state stands for.
use Rattle.cp_code.specs.Requests.{pred_asking}
use Rattle.std.proofs.Common.{subst, ◌≡◌, ℕ, zero, suc, ◌+◌, ◌<◌, ◌≤◌, Bool, true, false, List, [], ◌∷◌, map, length, Option, Some, None, refl, ap, ◌∙◌, arith, ℤ}
use Rattle.std.specs.Prelude.{nat_eq, nat_lt, Result, Ok, Err, codes, if◌then◌else◌}
use Rattle.cp_term.specs.declared.cell.Cell.{Cell}
use Rattle.cp_term.specs.declared.cell.Cell.TheVariants.{Int}
use Rattle.cp_term.specs.declared.pred_name.PredName.{PredName}
use Rattle.cp_term.specs.Preorder.{arguments}
use Rattle.cp_term.specs.Numbering.{fresh, next_variable}
use Rattle.cp_term.specs.Substitution.{Substitution, apply}
use Rattle.cp_term.specs.Unification.{unify, unifiable_apart}
use Rattle.cp_goal.specs.Builtins as builtins
use Rattle.cp_goal.specs.Builtins.{builtin, context}
use Rattle.cp_goal.specs.Errors.{instantiation_error, resource_error}
use Rattle.cp_goal.specs.Lists.{list_term}
use Rattle.cp_call.specs.declared.item.PutReply.TheVariants as put
use Rattle.cp_call.specs.declared.item.Next.{Next}
use Rattle.cp_call.specs.declared.item.Next.TheVariants as request
use Rattle.cp_call.specs.declared.item.Input.{Input}
use Rattle.cp_call.specs.declared.item.Input.TheVariants as input
use Rattle.cp_code.specs.Bodies.{Body, Cut, True, Fail, Both, Either, Choose, CallOf, CatchOf, ThrowOf, FindAll, Plain, body_of, Seen, seen_from}
use Rattle.cp_code.specs.Properties.{has}
use Rattle.cp_code.specs.Checks.{Check, held}
use Rattle.cp_code.specs.Code.{Code, Clause, Pred}
use Rattle.cp_code.specs.Goals.{Builtin, OnTerms, Property, Write, NewLine, OnFacts, Post, Wait, builtin_goal, seen_pred}
use Rattle.cp_code.specs.Requests.{Asking, Follows, Again, Facts, Fact, Number, Rest, Nothing, Raises, follows, handed_out, functor_of, full_name, fact_asking, post_goal, wait_goal, RemoteFollows, is_unbound}
use Rattle.cp_code.specs.Tree as trees
use Rattle.cp_code.specs.Tree.{Item, Goal, AskFrom, CutNow, Leave, Copy, Exit, Demands, Renamed, Done, CutTo, Throw, Steps, Waiting, Left, Run, Ends, Tree, in_turn, cut_at, opened, cut_behind, charge, read, with_copies, throw_copy, throw_if, extended, enter_body, enter_goal, enter, rest_if, body_before, clause_if, clauses, behind, demand_if, exit_if, rules_of_kind, call_renamed, facts_if, fact_if, followed, asked, ask, ask_or_raise, wrote, write, behind_answers, each_answer, answered, call_remote, is_among, recover_if, caught, apart, variables_in, copied, ended, qualified, call_kind, first_of, piece_of, builtin_row, called_row, named_row, functor_row, body_row, answer, without_module, row, nothing, whole_row, tree}
use Rattle.std.proofs.Common.{◌⊎◌, inl, inr, cond, sym}
use Rattle.std.specs.Prelude.{slice_get}
use Rattle.cp_call.specs.declared.item.How.TheVariants as how
use Rattle.cp_code.specs.Checks.{broken_call, broken_exit}
use Rattle.cp_code.specs.Code.{Kind, Rules, Shared, Remote, Wrapped}
use Rattle.cp_code.specs.Requests as after_answers
use Rattle.cp_code.specs.Tree.{next_of, asks}
use Rattle.cp_code.specs.Ends.{Each, Named, Ended}
use Rattle.cp_code.specs.Instrument.{HasNoTests}
use Rattle.cp_code.specs.Machine.{Frame, Alternative, Clauses, Mark, Catching, Gathering, Answering, Point, Runs, Tests, Tries, Gives, Fails as FailsNow, Throws as ThrowsNow, Asks, Writes, Calls, Answers, Stops, State, left_with, after, run_of, meaning, drop_to, Move, to, throws_copy, throws_if, runs_if, enters_body, enters_goal, enters_if, enters, demanded, rules_move, asks_or_raises, calls_remote, calls_kind, writes_if, writes, passes_if, ends_as, builtin_move, called_move, named_move, functor_move, charged, body_move, exits, copies_move, answers_move, item_move, clause_move, tries_move, behind_move, answer_move, gives_move, renamed_move, fail_move, recovers, throw_move, point_move, move, facts_told, reply_told, asks_told, writes_told, calls_told, point_told, told, last_of, ready_at, ready, first_state}
use Rattle.cp_code.specs.Valid.{Cuttable, UpTo, Fits, PointOk, Ok as StateOk, IsLast, Still}
use Rattle.cp_code.proofs.Fixed.{tree_is_row}
use Rattle.cp_code.proofs.Instrumented.{no_tests_inside, kept}
use Rattle.cp_code.proofs.Alike.{kept_behind, kept_body}
use Rattle.cp_code.proofs.Scope.{tree_ends}

-- ---- a cut drops frames

abbrev pub Outside : ℕ → ℕ → ℕ → Type 0
Outside l level j = (j ≤ l) ⊎ (level < j)

pub eq_same : (n : ℕ) → nat_eq n n ≡ true
eq_same n = grind arith

pub eq_other : (m n : ℕ) → ¬ (m ≡ n) → nat_eq m n ≡ false
eq_other m n h = grind arith

not_outside : (l level k : ℕ) → l < k → k ≤ level → Outside l level k → ⊥
not_outside l level k a b (inl h) = omega arith
not_outside l level k a b (inr h) = omega arith

not_among : (l level k : ℕ) (ks : List ℕ) → l < k → k ≤ level → Each (Outside l level) ks → is_among k ks ≡ false
not_among l level k [] a b h = refl
not_among l level k (j ∷ ks) a b h =
    let other : ¬ (k ≡ j) = λ e. not_outside l level k a b (subst (Outside l level) (sym e) h.0) in
    rw (eq_other k j other) (not_among l level k ks a b h.1)

turn_cut : (l : ℕ) (r : Run) (k : Left → Run) → in_turn (cut_behind l r) k ≡ cut_behind l r
turn_cut l (Ends Done left) k = refl
turn_cut l (Ends (CutTo j) left) k = refl
turn_cut l (Ends (Throw b ks) left) k = refl
turn_cut l (Ends Steps left) k = refl
turn_cut l (Ends (Waiting n) left) k = refl

open_same : (l : ℕ) (r : Run) → opened l (cut_behind l r) ≡ opened l r
open_same l (Ends Done left) = ap (λ t. cut_at t l left) (eq_same l)
open_same l (Ends (CutTo j) left) = refl
open_same l (Ends (Throw b ks) left) = refl
open_same l (Ends Steps left) = refl
open_same l (Ends (Waiting n) left) = refl

open_other : (l level k : ℕ) (r : Run) → l < k → k ≤ level → Ended (Outside l level) r → opened k (cut_behind l r) ≡ cut_behind l r
open_other l level k (Ends Done left) a b h = ap (λ t. cut_at t l left) (eq_other l k (omega arith))
open_other l level k (Ends (CutTo j) left) a b h =
    let other : ¬ (j ≡ k) = λ e. not_outside l level k a b (subst (Outside l level) e h) in
    ap (λ t. cut_at t j left) (eq_other j k other)
open_other l level k (Ends (Throw c ks) left) a b h = refl
open_other l level k (Ends Steps left) a b h = refl
open_other l level k (Ends (Waiting n) left) a b h = refl

catch_other : (T : Tree) (l level k : ℕ) (seer : List ℕ) (catcher rec : List Cell) (rest : List Item) (s : Substitution) (next v : ℕ) (r : Run) → l < k → k ≤ level → Ended (Outside l level) r → caught T k seer catcher rec rest s next v (cut_behind l r) ≡ cut_behind l r
catch_other T l level k seer catcher rec rest s next v (Ends Done left) a b h = refl
catch_other T l level k seer catcher rec rest s next v (Ends (CutTo j) left) a b h = refl
catch_other T l level k seer catcher rec rest s next v (Ends (Throw c ks) left) a b h =
    ap (λ t. recover_if T t (unify s catcher (fresh next c)) seer rec rest (next + next_variable c) v c ks left) (not_among l level k ks a b h)
catch_other T l level k seer catcher rec rest s next v (Ends Steps left) a b h = refl
catch_other T l level k seer catcher rec rest s next v (Ends (Waiting n) left) a b h = refl

mark_frames : (T : Tree) (l level k : ℕ) (fs : List Frame) (r : Run) → (k ≡ l) ⊎ ((l < k) × (k ≤ level) × Cuttable l level fs) → Ended (Outside l level) r → (Cuttable l level fs → after T fs (cut_behind l r) ≡ after T (drop_to l fs) r) → after T fs (opened k (cut_behind l r)) ≡ after T (drop_to l (Mark k ∷ fs)) r
mark_frames T l level k fs r (inl e) h next =
    ap (λ j. after T fs (opened j (cut_behind l r))) e
    ∙ ap (after T fs) (open_same l r)
    ∙ ap (λ j. after T fs (opened j r)) (sym e)
    ∙ ap (λ t. after T (cond t (Mark k ∷ fs) (drop_to l fs)) r) (sym (ap (λ j. nat_eq j l) e ∙ eq_same l))
mark_frames T l level k fs r (inr c) h next =
    ap (after T fs) (open_other l level k r c.0 c.1 h)
    ∙ next c.2
    ∙ ap (λ t. after T (cond t (Mark k ∷ fs) (drop_to l fs)) r) (sym (eq_other k l (let a = c.0 in omega arith)))

cut_frames : (T : Tree) (l level : ℕ) (fs : List Frame) (r : Run) → Cuttable l level fs → Ended (Outside l level) r → after T fs (cut_behind l r) ≡ after T (drop_to l fs) r
cut_frames T l level [] r c h = absurd c
cut_frames T l level (Alternative items s next v ∷ fs) r c h =
    ap (after T fs) (turn_cut l r (T items s next v)) ∙ cut_frames T l level fs r c h
cut_frames T l level (Clauses cs g rest s next v ∷ fs) r c h =
    ap (after T fs) (turn_cut l r (clauses T cs g rest s next v)) ∙ cut_frames T l level fs r c h
cut_frames T l level (Mark k ∷ fs) r c h = mark_frames T l level k fs r c h (λ d. cut_frames T l level fs r d h)
cut_frames T l level (Catching k seer catcher rec rest s next v ∷ fs) r c h =
    ap (after T fs) (catch_other T l level k seer catcher rec rest s next v r c.0 c.1 h) ∙ cut_frames T l level fs r c.2 h
cut_frames T l level (Gathering outer result rest s next v ∷ fs) r c h = absurd c
cut_frames T l level (Answering answers behind g ctx rest s next v ∷ fs) r c h =
    ap (after T fs) (turn_cut l r (each_answer T answers behind g ctx rest s next v)) ∙ cut_frames T l level fs r c h

-- ---- each move keeps the meaning

abbrev pub left_at : ℕ → List Input → List (List Cell) → Left
left_at units inputs copies = record { units = units; inputs = inputs; copies = copies }

module _ (code : Code) (goal : List Cell) (inputs : List Input) where
  abbrev T : Tree
  T = tree code goal

  -- a run and a state stand for the same
  abbrev Means : List Frame → Run → State → Type 0
  Means fs r st = after T fs r ≡ after T st.frames (run_of T st.point (left_with st inputs))

  -- a row and a move stand for the same
  abbrev pub MeansMove : (Left → Run) → Move → Type 0
  MeansMove r mv = (units : ℕ) (copies : List (List Cell)) (fs : List Frame) → Means fs (r (left_at units inputs copies)) (mv units copies fs)

  throws_copy_mean : (t : Result (List Cell) (List Cell)) (ctx : List Cell) (rest : List Item) → MeansMove (throw_copy t ctx rest) (throws_copy t ctx rest)
  throws_copy_mean (Ok t) ctx rest units copies fs = refl
  throws_copy_mean (Err kind) ctx rest units copies fs = refl

  throws_if_mean : (b : Bool) (t ctx : List Cell) (rest : List Item) → MeansMove (throw_if b t ctx rest) (throws_if b t ctx rest)
  throws_if_mean true t ctx rest units copies fs = refl
  throws_if_mean false t ctx rest units copies fs = throws_copy_mean (handed_out t) ctx rest units copies fs

  enters_body_mean : (o : Option Body) (g ctx : List Cell) (rest : List Item) (s : Substitution) (next level : ℕ) → MeansMove (enter_body T o g ctx rest s next level) (enters_body o g ctx rest s next level)
  enters_body_mean None g ctx rest s next level units copies fs = refl
  enters_body_mean (Some b) g ctx rest s next level units copies fs = refl

  enters_goal_mean : (seer : List ℕ) (g : Result (List Cell) (List Cell)) (ctx : List Cell) (rest : List Item) (s : Substitution) (next level : ℕ) → MeansMove (enter_goal T seer g ctx rest s next level) (enters_goal seer g ctx rest s next level)
  enters_goal_mean seer (Ok g) ctx rest s next level units copies fs = enters_body_mean (body_of seer g) g ctx rest s next level units copies fs
  enters_goal_mean seer (Err kind) ctx rest s next level units copies fs = refl

  enters_if_mean : (unbound : Bool) (g : Seen) (extra : List (List Cell)) (ctx : List Cell) (rest : List Item) (s : Substitution) (next level : ℕ)
      → MeansMove (λ left. if unbound then trees.raise instantiation_error ctx rest left else enter_goal T g.seer (extended g.goal extra) ctx rest s next level left) (enters_if unbound g extra ctx rest s next level)
  enters_if_mean true g extra ctx rest s next level units copies fs = refl
  enters_if_mean false g extra ctx rest s next level units copies fs = enters_goal_mean g.seer (extended g.goal extra) ctx rest s next level units copies fs

  enters_mean : (seer : List ℕ) (g : List Cell) (extra : List (List Cell)) (ctx : List Cell) (rest : List Item) (s : Substitution) (next level : ℕ) → MeansMove (enter T seer g extra ctx rest s next level) (enters seer g extra ctx rest s next level)
  enters_mean seer g extra ctx rest s next level units copies fs =
      enters_if_mean (is_unbound ((seen_from seer (apply s g)).goal)) (seen_from seer (apply s g)) (map (apply s) extra) ctx rest s next level units copies fs

  demanded_means : (o : Option ℕ) (p : PredName) (rest : List Item) (units : ℕ) (copies : List (List Cell)) (fs : List Frame) (r : Run) (mv : Move) → Means fs r (mv units copies fs) → Means fs (demand_if o p rest (left_at units inputs copies) r) (demanded o p rest mv units copies fs)
  demanded_means (Some k) p rest units copies fs r mv h = refl
  demanded_means None p rest units copies fs r mv h = h

  asks_mean : (a : Result Asking (List Cell)) (ctx : List Cell) (rest : List Item) (s : Substitution) (next level : ℕ) → MeansMove (ask_or_raise T a ctx rest s next level) (asks_or_raises a ctx rest s next level)
  asks_mean (Ok a) ctx rest s next level units copies fs = refl
  asks_mean (Err kind) ctx rest s next level units copies fs = refl

  remote_means : (p : PredName) (g : List Cell) (t : Result (List Cell) (List Cell)) (rest : List Item) (s : Substitution) (next level : ℕ) → MeansMove (call_remote T p g t rest s next level) (calls_remote p g t rest s next level)
  remote_means p g (Ok t) rest s next level units copies fs = refl
  remote_means p g (Err kind) rest s next level units copies fs = refl

  kind_means : (p : PredName) (k : Kind) (g : List Cell) (rest : List Item) (s : Substitution) (next level : ℕ) → MeansMove (call_kind T code p k g rest s next level) (calls_kind code p k g rest s next level)
  kind_means p (Rules cs rs) g rest s next level units copies fs =
      demanded_means (broken_call code.types cs cs (arguments g)) p rest units copies fs _ (rules_move code p cs rs g rest s next level) refl
  kind_means p (Shared object suspends) g rest s next level units copies fs = asks_mean (pred_asking object g p) (full_name p) rest s next level units copies fs
  kind_means p Remote g rest s next level units copies fs = remote_means p g (handed_out g) rest s next level units copies fs
  kind_means p (Wrapped cs renamed) g rest s next level units copies fs = refl

  rest_means : (o : Option Substitution) (rest : List Item) (next level : ℕ) → MeansMove (rest_if T o rest next level) (runs_if o rest next level)
  rest_means None rest next level units copies fs = refl
  rest_means (Some s) rest next level units copies fs = refl

  writes_if_mean : (large : Bool) (bytes : List ℕ) (ctx : List Cell) (rest : List Item) (s : Substitution) (next level : ℕ)
      → MeansMove (λ left. if large then trees.raise (resource_error (codes "output_piece")) ctx rest left else read (request.Put bytes) left (wrote T ctx rest s next level)) (writes_if large bytes ctx rest s next level)
  writes_if_mean true bytes ctx rest s next level units copies fs = refl
  writes_if_mean false bytes ctx rest s next level units copies fs = refl

  writes_mean : (bytes : List ℕ) (ctx : List Cell) (rest : List Item) (s : Substitution) (next level : ℕ) → MeansMove (write T bytes ctx rest s next level) (writes bytes ctx rest s next level)
  writes_mean bytes ctx rest s next level units copies fs = writes_if_mean (nat_lt 65535 (length bytes)) bytes ctx rest s next level units copies fs

  passes_mean : (b : Bool) (rest : List Item) (s : Substitution) (next level : ℕ) → MeansMove (fact_if T b rest s next level) (passes_if b rest s next level)
  passes_mean true rest s next level units copies fs = refl
  passes_mean false rest s next level units copies fs = refl

  ends_mean : (e : builtins.End) (ctx : List Cell) (rest : List Item) (level : ℕ) → MeansMove (ended T e ctx rest level) (ends_as e ctx rest level)
  ends_mean (builtins.Succeeds s next) ctx rest level units copies fs = refl
  ends_mean builtins.Fails ctx rest level units copies fs = refl
  ends_mean (builtins.Raises kind) ctx rest level units copies fs = refl

  builtin_means : (seer : List ℕ) (b : Builtin) (args : List (List Cell)) (ctx : List Cell) (rest : List Item) (s : Substitution) (next level : ℕ) → MeansMove (builtin_row T code seer b args ctx rest s next level) (builtin_move code seer b args ctx rest s next level)
  builtin_means seer (OnTerms b) args ctx rest s next level units copies fs = ends_mean (builtin b args s next) ctx rest level units copies fs
  builtin_means seer (Property name) args ctx rest s next level units copies fs = passes_mean (has code.types name (first_of args)) rest s next level units copies fs
  builtin_means seer (Write style) args ctx rest s next level units copies fs = writes_mean (piece_of code style seer args) ctx rest s next level units copies fs
  builtin_means seer NewLine args ctx rest s next level units copies fs = writes_mean (codes "\n") ctx rest s next level units copies fs
  builtin_means seer (OnFacts f) args ctx rest s next level units copies fs = asks_mean (fact_asking code f (seen_from seer (first_of args)) ctx) ctx rest s next level units copies fs
  builtin_means seer Post args ctx rest s next level units copies fs = asks_mean (post_goal seer args ctx) ctx rest s next level units copies fs
  builtin_means seer Wait args ctx rest s next level units copies fs = asks_mean (wait_goal args ctx) ctx rest s next level units copies fs

  called_means : (seer : List ℕ) (o : Option Pred) (g ctx : List Cell) (rest : List Item) (s : Substitution) (next level : ℕ) → MeansMove (called_row T code seer o g ctx rest s next level) (called_move code seer o g ctx rest s next level)
  called_means seer (Some p) g ctx rest s next level units copies fs = kind_means p.name p.kind (qualified seer p.goals g) rest s next level units copies fs
  called_means seer None g ctx rest s next level units copies fs = refl

  named_means : (seer : List ℕ) (o : Option Builtin) (f : List ℕ × ℕ) (g : List Cell) (rest : List Item) (s : Substitution) (next level : ℕ) → MeansMove (named_row T code seer o f g rest s next level) (named_move code seer o f g rest s next level)
  named_means seer (Some b) f g rest s next level units copies fs = builtin_means seer b (arguments g) (context seer f.0 f.1) rest s next level units copies fs
  named_means seer None f g rest s next level units copies fs = called_means seer (seen_pred code seer f.0 f.1) g (context seer f.0 f.1) rest s next level units copies fs

  functor_means : (seer : List ℕ) (o : Option (List ℕ × ℕ)) (g : List Cell) (rest : List Item) (s : Substitution) (next level : ℕ) → MeansMove (functor_row T code seer o g rest s next level) (functor_move code seer o g rest s next level)
  functor_means seer (Some f) g rest s next level units copies fs = named_means seer (builtin_goal f.0 f.1) f g rest s next level units copies fs
  functor_means seer None g rest s next level units copies fs = refl

  outside_named : (l level : ℕ) (items : List Item) → Named (UpTo l) items → Named (Outside l level) items
  outside_named l level [] h = tt
  outside_named l level (Goal b k ∷ rest) h = (inl h.0, outside_named l level rest h.1)
  outside_named l level (AskFrom a place ∷ rest) h = outside_named l level rest h
  outside_named l level (CutNow k ∷ rest) h = (inl h.0, outside_named l level rest h.1)
  outside_named l level (Leave k ∷ rest) h = (inl h.0, outside_named l level rest h.1)
  outside_named l level (Copy x ctx ∷ rest) h = outside_named l level rest h
  outside_named l level (Exit p cs g ∷ rest) h = outside_named l level rest h
  outside_named l level (Demands p cs g ∷ rest) h = outside_named l level rest h
  outside_named l level (Renamed p cs g ∷ rest) h = outside_named l level rest h

  cut_means : (l : ℕ) (rest : List Item) (s : Substitution) (next level units : ℕ) (copies : List (List Cell)) (fs : List Frame) → Fits (CutNow l ∷ rest) level fs → Means fs (cut_behind l (T rest s next level (left_at units inputs copies))) (to (Runs rest s next level) units copies (drop_to l fs))
  cut_means l rest s next level units copies fs f =
      cut_frames T l level fs (T rest s next level (left_at units inputs copies)) f.cuts.0
      (tree_ends (Outside l level) code goal rest s next level (left_at units inputs copies) (λ j lt. inr lt) (outside_named l level rest f.sorted.0))

  -- a goal that was charged
  goal_means : (b : Body) (l : ℕ) (rest : List Item) (s : Substitution) (next level units : ℕ) (copies : List (List Cell)) (fs : List Frame) → Fits (Goal b l ∷ rest) level fs → Means fs (body_row T code b l rest s next level (left_at (suc units) inputs copies)) (body_move code b l rest s next level (suc units) copies fs)
  goal_means Cut l rest s next level units copies fs f =
      cut_means l rest s next level units copies fs (record { plain = f.plain; sorted = f.sorted; cuts = f.cuts; below = f.below })
  goal_means True l rest s next level units copies fs f = refl
  goal_means Fail l rest s next level units copies fs f = refl
  goal_means (Both a b) l rest s next level units copies fs f =
      ap (after T fs) (sym (tree_is_row code goal (Goal a l ∷ Goal b l ∷ rest) s next level (left_at (suc units) inputs copies)))
  goal_means (Either a b) l rest s next level units copies fs f = refl
  goal_means (Choose c t e) l rest s next level units copies fs f = refl
  goal_means (CallOf seer g extra) l rest s next level units copies fs f = enters_mean seer g extra (context seer (codes "call") (suc (length extra))) rest s next level units copies fs
  goal_means (CatchOf seer g catcher r) l rest s next level units copies fs f =
      enters_mean seer g [] (context seer (codes "catch") 3) (Leave (suc level) ∷ rest) s next level units copies (Catching (suc level) seer catcher r rest s next level ∷ fs)
  goal_means (ThrowOf seer t) l rest s next level units copies fs f = throws_if_mean (is_unbound (apply s t)) (apply s t) (context seer (codes "throw") 1) rest units copies fs
  goal_means (FindAll seer x g result) l rest s next level units copies fs f =
      enters_mean seer g [] (context seer (codes "findall") 3) (Copy x (context seer (codes "findall") 3) ∷ rest) s next level units [] (Gathering copies result rest s next level ∷ fs)
  goal_means (Plain seer g) l rest s next level units copies fs f = functor_means seer (functor_of (apply s g)) (apply s g) rest s next level units copies fs

  -- a goal where no unit is left
  stops_mean : (b : Body) (l : ℕ) (rest : List Item) (s : Substitution) (next level : ℕ) (copies : List (List Cell)) (fs : List Frame) → Means fs (body_row T code b l rest s next level (left_at zero inputs copies)) (body_move code b l rest s next level zero copies fs)
  stops_mean Cut l rest s next level copies fs = refl
  stops_mean True l rest s next level copies fs = refl
  stops_mean Fail l rest s next level copies fs = refl
  stops_mean (Both a b) l rest s next level copies fs =
      ap (after T fs) (sym (tree_is_row code goal (Goal a l ∷ Goal b l ∷ rest) s next level (left_at zero inputs copies)))
  stops_mean (Either a b) l rest s next level copies fs = refl
  stops_mean (Choose c t e) l rest s next level copies fs = refl
  stops_mean (CallOf seer g extra) l rest s next level copies fs = refl
  stops_mean (CatchOf seer g catcher r) l rest s next level copies fs = refl
  stops_mean (ThrowOf seer t) l rest s next level copies fs = refl
  stops_mean (FindAll seer x g result) l rest s next level copies fs = refl
  stops_mean (Plain seer g) l rest s next level copies fs = refl

  body_means : (units : ℕ) (b : Body) (l : ℕ) (rest : List Item) (s : Substitution) (next level : ℕ) (copies : List (List Cell)) (fs : List Frame) → Fits (Goal b l ∷ rest) level fs → Means fs (body_row T code b l rest s next level (left_at units inputs copies)) (body_move code b l rest s next level units copies fs)
  body_means zero b l rest s next level copies fs f = stops_mean b l rest s next level copies fs
  body_means (suc units) b l rest s next level copies fs f = goal_means b l rest s next level units copies fs f

  again_means : (units : ℕ) (a : Asking) (place : ℤ) (rest : List Item) (s : Substitution) (next level : ℕ) (copies : List (List Cell)) (fs : List Frame)
      → Means fs (charge (left_at units inputs copies) (λ left. ask T a (Some place) rest s next level left)) (charged units copies fs (λ units. to (Asks a (Some place) rest s next level) units copies fs))
  again_means zero a place rest s next level copies fs = refl
  again_means (suc units) a place rest s next level copies fs = refl

  -- inside a renamed predicate all is as elsewhere
  inside_items : (items : List Item) (s : Substitution) (next level : ℕ) (left : Left) → HasNoTests items → row T nothing code goal items s next level left ≡ T items s next level left
  inside_items items s next level left ok =
      no_tests_inside T nothing (row T nothing code goal) code goal items ok s next level left ∙ sym (tree_is_row code goal items s next level left)

  inside_clause : (o : Option Substitution) (c : Clause) (rest : List Item) (next level : ℕ) (left : Left) → HasNoTests rest → clause_if (row T nothing code goal) o c rest next level left ≡ clause_if T o c rest next level left
  inside_clause None c rest next level left ok = refl
  inside_clause (Some s) c rest next level left ok = inside_items (body_before c.body next level rest) s (next + c.variables) level left (kept_body HasNoTests kept c.body next level rest ok)

  then_same : (r : Run) (k k' : Left → Run) → ((left : Left) → k left ≡ k' left) → in_turn r k ≡ in_turn r k'
  then_same (Ends Done left) k k' h = h left
  then_same (Ends (CutTo l) left) k k' h = refl
  then_same (Ends (Throw b ks) left) k k' h = refl
  then_same (Ends Steps left) k k' h = refl
  then_same (Ends (Waiting n) left) k k' h = refl

  inside_clauses : (cs : List Clause) (g : List Cell) (rest : List Item) (s : Substitution) (next level : ℕ) (left : Left) → HasNoTests rest → clauses (row T nothing code goal) cs g rest s next level left ≡ clauses T cs g rest s next level left
  inside_clauses [] g rest s next level left ok = refl
  inside_clauses (c ∷ cs) g rest s next level left ok =
      ap (λ r. in_turn r (λ left. clauses (row T nothing code goal) cs g rest s next level left)) (inside_clause (unify s g (fresh next c.head)) c rest next level left ok)
      ∙ then_same (clause_if T (unify s g (fresh next c.head)) c rest next level left) _ _ (λ left'. inside_clauses cs g rest s next level left' ok)

  renamed_means : (o : Option Pred) (cs : List Check) (g : List Cell) (rest : List Item) (s : Substitution) (next level units : ℕ) (copies : List (List Cell)) (fs : List Frame) → HasNoTests rest
      → Means fs (call_renamed (row T nothing code goal) code o cs g rest s next level (left_at units inputs copies)) (renamed_move code o cs g rest s next level units copies fs)
  renamed_means (Some p) cs g rest s next level units copies fs ok =
      ap (λ r. after T fs (opened (suc level) r))
      (inside_clauses (rules_of_kind p.kind) g (behind p.name (held code.types cs (arguments g)) g rest) s next (suc level) (left_at units inputs copies) (kept_behind HasNoTests kept p.name (held code.types cs (arguments g)) g rest ok))
  renamed_means None cs g rest s next level units copies fs ok = refl

  exits_mean : (o : Option ℕ) (p : PredName) (rest : List Item) (s : Substitution) (next level units : ℕ) (copies : List (List Cell)) (fs : List Frame) → Means fs (exit_if o p rest (left_at units inputs copies) (whole_row T code goal rest s next level (left_at units inputs copies))) (exits o p rest s next level units copies fs)
  exits_mean (Some k) p rest s next level units copies fs = refl
  exits_mean None p rest s next level units copies fs =
      ap (after T fs) (sym (tree_is_row code goal rest s next level (left_at units inputs copies)))

  copies_mean : (t : Result (List Cell) (List Cell)) (ctx : List Cell) (rest : List Item) → MeansMove (copied t ctx rest) (copies_move t ctx rest)
  copies_mean (Ok t) ctx rest units copies fs = refl
  copies_mean (Err kind) ctx rest units copies fs = refl

  answers_mean : (t : Result (List Cell) (List Cell)) → MeansMove (answer code goal t) (answers_move code goal t)
  answers_mean (Ok t) units copies fs = refl
  answers_mean (Err kind) units copies fs = refl

  items_mean : (items : List Item) (s : Substitution) (next level units : ℕ) (copies : List (List Cell)) (fs : List Frame) → Fits items level fs → Means fs (whole_row T code goal items s next level (left_at units inputs copies)) (item_move code goal items s next level units copies fs)
  items_mean [] s next level units copies fs f = answers_mean (handed_out (apply s (without_module goal (arguments goal)))) units copies fs
  items_mean (Goal b l ∷ rest) s next level units copies fs f = body_means units b l rest s next level copies fs f
  items_mean (AskFrom a place ∷ rest) s next level units copies fs f = again_means units a place rest s next level copies fs
  items_mean (CutNow l ∷ rest) s next level units copies fs f =
      ap (λ r. after T fs (cut_behind l r)) (sym (tree_is_row code goal rest s next level (left_at units inputs copies)))
      ∙ cut_means l rest s next level units copies fs f
  items_mean (Leave k ∷ rest) s next level units copies fs f =
      ap (after T fs) (sym (tree_is_row code goal rest s next level (left_at units inputs copies)))
  items_mean (Demands p cs g ∷ rest) s next level units copies fs f = absurd f.plain
  items_mean (Renamed p cs g ∷ rest) s next level units copies fs f = absurd f.plain
  items_mean (Exit p cs g ∷ rest) s next level units copies fs f = exits_mean (broken_exit code.types cs (arguments (apply s g))) p rest s next level units copies fs
  items_mean (Copy x ctx ∷ rest) s next level units copies fs f = copies_mean (handed_out (apply s x)) ctx rest units copies fs

  clause_means : (o : Option Substitution) (c : Clause) (cs : List Clause) (g : List Cell) (rest : List Item) (s : Substitution) (next level units : ℕ) (copies : List (List Cell)) (fs : List Frame) → Means fs (in_turn (clause_if T o c rest next level (left_at units inputs copies)) (λ left. clauses T cs g rest s next level left)) (clause_move o c cs g rest s next level units copies fs)
  clause_means None c cs g rest s next level units copies fs = refl
  clause_means (Some s') c cs g rest s next level units copies fs = refl

  tries_mean : (cs : List Clause) (g : List Cell) (rest : List Item) (s : Substitution) (next level : ℕ) → MeansMove (clauses T cs g rest s next level) (tries_move cs g rest s next level)
  tries_mean [] g rest s next level units copies fs = refl
  tries_mean (c ∷ cs) g rest s next level units copies fs = clause_means (unify s g (fresh next c.head)) c cs g rest s next level units copies fs

  behind_means : (b : RemoteFollows) (ctx : List Cell) (rest : List Item) → MeansMove (behind_answers b ctx rest) (behind_move b ctx rest)
  behind_means after_answers.Fails ctx rest units copies fs = refl
  behind_means (after_answers.Throws t) ctx rest units copies fs = throws_copy_mean (handed_out t) ctx rest units copies fs
  behind_means (after_answers.Breaks kind) ctx rest units copies fs = refl

  answer_means : (o : Option Substitution) (a : List Cell) (answers : List (List Cell)) (b : RemoteFollows) (g ctx : List Cell) (rest : List Item) (s : Substitution) (next level units : ℕ) (copies : List (List Cell)) (fs : List Frame)
      → Means fs (in_turn (rest_if T o rest (next + next_variable a) level (left_at units inputs copies)) (λ left. each_answer T answers b g ctx rest s next level left)) (answer_move o a answers b g ctx rest s next level units copies fs)
  answer_means None a answers b g ctx rest s next level units copies fs = refl
  answer_means (Some s') a answers b g ctx rest s next level units copies fs = refl

  gives_mean : (answers : List (List Cell)) (b : RemoteFollows) (g ctx : List Cell) (rest : List Item) (s : Substitution) (next level : ℕ) → MeansMove (each_answer T answers b g ctx rest s next level) (gives_move answers b g ctx rest s next level)
  gives_mean [] b g ctx rest s next level units copies fs = behind_means b ctx rest units copies fs
  gives_mean (a ∷ answers) b g ctx rest s next level units copies fs = answer_means (unify s g (fresh next a)) a answers b g ctx rest s next level units copies fs

  fails_mean : (fs : List Frame) (units : ℕ) (copies : List (List Cell)) → Means fs (Ends Done (left_at units inputs copies)) (fail_move fs units copies)
  fails_mean [] units copies = refl
  fails_mean (Alternative items s next level ∷ fs) units copies = refl
  fails_mean (Clauses cs g rest s next level ∷ fs) units copies = refl
  fails_mean (Mark k ∷ fs) units copies = refl
  fails_mean (Catching k seer catcher r rest s next level ∷ fs) units copies = refl
  fails_mean (Gathering outer result rest s next level ∷ fs) units copies =
      rest_means (unify s result (list_term (apart next copies))) rest (next + variables_in copies) level units outer fs
  fails_mean (Answering answers b g ctx rest s next level ∷ fs) units copies = refl

  recovers_mean : (among : Bool) (o : Option Substitution) (seer : List ℕ) (r : List Cell) (rest : List Item) (next level : ℕ) (b : List Cell) (ks : List ℕ) → MeansMove (recover_if T among o seer r rest next level b ks) (recovers among o seer r rest next level b ks)
  recovers_mean true (Some s) seer r rest next level b ks units copies fs = enters_mean seer r [] (context seer (codes "catch") 3) rest s next level units copies fs
  recovers_mean true None seer r rest next level b ks units copies fs = refl
  recovers_mean false o seer r rest next level b ks units copies fs = refl

  throws_mean : (fs : List Frame) (b : List Cell) (ks : List ℕ) (units : ℕ) (copies : List (List Cell)) → Means fs (Ends (Throw b ks) (left_at units inputs copies)) (throw_move fs b ks units copies)
  throws_mean [] b ks units copies = refl
  throws_mean (Alternative items s next level ∷ fs) b ks units copies = refl
  throws_mean (Clauses cs g rest s next level ∷ fs) b ks units copies = refl
  throws_mean (Mark k ∷ fs) b ks units copies = refl
  throws_mean (Catching k seer catcher r rest s next level ∷ fs) b ks units copies =
      recovers_mean (is_among k ks) (unify s catcher (fresh next b)) seer r rest (next + next_variable b) level b ks units copies fs
  throws_mean (Gathering outer result rest s next level ∷ fs) b ks units copies = refl
  throws_mean (Answering answers c g ctx rest s next level ∷ fs) b ks units copies = refl

  tests_mean : (o : Option ℕ) (p : PredName) (cs : List Check) (renamed : ℕ) (g : List Cell) (rest : List Item) (units : ℕ) (copies : List (List Cell)) (fs : List Frame) (r : Run) (mv : Move) → Means fs r (mv units copies fs) → Means fs (demand_if o p (Renamed renamed cs g ∷ rest) (left_at units inputs copies) r) (demanded o p rest mv units copies fs)
  tests_mean (Some k) p cs renamed g rest units copies fs r mv h = refl
  tests_mean None p cs renamed g rest units copies fs r mv h = h

  point_means : (p : Point) (units : ℕ) (copies : List (List Cell)) (fs : List Frame) → PointOk p fs → Means fs (run_of T p (left_at units inputs copies)) (point_move code goal p units copies fs)
  point_means (Runs items s next level) units copies fs ok =
      ap (after T fs) (tree_is_row code goal items s next level (left_at units inputs copies)) ∙ items_mean items s next level units copies fs ok
  point_means (Tries cs g rest s next level) units copies fs ok = tries_mean cs g rest s next level units copies fs
  point_means (Tests p cs renamed g rest s next level) units copies fs ok =
      ap (after T fs) (tree_is_row code goal (Demands p cs g ∷ Renamed renamed cs g ∷ rest) s next level (left_at units inputs copies))
      ∙ tests_mean (broken_call code.types cs cs (arguments g)) p cs renamed g rest units copies fs _ (renamed_move code (slice_get code.renamed renamed) cs g rest s next level)
      (renamed_means (slice_get code.renamed renamed) cs g rest s next level units copies fs ok.plain)
  point_means (Gives answers b g ctx rest s next level) units copies fs ok = gives_mean answers b g ctx rest s next level units copies fs
  point_means FailsNow units copies fs ok = fails_mean fs units copies
  point_means (ThrowsNow b ks) units copies fs ok = throws_mean fs b ks units copies
  point_means (Asks a from rest s next level) units copies fs ok = refl
  point_means (Writes bytes ctx rest s next level) units copies fs ok = refl
  point_means (Calls p g handed rest s next level) units copies fs ok = refl
  point_means (Answers t) units copies fs ok = refl
  point_means Stops units copies fs ok = refl

  pub move_means : (st : State) → StateOk st → meaning T st inputs ≡ meaning T (move code goal st) inputs
  move_means st ok = ap next_of (point_means st.point st.units st.copies st.frames ok.point)

-- ---- an input

module _ (code : Code) (goal : List Cell) (inputs : List Input) where
  abbrev T' : Tree
  T' = tree code goal

  facts_mean : (o : Option Substitution) (a : Asking) (place : ℤ) (rest : List Item) (s : Substitution) (next next' level : ℕ) → MeansMove code goal inputs (facts_if T' o a place rest s next next' level) (facts_told o a place rest s next next' level)
  facts_mean None a place rest s next next' level units copies fs = refl
  facts_mean (Some s') a place rest s next next' level units copies fs = refl

  reply_means : (f : Follows) (a : Asking) (from : Option ℤ) (rest : List Item) (s : Substitution) (next level units : ℕ) (copies : List (List Cell)) (fs : List Frame)
      → Means code goal inputs fs (followed T' f a rest s next level (left_at units inputs copies) (λ left. asked T' a from rest s next level units copies inputs)) (reply_told f a from rest s next level units copies fs)
  reply_means Again a from rest s next level units copies fs = refl
  reply_means (Facts place pattern fact) a from rest s next level units copies fs = facts_mean (unify s pattern (fresh next fact)) a place rest s next (next + next_variable fact) level units copies fs
  reply_means (Fact pattern fact) a from rest s next level units copies fs = passes_mean code goal inputs (unifiable_apart pattern fact) rest s next level units copies fs
  reply_means (Number number place) a from rest s next level units copies fs = rest_means code goal inputs (unify s number (Int place ∷ [])) rest next level units copies fs
  reply_means Rest a from rest s next level units copies fs = refl
  reply_means Nothing a from rest s next level units copies fs = refl
  reply_means (Raises kind) a from rest s next level units copies fs = refl

  asks_told_mean : (i : Input) (a : Asking) (from : Option ℤ) (rest : List Item) (s : Substitution) (next level units : ℕ) (copies : List (List Cell)) (fs : List Frame)
      → Means code goal inputs fs (asked T' a from rest s next level units copies (i ∷ inputs)) (asks_told i a from rest s next level units copies fs)
  asks_told_mean (input.Reply r) a from rest s next level units copies fs = reply_means (follows a.manner r) a from rest s next level units copies fs
  asks_told_mean (input.Put r) a from rest s next level units copies fs = refl
  asks_told_mean (input.Remote r) a from rest s next level units copies fs = refl
  asks_told_mean input.More a from rest s next level units copies fs = refl

  writes_told_mean : (i : Input) (ctx : List Cell) (rest : List Item) (s : Substitution) (next level : ℕ) → MeansMove code goal inputs (wrote T' ctx rest s next level i) (writes_told i ctx rest s next level)
  writes_told_mean (input.Put put.Wrote) ctx rest s next level units copies fs = refl
  writes_told_mean (input.Put put.Failed) ctx rest s next level units copies fs = refl
  writes_told_mean (input.Reply r) ctx rest s next level units copies fs = refl
  writes_told_mean (input.Remote r) ctx rest s next level units copies fs = refl
  writes_told_mean input.More ctx rest s next level units copies fs = refl

  calls_told_mean : (i : Input) (p : PredName) (g : List Cell) (rest : List Item) (s : Substitution) (next level : ℕ) → MeansMove code goal inputs (answered T' p g rest s next level i) (calls_told i p g rest s next level)
  calls_told_mean (input.Remote r) p g rest s next level units copies fs = refl
  calls_told_mean (input.Reply r) p g rest s next level units copies fs = refl
  calls_told_mean (input.Put r) p g rest s next level units copies fs = refl
  calls_told_mean input.More p g rest s next level units copies fs = refl

-- ---- what is answered

waiting_after : (T : Tree) (fs : List Frame) (n : Next) (left : Left) → next_of (after T fs (Ends (Waiting n) left)) ≡ n
waiting_after T [] n left = refl
waiting_after T (Alternative items s next level ∷ fs) n left = waiting_after T fs n left
waiting_after T (Clauses cs g rest s next level ∷ fs) n left = waiting_after T fs n left
waiting_after T (Mark k ∷ fs) n left = waiting_after T fs n left
waiting_after T (Catching k seer catcher r rest s next level ∷ fs) n left = waiting_after T fs n left
waiting_after T (Gathering outer result rest s next level ∷ fs) n left = waiting_after T fs n (with_copies outer left)
waiting_after T (Answering answers b g ctx rest s next level ∷ fs) n left = waiting_after T fs n left

stops_after : (T : Tree) (fs : List Frame) (left : Left) → next_of (after T fs (Ends Steps left)) ≡ request.End how.Steps
stops_after T [] left = refl
stops_after T (Alternative items s next level ∷ fs) left = stops_after T fs left
stops_after T (Clauses cs g rest s next level ∷ fs) left = stops_after T fs left
stops_after T (Mark k ∷ fs) left = stops_after T fs left
stops_after T (Catching k seer catcher r rest s next level ∷ fs) left = stops_after T fs left
stops_after T (Gathering outer result rest s next level ∷ fs) left = stops_after T fs (with_copies outer left)
stops_after T (Answering answers b g ctx rest s next level ∷ fs) left = stops_after T fs left

abbrev pub AnswersAs : Option Next → Next → Type 0
AnswersAs None n = Unit {0}
AnswersAs (Some m) n = n ≡ m

ready_means : (T : Tree) (p : Point) (units : ℕ) (copies : List (List Cell)) (fs : List Frame) → AnswersAs (ready_at p fs) (next_of (after T fs (run_of T p (left_at units [] copies))))
ready_means T (Runs items s next level) units copies fs = tt
ready_means T (Tries cs g rest s next level) units copies fs = tt
ready_means T (Tests p cs renamed g rest s next level) units copies fs = tt
ready_means T (Gives answers b g ctx rest s next level) units copies fs = tt
ready_means T FailsNow units copies [] = refl
ready_means T FailsNow units copies (f ∷ fs) = tt
ready_means T (ThrowsNow b ks) units copies [] = refl
ready_means T (ThrowsNow b ks) units copies (f ∷ fs) = tt
ready_means T (Asks a from rest s next level) units copies fs = waiting_after T fs _ _
ready_means T (Writes bytes ctx rest s next level) units copies fs = waiting_after T fs _ _
ready_means T (Calls p g handed rest s next level) units copies fs = waiting_after T fs _ _
ready_means T (Answers t) units copies fs = waiting_after T fs _ _
ready_means T Stops units copies fs = stops_after T fs _

still_point : (code : Code) (goal : List Cell) (i : Input) (inputs : List Input) (p : Point) (units : ℕ) (copies : List (List Cell)) (fs : List Frame) → Still p fs → meaning (tree code goal) (to p units copies fs) (i ∷ inputs) ≡ meaning (tree code goal) (point_told p i units copies fs) inputs
still_point code goal i inputs (Asks a from rest s next level) units copies fs w = ap next_of (asks_told_mean code goal inputs i a from rest s next level units copies fs)
still_point code goal i inputs (Writes bytes ctx rest s next level) units copies fs w = ap next_of (writes_told_mean code goal inputs i ctx rest s next level units copies fs)
still_point code goal i inputs (Calls p g handed rest s next level) units copies fs w = ap next_of (calls_told_mean code goal inputs i p g rest s next level units copies fs)
still_point code goal i inputs (Answers t) units copies fs w = refl
still_point code goal i inputs (Runs items s next level) units copies fs w = absurd w
still_point code goal i inputs (Tries cs g rest s next level) units copies fs w = absurd w
still_point code goal i inputs (Tests p cs renamed g rest s next level) units copies fs w = absurd w
still_point code goal i inputs (Gives answers b g ctx rest s next level) units copies fs w = absurd w
still_point code goal i inputs FailsNow units copies [] w = refl
still_point code goal i inputs FailsNow units copies (f ∷ fs) w = absurd w
still_point code goal i inputs (ThrowsNow b ks) units copies [] w = refl
still_point code goal i inputs (ThrowsNow b ks) units copies (f ∷ fs) w = absurd w
still_point code goal i inputs Stops units copies fs w = stops_after (tree code goal) fs _ ∙ sym (stops_after (tree code goal) fs _)

pub still_told : (code : Code) (goal : List Cell) (i : Input) (inputs : List Input) (st : State) → Still st.point st.frames → meaning (tree code goal) st (i ∷ inputs) ≡ meaning (tree code goal) (told st i) inputs
still_told code goal i inputs st w = still_point code goal i inputs st.point st.units st.copies st.frames w

pub first_means : (code : Code) (goal : List Cell) (inputs : List Input) → asks code goal inputs ≡ meaning (tree code goal) (first_state code goal) inputs
first_means code goal inputs = ap next_of (enters_mean code goal inputs code.first goal [] (context code.first (codes "call") 1) [] [] (next_variable goal) 0 code.budget [] [])

is_last_if : (fs : List Frame) (m n : Next) → last_of fs m ≡ Some n → IsLast fs
is_last_if [] m n h = tt
is_last_if (f ∷ fs) m n h = absurd (grind arith)

ready_still_at : (p : Point) (fs : List Frame) (n : Next) → ready_at p fs ≡ Some n → Still p fs
ready_still_at (Runs items s next level) fs n h = absurd (grind arith)
ready_still_at (Tries cs g rest s next level) fs n h = absurd (grind arith)
ready_still_at (Tests p cs renamed g rest s next level) fs n h = absurd (grind arith)
ready_still_at (Gives answers b g ctx rest s next level) fs n h = absurd (grind arith)
ready_still_at FailsNow fs n h = is_last_if fs _ n h
ready_still_at (ThrowsNow b ks) fs n h = is_last_if fs _ n h
ready_still_at (Asks a from rest s next level) fs n h = tt
ready_still_at (Writes bytes ctx rest s next level) fs n h = tt
ready_still_at (Calls p g handed rest s next level) fs n h = tt
ready_still_at (Answers t) fs n h = tt
ready_still_at Stops fs n h = tt

pub ready_still : (st : State) (n : Next) → ready st ≡ Some n → Still st.point st.frames
ready_still st n h = ready_still_at st.point st.frames n h

answers_if : (o : Option Next) (m n : Next) → AnswersAs o m → o ≡ Some n → m ≡ n
answers_if None m n a h = absurd (grind arith)
answers_if (Some k) m n a h = a ∙ grind arith

pub ready_answers : (code : Code) (goal : List Cell) (st : State) (n : Next) → ready st ≡ Some n → meaning (tree code goal) st [] ≡ n
ready_answers code goal st n h = answers_if (ready st) _ n (ready_means (tree code goal) st.point st.units st.copies st.frames) h
