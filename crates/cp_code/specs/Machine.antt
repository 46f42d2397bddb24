-- A machine that walks a tree: the goals in hand, and a stack of what is to be done when they have no more to give. The frames
-- are the places of the tree's definition where one tree follows another or the end of a tree is changed.
use Rattle.std.specs.Prelude.{ℕ, zero, suc, ◌+◌, Bool, true, false, cond, nat_eq, nat_lt, List, [], ◌∷◌, ◌++◌, map, length, slice_get, Option, Some, None, Result, Ok, Err, ℤ, codes}
use Rattle.cp_term.specs.declared.cell.Cell.{Cell}
use Rattle.cp_term.specs.declared.cell.Cell.TheVariants.{Int}
use Rattle.cp_term.specs.declared.pred_name.PredName.{PredName}
use Rattle.cp_term.specs.Preorder.{arguments}
use Rattle.cp_term.specs.Numbering.{fresh, next_variable}
use Rattle.cp_term.specs.Substitution.{Substitution, apply}
use Rattle.cp_term.specs.Unification.{unify, unifiable_apart}
use Rattle.cp_goal.specs.Errors.{instantiation_error, type_error, resource_error}
use Rattle.cp_goal.specs.Builtins as builtins
use Rattle.cp_goal.specs.Builtins.{builtin, context, ball}
use Rattle.cp_goal.specs.Lists.{list_term}
use Rattle.cp_call.specs.declared.item.PutReply.TheVariants as put
use Rattle.cp_call.specs.declared.item.How.TheVariants as how
use Rattle.cp_call.specs.declared.item.Next.{Next}
use Rattle.cp_call.specs.declared.item.Next.TheVariants as request
use Rattle.cp_call.specs.declared.item.Input.{Input}
use Rattle.cp_call.specs.declared.item.Input.TheVariants as input
use Rattle.cp_code.specs.Bodies.{Body, Cut, True, Fail, Both, Either, Choose, CallOf, CatchOf, ThrowOf, FindAll, Plain, body_of, Seen, seen_from}
use Rattle.cp_code.specs.Properties.{has}
use Rattle.cp_code.specs.Checks.{Check, broken_call, held, broken_exit}
use Rattle.cp_code.specs.Code.{Code, Clause, Pred, Kind, Rules, Shared, Remote, Wrapped}
use Rattle.cp_code.specs.Goals.{Builtin, OnTerms, Property, Write, NewLine, OnFacts, Post, Wait, builtin_goal, seen_pred}
use Rattle.cp_code.specs.Requests.{Asking, Follows, Again, Facts, Fact, Number, Rest, Nothing, Raises, follows, handed_out, functor_of, full_name, existence_error, system_error, fact_asking, pred_asking, post_goal, wait_goal, answers_of, RemoteFollows, is_unbound}
use Rattle.cp_code.specs.Requests as after_answers
use Rattle.cp_code.specs.Tree.{Item, Goal, AskFrom, CutNow, Leave, Copy, Exit, Demands, Renamed, catchers, Done, Throw, Steps, Left, Run, Ends, Tree, in_turn, opened, read, check_ball, extended, behind, rules_of_kind, is_among, apart, variables_in, body_before, qualified, piece_of, first_of, goal_context, without_module, clauses, caught, collected, asked, wrote, answered, each_answer, next_of}

pub data Frame : Type 0 where
  -- other goals
  Alternative : List Item → Substitution → (next level : ℕ) → Frame
  -- the clauses of a predicate that are still to be tried
  Clauses : List Clause → (goal : List Cell) → (rest : List Item) → Substitution → (next level : ℕ) → Frame
  -- a level that was opened: the place to which a cut goes
  Mark : (level : ℕ) → Frame
  Catching : (catcher : ℕ) (seer : List ℕ) (ball recovery : List Cell) → (rest : List Item) → Substitution → (next level : ℕ) → Frame
  -- a findall, with the copies of the one around it
  Gathering : (outer : List (List Cell)) (result : List Cell) → (rest : List Item) → Substitution → (next level : ℕ) → Frame
  -- the answers of a remote call that are still to come
  Answering : (answers : List (List Cell)) → RemoteFollows → (goal error_context : List Cell) → (rest : List Item) → Substitution → (next level : ℕ) → Frame

pub data Point : Type 0 where
  Runs : List Item → Substitution → (next level : ℕ) → Point
  Tests : PredName → List Check → (renamed : ℕ) → (goal : List Cell) → (rest : List Item) → Substitution → (next level : ℕ) → Point
  Tries : List Clause → (goal : List Cell) → (rest : List Item) → Substitution → (next level : ℕ) → Point
  Gives : (answers : List (List Cell)) → RemoteFollows → (goal error_context : List Cell) → (rest : List Item) → Substitution → (next level : ℕ) → Point
  Fails : Point
  Throws : (ball : List Cell) → List ℕ → Point
  -- a reply is due: of a shared object, of the port, of another module, or the wish for more
  Asks : Asking → Option ℤ → (rest : List Item) → Substitution → (next level : ℕ) → Point
  Writes : (bytes : List ℕ) (error_context : List Cell) → (rest : List Item) → Substitution → (next level : ℕ) → Point
  Calls : PredName → (goal handed : List Cell) → (rest : List Item) → Substitution → (next level : ℕ) → Point
  Answers : (answer : List Cell) → Point
  -- no unit is left
  Stops : Point

pub record State : Type 0 where
  pub point : Point
  pub units : ℕ
  pub copies : List (List Cell)
  pub frames : List Frame

-- ---- what a state stands for: a tree, and the trees of its frames in turn

abbrev pub left_with : State → List Input → Left
left_with st inputs = record { units = st.units; inputs = inputs; copies = st.copies }

abbrev pub after : Tree → List Frame → Run → Run
after T [] r = r
after T (Alternative items s next level ∷ fs) r = after T fs (in_turn r (T items s next level))
after T (Clauses cs g rest s next level ∷ fs) r = after T fs (in_turn r (clauses T cs g rest s next level))
after T (Mark level ∷ fs) r = after T fs (opened level r)
after T (Catching k seer catcher recovery rest s next level ∷ fs) r = after T fs (caught T k seer catcher recovery rest s next level r)
after T (Gathering outer result rest s next level ∷ fs) r = after T fs (collected T outer result rest s next level r)
after T (Answering answers behind g ctx rest s next level ∷ fs) r = after T fs (in_turn r (each_answer T answers behind g ctx rest s next level))

abbrev pub remote_call : PredName → List Cell → Next
remote_call p goal = request.Remote (record { «module» = p.module; goal = goal; limit = 65535; looks = 10000 })

abbrev pub run_of : Tree → Point → Left → Run
run_of T (Runs items s next level) left = T items s next level left
run_of T (Tries cs g rest s next level) left = clauses T cs g rest s next level left
run_of T (Tests p cs renamed g rest s next level) left = T (Demands p cs g ∷ Renamed renamed cs g ∷ rest) s next level left
run_of T (Gives answers behind g ctx rest s next level) left = each_answer T answers behind g ctx rest s next level left
run_of T Fails left = Ends Done left
run_of T (Throws b ks) left = Ends (Throw b ks) left
run_of T (Asks a from rest s next level) left = asked T a from rest s next level left.units left.copies left.inputs
run_of T (Writes bytes ctx rest s next level) left = read (request.Put bytes) left (wrote T ctx rest s next level)
run_of T (Calls p g handed rest s next level) left = read (remote_call p handed) left (answered T p g rest s next level)
run_of T (Answers t) left = read (request.Answer t) left (λ i left. Ends Done left)
run_of T Stops left = Ends Steps left

abbrev pub meaning : Tree → State → List Input → Next
meaning T st inputs = next_of (after T st.frames (run_of T st.point (left_with st inputs)))

-- ---- the machine

-- the frames down to the mark of a level
abbrev pub drop_to : ℕ → List Frame → List Frame
drop_to l [] = []
drop_to l (Alternative items s next level ∷ fs) = drop_to l fs
drop_to l (Clauses cs g rest s next level ∷ fs) = drop_to l fs
drop_to l (Mark k ∷ fs) = cond (nat_eq k l) (Mark k ∷ fs) (drop_to l fs)
drop_to l (Catching k seer catcher recovery rest s next level ∷ fs) = drop_to l fs
drop_to l (Gathering outer result rest s next level ∷ fs) = drop_to l fs
drop_to l (Answering answers behind g ctx rest s next level ∷ fs) = drop_to l fs

-- A move gives a state from the units, the copies and the frames that there are.
abbrev pub Move : Type 0
Move = ℕ → List (List Cell) → List Frame → State

abbrev pub to : Point → Move
to p units copies fs = record { point = p; units = units; copies = copies; frames = fs }

abbrev pub raises : (kind error_context : List Cell) → List Item → Move
raises kind ctx rest = to (Throws (ball kind ctx) (catchers rest))

abbrev pub throws_copy : Result (List Cell) (List Cell) → List Cell → List Item → Move
throws_copy (Ok t) ctx rest = to (Throws t (catchers rest))
throws_copy (Err kind) ctx rest = raises kind ctx rest

abbrev pub throws_if : Bool → List Cell → List Cell → List Item → Move
throws_if true t ctx rest = raises instantiation_error ctx rest
throws_if false t ctx rest = throws_copy (handed_out t) ctx rest

abbrev pub runs_if : Option Substitution → List Item → ℕ → ℕ → Move
runs_if None rest next level = to Fails
runs_if (Some s) rest next level = to (Runs rest s next level)

-- a term that is run as a goal
abbrev pub enters_body : Option Body → List Cell → List Cell → List Item → Substitution → ℕ → ℕ → Move
enters_body None g ctx rest s next level = raises (type_error (codes "callable") g) ctx rest
enters_body (Some b) g ctx rest s next level = λ units copies fs. to (Runs (Goal b (suc level) ∷ rest) s next (suc level)) units copies (Mark (suc level) ∷ fs)

abbrev pub enters_goal : List ℕ → Result (List Cell) (List Cell) → List Cell → List Item → Substitution → ℕ → ℕ → Move
enters_goal m (Ok g) ctx rest s next level = enters_body (body_of m g) g ctx rest s next level
enters_goal m (Err kind) ctx rest s next level = raises kind ctx rest

abbrev pub enters_if : (unbound : Bool) → Seen → List (List Cell) → List Cell → List Item → Substitution → ℕ → ℕ → Move
enters_if true g extra ctx rest s next level = raises instantiation_error ctx rest
enters_if false g extra ctx rest s next level = enters_goal g.seer (extended g.goal extra) ctx rest s next level

abbrev pub enters : List ℕ → List Cell → List (List Cell) → List Cell → List Item → Substitution → ℕ → ℕ → Move
enters m g extra ctx rest s next level =
    enters_if (is_unbound ((seen_from m (apply s g)).goal)) (seen_from m (apply s g)) (map (apply s) extra) ctx rest s next level

abbrev pub demanded : Option ℕ → PredName → List Item → Move → Move
demanded (Some k) p rest move = to (Throws (check_ball (codes "calls") p k) (catchers rest))
demanded None p rest move = move

abbrev pub rules_move : Code → PredName → List Check → List Clause → List Cell → List Item → Substitution → ℕ → ℕ → Move
rules_move code p cs rs g rest s next level units copies fs =
    to (Tries rs g (behind p (held code.types cs (arguments g)) g rest) s next (suc level)) units copies (Mark (suc level) ∷ fs)

abbrev pub asks_or_raises : Result Asking (List Cell) → List Cell → List Item → Substitution → ℕ → ℕ → Move
asks_or_raises (Ok a) ctx rest s next level = to (Asks a None rest s next level)
asks_or_raises (Err kind) ctx rest s next level = raises kind ctx rest

abbrev pub calls_remote : PredName → List Cell → Result (List Cell) (List Cell) → List Item → Substitution → ℕ → ℕ → Move
calls_remote p g (Ok handed) rest s next level = to (Calls p g handed rest s next level)
calls_remote p g (Err kind) rest s next level = raises kind (full_name p) rest

abbrev pub calls_kind : Code → PredName → Kind → List Cell → List Item → Substitution → ℕ → ℕ → Move
calls_kind code p (Rules cs rs) g rest s next level = demanded (broken_call code.types cs cs (arguments g)) p rest (rules_move code p cs rs g rest s next level)
calls_kind code p (Shared object suspends) g rest s next level = asks_or_raises (pred_asking object g p) (full_name p) rest s next level
calls_kind code p Remote g rest s next level = calls_remote p g (handed_out g) rest s next level
calls_kind code p (Wrapped cs renamed) g rest s next level = to (Tests p cs renamed g rest s next level)

abbrev pub writes_if : (large : Bool) → List ℕ → List Cell → List Item → Substitution → ℕ → ℕ → Move
writes_if true bytes ctx rest s next level = raises (resource_error (codes "output_piece")) ctx rest
writes_if false bytes ctx rest s next level = to (Writes bytes ctx rest s next level)

abbrev pub writes : List ℕ → List Cell → List Item → Substitution → ℕ → ℕ → Move
writes bytes ctx rest s next level = writes_if (nat_lt 65535 (length bytes)) bytes ctx rest s next level

abbrev pub passes_if : Bool → List Item → Substitution → ℕ → ℕ → Move
passes_if true rest s next level = to (Runs rest s next level)
passes_if false rest s next level = to Fails

abbrev pub ends_as : builtins.End → List Cell → List Item → ℕ → Move
ends_as (builtins.Succeeds s next) ctx rest level = to (Runs rest s next level)
ends_as builtins.Fails ctx rest level = to Fails
ends_as (builtins.Raises kind) ctx rest level = raises kind ctx rest

abbrev pub builtin_move : Code → List ℕ → Builtin → List (List Cell) → List Cell → List Item → Substitution → ℕ → ℕ → Move
builtin_move code m (OnTerms b) args ctx rest s next level = ends_as (builtin b args s next) ctx rest level
builtin_move code m (Property name) args ctx rest s next level = passes_if (has code.types name (first_of args)) rest s next level
builtin_move code m (Write style) args ctx rest s next level = writes (piece_of code style m args) ctx rest s next level
builtin_move code m NewLine args ctx rest s next level = writes (codes "\n") ctx rest s next level
builtin_move code m (OnFacts f) args ctx rest s next level = asks_or_raises (fact_asking code f (seen_from m (first_of args)) ctx) ctx rest s next level
builtin_move code m Post args ctx rest s next level = asks_or_raises (post_goal m args ctx) ctx rest s next level
builtin_move code m Wait args ctx rest s next level = asks_or_raises (wait_goal args ctx) ctx rest s next level

abbrev pub called_move : Code → List ℕ → Option Pred → List Cell → List Cell → List Item → Substitution → ℕ → ℕ → Move
called_move code m (Some p) g ctx rest s next level = calls_kind code p.name p.kind (qualified m p.goals g) rest s next level
called_move code m None g ctx rest s next level = raises (existence_error (codes "procedure") ctx) ctx rest

abbrev pub named_move : Code → List ℕ → Option Builtin → (List ℕ × ℕ) → List Cell → List Item → Substitution → ℕ → ℕ → Move
named_move code m (Some b) f g rest s next level = builtin_move code m b (arguments g) (context m f.0 f.1) rest s next level
named_move code m None f g rest s next level = called_move code m (seen_pred code m f.0 f.1) g (context m f.0 f.1) rest s next level

abbrev pub functor_move : Code → List ℕ → Option (List ℕ × ℕ) → List Cell → List Item → Substitution → ℕ → ℕ → Move
functor_move code m (Some f) g rest s next level = named_move code m (builtin_goal f.0 f.1) f g rest s next level
functor_move code m None g rest s next level = to Fails

-- one charged goal, with the units that are left behind it
abbrev pub goal_move : Code → Body → ℕ → List Item → Substitution → ℕ → ℕ → Move
goal_move code Cut l rest s next level units copies fs = to (Runs rest s next level) units copies (drop_to l fs)
goal_move code True l rest s next level units copies fs = to (Runs rest s next level) units copies fs
goal_move code Fail l rest s next level units copies fs = to Fails units copies fs
-- not charged: `body_move` takes it
goal_move code (Both a b) l rest s next level units copies fs = to Stops units copies fs
goal_move code (Either a b) l rest s next level units copies fs =
    to (Runs (Goal a l ∷ rest) s next level) units copies (Alternative (Goal b l ∷ rest) s next level ∷ fs)
goal_move code (Choose c t e) l rest s next level units copies fs =
    to (Runs (Goal c (level + 2) ∷ CutNow (level + 1) ∷ Goal t l ∷ rest) s next (level + 2)) units copies
    (Mark (level + 2) ∷ Alternative (Goal e l ∷ rest) s next (level + 1) ∷ Mark (level + 1) ∷ fs)
goal_move code (CallOf m g extra) l rest s next level units copies fs =
    enters m g extra (context m (codes "call") (suc (length extra))) rest s next level units copies fs
goal_move code (CatchOf m g catcher recovery) l rest s next level units copies fs =
    enters m g [] (context m (codes "catch") 3) (Leave (suc level) ∷ rest) s next level units copies (Catching (suc level) m catcher recovery rest s next level ∷ fs)
goal_move code (ThrowOf m t) l rest s next level units copies fs =
    throws_if (is_unbound (apply s t)) (apply s t) (context m (codes "throw") 1) rest units copies fs
goal_move code (FindAll m x g result) l rest s next level units copies fs =
    enters m g [] (context m (codes "findall") 3) (Copy x (context m (codes "findall") 3) ∷ rest) s next level units [] (Gathering copies result rest s next level ∷ fs)
goal_move code (Plain m g) l rest s next level units copies fs =
    functor_move code m (functor_of (apply s g)) (apply s g) rest s next level units copies fs

abbrev pub charged : ℕ → List (List Cell) → List Frame → (ℕ → State) → State
charged zero copies fs on = to Stops 0 copies fs
charged (suc units) copies fs on = on units

abbrev pub body_move : Code → Body → ℕ → List Item → Substitution → ℕ → ℕ → Move
body_move code (Both a b) l rest s next level units copies fs = to (Runs (Goal a l ∷ Goal b l ∷ rest) s next level) units copies fs
body_move code b l rest s next level units copies fs = charged units copies fs (λ units. goal_move code b l rest s next level units copies fs)

abbrev pub exits : Option ℕ → PredName → List Item → Substitution → ℕ → ℕ → Move
exits (Some k) p rest s next level = to (Throws (check_ball (codes "success") p k) (catchers rest))
exits None p rest s next level = to (Runs rest s next level)

abbrev pub copies_move : Result (List Cell) (List Cell) → List Cell → List Item → Move
copies_move (Ok t) ctx rest units copies fs = to Fails units (copies ++ t ∷ []) fs
copies_move (Err kind) ctx rest units copies fs = raises kind ctx rest units copies fs

abbrev pub answers_move : Code → List Cell → Result (List Cell) (List Cell) → Move
answers_move code goal (Ok t) = to (Answers t)
answers_move code goal (Err kind) = raises kind (goal_context code (seen_from code.first goal)) []

abbrev pub item_move : Code → List Cell → List Item → Substitution → ℕ → ℕ → Move
item_move code goal [] s next level units copies fs = answers_move code goal (handed_out (apply s (without_module goal (arguments goal)))) units copies fs
item_move code goal (Goal b l ∷ rest) s next level units copies fs = body_move code b l rest s next level units copies fs
item_move code goal (AskFrom a place ∷ rest) s next level units copies fs = charged units copies fs (λ units. to (Asks a (Some place) rest s next level) units copies fs)
item_move code goal (CutNow l ∷ rest) s next level units copies fs = to (Runs rest s next level) units copies (drop_to l fs)
item_move code goal (Leave k ∷ rest) s next level units copies fs = to (Runs rest s next level) units copies fs
item_move code goal (Exit p cs g ∷ rest) s next level units copies fs = exits (broken_exit code.types cs (arguments (apply s g))) p rest s next level units copies fs
-- not met: the point Tests takes both
item_move code goal (Demands p cs g ∷ rest) s next level units copies fs = to Fails units copies fs
item_move code goal (Renamed p cs g ∷ rest) s next level units copies fs = to Fails units copies fs
item_move code goal (Copy x ctx ∷ rest) s next level units copies fs = copies_move (handed_out (apply s x)) ctx rest units copies fs

-- the first clause whose head unifies
abbrev pub clause_move : Option Substitution → Clause → List Clause → List Cell → List Item → Substitution → ℕ → ℕ → Move
clause_move None c cs g rest s next level units copies fs = to (Tries cs g rest s next level) units copies fs
clause_move (Some s') c cs g rest s next level units copies fs =
    to (Runs (body_before c.body next level rest) s' (next + c.variables) level) units copies (Clauses cs g rest s next level ∷ fs)

abbrev pub tries_move : List Clause → List Cell → List Item → Substitution → ℕ → ℕ → Move
tries_move [] g rest s next level = to Fails
tries_move (c ∷ cs) g rest s next level = clause_move (unify s g (fresh next c.head)) c cs g rest s next level

-- the next answer of a remote call that unifies, and what stands behind the answers
abbrev pub behind_move : RemoteFollows → List Cell → List Item → Move
behind_move after_answers.Fails ctx rest = to Fails
behind_move (after_answers.Throws t) ctx rest = throws_copy (handed_out t) ctx rest
behind_move (after_answers.Breaks kind) ctx rest = raises kind ctx rest

abbrev pub answer_move : Option Substitution → List Cell → List (List Cell) → RemoteFollows → List Cell → List Cell → List Item → Substitution → ℕ → ℕ → Move
answer_move None a answers behind g ctx rest s next level units copies fs = to (Gives answers behind g ctx rest s next level) units copies fs
answer_move (Some s') a answers behind g ctx rest s next level units copies fs =
    to (Runs rest s' (next + next_variable a) level) units copies (Answering answers behind g ctx rest s next level ∷ fs)

abbrev pub gives_move : List (List Cell) → RemoteFollows → List Cell → List Cell → List Item → Substitution → ℕ → ℕ → Move
gives_move [] behind g ctx rest s next level = behind_move behind ctx rest
gives_move (a ∷ answers) behind g ctx rest s next level = answer_move (unify s g (fresh next a)) a answers behind g ctx rest s next level

-- the predicate as it was, behind its tests
abbrev pub renamed_move : Code → Option Pred → List Check → List Cell → List Item → Substitution → ℕ → ℕ → Move
renamed_move code (Some p) cs g rest s next level = rules_move code p.name cs (rules_of_kind p.kind) g rest s next level
renamed_move code None cs g rest s next level = to Fails

-- back to the last frame
abbrev pub fail_move : List Frame → ℕ → List (List Cell) → State
fail_move [] units copies = to Fails units copies []
fail_move (Alternative items s next level ∷ fs) units copies = to (Runs items s next level) units copies fs
fail_move (Clauses cs g rest s next level ∷ fs) units copies = to (Tries cs g rest s next level) units copies fs
fail_move (Mark level ∷ fs) units copies = to Fails units copies fs
fail_move (Catching k seer catcher recovery rest s next level ∷ fs) units copies = to Fails units copies fs
fail_move (Gathering outer result rest s next level ∷ fs) units copies =
    runs_if (unify s result (list_term (apart next copies))) rest (next + variables_in copies) level units outer fs
fail_move (Answering answers behind g ctx rest s next level ∷ fs) units copies = to (Gives answers behind g ctx rest s next level) units copies fs

abbrev pub recovers : Bool → Option Substitution → List ℕ → List Cell → List Item → ℕ → ℕ → List Cell → List ℕ → Move
recovers true (Some s) m recovery rest next level b ks = enters m recovery [] (context m (codes "catch") 3) rest s next level
recovers true None m recovery rest next level b ks = to (Throws b ks)
recovers false o m recovery rest next level b ks = to (Throws b ks)

abbrev pub throw_move : List Frame → List Cell → List ℕ → ℕ → List (List Cell) → State
throw_move [] b ks units copies = to (Throws b ks) units copies []
throw_move (Alternative items s next level ∷ fs) b ks units copies = to (Throws b ks) units copies fs
throw_move (Clauses cs g rest s next level ∷ fs) b ks units copies = to (Throws b ks) units copies fs
throw_move (Mark level ∷ fs) b ks units copies = to (Throws b ks) units copies fs
throw_move (Catching k seer catcher recovery rest s next level ∷ fs) b ks units copies =
    recovers (is_among k ks) (unify s catcher (fresh next b)) seer recovery rest (next + next_variable b) level b ks units copies fs
throw_move (Gathering outer result rest s next level ∷ fs) b ks units copies = to (Throws b ks) units outer fs
throw_move (Answering answers behind g ctx rest s next level ∷ fs) b ks units copies = to (Throws b ks) units copies fs

-- one move
abbrev pub point_move : Code → List Cell → Point → ℕ → List (List Cell) → List Frame → State
point_move code goal (Runs items s next level) units copies fs = item_move code goal items s next level units copies fs
point_move code goal (Tries cs g rest s next level) units copies fs = tries_move cs g rest s next level units copies fs
point_move code goal (Tests p cs renamed g rest s next level) units copies fs =
    demanded (broken_call code.types cs cs (arguments g)) p rest (renamed_move code (slice_get code.renamed renamed) cs g rest s next level) units copies fs
point_move code goal (Gives answers behind g ctx rest s next level) units copies fs = gives_move answers behind g ctx rest s next level units copies fs
point_move code goal Fails units copies fs = fail_move fs units copies
point_move code goal (Throws b ks) units copies fs = throw_move fs b ks units copies
point_move code goal p units copies fs = to p units copies fs

abbrev pub move : Code → List Cell → State → State
move code goal st = point_move code goal st.point st.units st.copies st.frames

-- ---- an input

abbrev pub facts_told : Option Substitution → Asking → ℤ → List Item → Substitution → ℕ → ℕ → ℕ → Move
facts_told None a place rest s next next' level units copies fs = to Fails units copies fs
facts_told (Some s') a place rest s next next' level units copies fs =
    to (Runs rest s' next' level) units copies (Alternative (AskFrom a place ∷ rest) s next level ∷ fs)

abbrev pub reply_told : Follows → Asking → Option ℤ → List Item → Substitution → ℕ → ℕ → Move
reply_told Again a from rest s next level = to (Asks a from rest s next level)
reply_told (Facts place pattern fact) a from rest s next level = facts_told (unify s pattern (fresh next fact)) a place rest s next (next + next_variable fact) level
reply_told (Fact pattern fact) a from rest s next level = passes_if (unifiable_apart pattern fact) rest s next level
reply_told (Number number place) a from rest s next level = runs_if (unify s number (Int place ∷ [])) rest next level
reply_told Rest a from rest s next level = to (Runs rest s next level)
reply_told Nothing a from rest s next level = to Fails
reply_told (Raises kind) a from rest s next level = raises kind a.error_context rest

abbrev pub asks_told : Input → Asking → Option ℤ → List Item → Substitution → ℕ → ℕ → Move
asks_told (input.Reply r) a from rest s next level = reply_told (follows a.manner r) a from rest s next level
asks_told i a from rest s next level = to Fails

abbrev pub writes_told : Input → List Cell → List Item → Substitution → ℕ → ℕ → Move
writes_told (input.Put put.Wrote) ctx rest s next level = to (Runs rest s next level)
writes_told (input.Put put.Failed) ctx rest s next level = raises (system_error (codes "output")) ctx rest
writes_told i ctx rest s next level = to Fails

abbrev pub calls_told : Input → PredName → List Cell → List Item → Substitution → ℕ → ℕ → Move
calls_told (input.Remote r) p g rest s next level = to (Gives ((answers_of p r).answers) ((answers_of p r).behind) g (full_name p) rest s next level)
calls_told i p g rest s next level = to Fails

abbrev pub point_told : Point → Input → Move
point_told (Asks a from rest s next level) i = asks_told i a from rest s next level
point_told (Writes bytes ctx rest s next level) i = writes_told i ctx rest s next level
point_told (Calls p g handed rest s next level) i = calls_told i p g rest s next level
point_told (Answers t) i = to Fails
point_told p i = to p

abbrev pub told : State → Input → State
told st i = point_told st.point i st.units st.copies st.frames

-- ---- what is answered where no move is left

abbrev pub last_of : List Frame → Next → Option Next
last_of [] n = Some n
last_of (f ∷ fs) n = None

abbrev pub ready_at : Point → List Frame → Option Next
ready_at (Runs items s next level) fs = None
ready_at (Tries cs g rest s next level) fs = None
ready_at (Tests p cs renamed g rest s next level) fs = None
ready_at (Gives answers behind g ctx rest s next level) fs = None
ready_at Fails fs = last_of fs (request.End how.Done)
ready_at (Throws b ks) fs = last_of fs (request.End (how.Ball b))
ready_at (Asks a from rest s next level) fs = Some (request.Ask a.object (a.call from))
ready_at (Writes bytes ctx rest s next level) fs = Some (request.Put bytes)
ready_at (Calls p g handed rest s next level) fs = Some (remote_call p handed)
ready_at (Answers t) fs = Some (request.Answer t)
ready_at Stops fs = Some (request.End how.Steps)

abbrev pub ready : State → Option Next
ready st = ready_at st.point st.frames

-- the first state of a goal
abbrev pub first_state : Code → List Cell → State
first_state code goal = enters code.first goal [] (context code.first (codes "call") 1) [] [] (next_variable goal) 0 code.budget [] []
