-- How far a state of the machine is from the next unit, the next catch or the next answer: each move that is not charged and
-- meets no catch makes it lighter.
use Rattle.std.proofs.Common.{◌≡◌, refl, sym, ap, subst, ◌∙◌, ℕ, zero, suc, ◌+◌, ◌<◌, ◌≤◌, Bool, true, false, cond, List, [], ◌∷◌, Option, Some, None, length, arith}
use Rattle.std.specs.Prelude.{nat_eq, nat_lt, Result, Ok, Err, codes, slice_get, map}
use Rattle.cp_term.specs.declared.cell.Cell.{Cell}
use Rattle.cp_term.specs.declared.pred_name.PredName.{PredName}
use Rattle.cp_term.specs.Preorder.{arguments}
use Rattle.cp_term.specs.Numbering.{fresh, next_variable}
use Rattle.cp_term.specs.Substitution.{Substitution, apply}
use Rattle.cp_term.specs.Unification.{unify}
use Rattle.cp_goal.specs.Builtins as builtins
use Rattle.cp_goal.specs.Builtins.{builtin, context}
use Rattle.cp_goal.specs.Lists.{list_term}
use Rattle.cp_code.specs.Bodies.{Body, Cut, True, Fail, Both, Either, Choose, CallOf, CatchOf, ThrowOf, FindAll, Plain, body_of, fresh_body, Seen, seen_from}
use Rattle.cp_code.specs.Properties.{has}
use Rattle.cp_code.specs.Checks.{Check, broken_call, held, broken_exit}
use Rattle.cp_code.specs.Code.{Code, Clause, Pred, Kind, Rules, Shared, Remote, Wrapped}
use Rattle.cp_code.specs.Goals.{Builtin, OnTerms, Property, Write, NewLine, OnFacts, Post, Wait, builtin_goal, seen_pred}
use Rattle.cp_code.specs.Requests.{Asking, handed_out, functor_of, full_name, fact_asking, pred_asking, post_goal, wait_goal, RemoteFollows, is_unbound}
use Rattle.cp_code.specs.Requests as after_answers
use Rattle.cp_code.specs.Tree.{Item, Goal, AskFrom, CutNow, Leave, Copy, Exit, Demands, Renamed, extended, behind, rules_of_kind, is_among, apart, variables_in, body_before, qualified, piece_of, first_of, without_module}
use Rattle.cp_code.specs.Machine.{Frame, Alternative, Clauses, Mark, Catching, Gathering, Answering, Point, Runs, Tests, Tries, Gives, Fails, Throws, Asks, Writes, Calls, Answers, Stops, State, drop_to, Move, to, throws_copy, throws_if, runs_if, enters_body, enters_goal, enters_if, enters, demanded, rules_move, asks_or_raises, calls_remote, calls_kind, writes_if, passes_if, ends_as, builtin_move, called_move, named_move, functor_move, goal_move, charged, body_move, exits, copies_move, answers_move, item_move, clause_move, tries_move, behind_move, answer_move, gives_move, renamed_move, fail_move, recovers, throw_move, point_move, move, ready_at, ready}

-- ---- weights

abbrev pub body_weight : Body → ℕ
body_weight (Both a b) = suc (body_weight a + body_weight b)
body_weight b = 1

abbrev pub item_weight : Item → ℕ
item_weight (Goal b l) = body_weight b
item_weight i = 1

abbrev pub items_weight : List Item → ℕ
items_weight [] = 0
items_weight (i ∷ items) = item_weight i + items_weight items

abbrev pub clause_weight : Option Body → ℕ
clause_weight None = 0
clause_weight (Some b) = body_weight b

-- of clauses, and of answers, with the weight of what stands behind them
abbrev pub clauses_weight : List Clause → ℕ → ℕ
clauses_weight [] rest = 1
clauses_weight (c ∷ cs) rest = 3 + clause_weight c.body + rest + clauses_weight cs rest

abbrev pub answers_weight : List (List Cell) → ℕ → ℕ
answers_weight [] rest = 1
answers_weight (a ∷ answers) rest = 3 + rest + answers_weight answers rest

abbrev pub renamed_weight : Option Pred → ℕ → ℕ
renamed_weight None rest = 0
renamed_weight (Some p) rest = clauses_weight (rules_of_kind p.kind) rest

abbrev pub point_weight : Code → Point → ℕ
point_weight code (Runs items s next level) = suc (items_weight items)
point_weight code (Tests p cs renamed g rest s next level) = 3 + renamed_weight (slice_get code.renamed renamed) (suc (items_weight rest))
point_weight code (Tries cs g rest s next level) = clauses_weight cs (items_weight rest)
point_weight code (Gives answers behind g ctx rest s next level) = answers_weight answers (items_weight rest)
point_weight code p = 0

abbrev pub frame_weight : Frame → ℕ
frame_weight (Alternative items s next level) = 2 + items_weight items
frame_weight (Clauses cs g rest s next level) = suc (clauses_weight cs (items_weight rest))
frame_weight (Mark level) = 1
frame_weight (Catching k seer catcher recovery rest s next level) = 1
frame_weight (Gathering outer result rest s next level) = 2 + items_weight rest
frame_weight (Answering answers behind g ctx rest s next level) = suc (answers_weight answers (items_weight rest))

abbrev pub frames_weight : List Frame → ℕ
frames_weight [] = 0
frames_weight (f ∷ fs) = frame_weight f + frames_weight fs

abbrev pub catches : List Frame → ℕ
catches [] = 0
catches (Catching k seer catcher recovery rest s next level ∷ fs) = suc (catches fs)
catches (f ∷ fs) = catches fs

abbrev pub weight : Code → State → ℕ
weight code st = point_weight code st.point + frames_weight st.frames

-- a state is below so many units, catches and so much weight, in this order
pub data Below (code : Code) (u c w : ℕ) (st : State) : Type 0 where
  fewer_units : st.units < u → Below code u c w st
  fewer_catches : st.units ≤ u → catches st.frames < c → Below code u c w st
  lighter : st.units ≤ u → catches st.frames ≤ c → weight code st < w → Below code u c w st

-- ---- units and catches that a move leaves

abbrev HasUnits : ℕ → State → Type 0
HasUnits u st = st.units ≡ u

-- the units are those that were handed to the move
abbrev KeepsUnits : Move → Type 0
KeepsUnits m = (units : ℕ) (copies : List (List Cell)) (fs : List Frame) → (m units copies fs).units ≡ units

throws_copy_units : (t : Result (List Cell) (List Cell)) (ctx : List Cell) (rest : List Item) → KeepsUnits (throws_copy t ctx rest)
throws_copy_units (Ok t) ctx rest units copies fs = refl
throws_copy_units (Err kind) ctx rest units copies fs = refl

throws_if_units : (b : Bool) (t ctx : List Cell) (rest : List Item) → KeepsUnits (throws_if b t ctx rest)
throws_if_units true t ctx rest units copies fs = refl
throws_if_units false t ctx rest units copies fs = throws_copy_units (handed_out t) ctx rest units copies fs

enters_body_units : (o : Option Body) (g ctx : List Cell) (rest : List Item) (s : Substitution) (next level : ℕ) → KeepsUnits (enters_body o g ctx rest s next level)
enters_body_units None g ctx rest s next level units copies fs = refl
enters_body_units (Some b) g ctx rest s next level units copies fs = refl

enters_goal_units : (m : List ℕ) (g : Result (List Cell) (List Cell)) (ctx : List Cell) (rest : List Item) (s : Substitution) (next level : ℕ) → KeepsUnits (enters_goal m g ctx rest s next level)
enters_goal_units m (Ok g) ctx rest s next level units copies fs = enters_body_units (body_of m g) g ctx rest s next level units copies fs
enters_goal_units m (Err kind) ctx rest s next level units copies fs = refl

enters_if_units : (b : Bool) (g : Seen) (extra : List (List Cell)) (ctx : List Cell) (rest : List Item) (s : Substitution) (next level : ℕ) → KeepsUnits (enters_if b g extra ctx rest s next level)
enters_if_units true g extra ctx rest s next level units copies fs = refl
enters_if_units false g extra ctx rest s next level units copies fs = enters_goal_units g.seer (extended g.goal extra) ctx rest s next level units copies fs

enters_units : (m : List ℕ) (g : List Cell) (extra : List (List Cell)) (ctx : List Cell) (rest : List Item) (s : Substitution) (next level : ℕ) → KeepsUnits (enters m g extra ctx rest s next level)
enters_units m g extra ctx rest s next level units copies fs =
    enters_if_units (is_unbound ((seen_from m (apply s g)).goal)) (seen_from m (apply s g)) (map (apply s) extra) ctx rest s next level units copies fs

demanded_units : (o : Option ℕ) (p : PredName) (rest : List Item) (m : Move) → KeepsUnits m → KeepsUnits (demanded o p rest m)
demanded_units (Some k) p rest m h units copies fs = refl
demanded_units None p rest m h units copies fs = h units copies fs

asks_units : (a : Result Asking (List Cell)) (ctx : List Cell) (rest : List Item) (s : Substitution) (next level : ℕ) → KeepsUnits (asks_or_raises a ctx rest s next level)
asks_units (Ok a) ctx rest s next level units copies fs = refl
asks_units (Err kind) ctx rest s next level units copies fs = refl

remote_units : (p : PredName) (g : List Cell) (h : Result (List Cell) (List Cell)) (rest : List Item) (s : Substitution) (next level : ℕ) → KeepsUnits (calls_remote p g h rest s next level)
remote_units p g (Ok handed) rest s next level units copies fs = refl
remote_units p g (Err kind) rest s next level units copies fs = refl

kind_units : (code : Code) (p : PredName) (k : Kind) (g : List Cell) (rest : List Item) (s : Substitution) (next level : ℕ) → KeepsUnits (calls_kind code p k g rest s next level)
kind_units code p (Rules cs rs) g rest s next level units copies fs =
    demanded_units (broken_call code.types cs cs (arguments g)) p rest (rules_move code p cs rs g rest s next level) (λ units copies fs. refl) units copies fs
kind_units code p (Shared object suspends) g rest s next level units copies fs = asks_units (pred_asking object g p) (full_name p) rest s next level units copies fs
kind_units code p Remote g rest s next level units copies fs = remote_units p g (handed_out g) rest s next level units copies fs
kind_units code p (Wrapped cs renamed) g rest s next level units copies fs = refl

writes_units : (b : Bool) (bytes : List ℕ) (ctx : List Cell) (rest : List Item) (s : Substitution) (next level : ℕ) → KeepsUnits (writes_if b bytes ctx rest s next level)
writes_units true bytes ctx rest s next level units copies fs = refl
writes_units false bytes ctx rest s next level units copies fs = refl

passes_units : (b : Bool) (rest : List Item) (s : Substitution) (next level : ℕ) → KeepsUnits (passes_if b rest s next level)
passes_units true rest s next level units copies fs = refl
passes_units false rest s next level units copies fs = refl

ends_units : (e : builtins.End) (ctx : List Cell) (rest : List Item) (level : ℕ) → KeepsUnits (ends_as e ctx rest level)
ends_units (builtins.Succeeds s next) ctx rest level units copies fs = refl
ends_units builtins.Fails ctx rest level units copies fs = refl
ends_units (builtins.Raises kind) ctx rest level units copies fs = refl

builtin_units : (code : Code) (m : List ℕ) (b : Builtin) (args : List (List Cell)) (ctx : List Cell) (rest : List Item) (s : Substitution) (next level : ℕ) → KeepsUnits (builtin_move code m b args ctx rest s next level)
builtin_units code m (OnTerms b) args ctx rest s next level units copies fs = ends_units (builtin b args s next) ctx rest level units copies fs
builtin_units code m (Property name) args ctx rest s next level units copies fs = passes_units (has code.types name (first_of args)) rest s next level units copies fs
builtin_units code m (Write style) args ctx rest s next level units copies fs =
    writes_units (nat_lt 65535 (length (piece_of code style m args))) (piece_of code style m args) ctx rest s next level units copies fs
builtin_units code m NewLine args ctx rest s next level units copies fs = writes_units (nat_lt 65535 (length (codes "\n"))) (codes "\n") ctx rest s next level units copies fs
builtin_units code m (OnFacts f) args ctx rest s next level units copies fs = asks_units (fact_asking code f (seen_from m (first_of args)) ctx) ctx rest s next level units copies fs
builtin_units code m Post args ctx rest s next level units copies fs = asks_units (post_goal m args ctx) ctx rest s next level units copies fs
builtin_units code m Wait args ctx rest s next level units copies fs = asks_units (wait_goal args ctx) ctx rest s next level units copies fs

called_units : (code : Code) (m : List ℕ) (o : Option Pred) (g ctx : List Cell) (rest : List Item) (s : Substitution) (next level : ℕ) → KeepsUnits (called_move code m o g ctx rest s next level)
called_units code m (Some p) g ctx rest s next level units copies fs = kind_units code p.name p.kind (qualified m p.goals g) rest s next level units copies fs
called_units code m None g ctx rest s next level units copies fs = refl

named_units : (code : Code) (m : List ℕ) (o : Option Builtin) (f : List ℕ × ℕ) (g : List Cell) (rest : List Item) (s : Substitution) (next level : ℕ) → KeepsUnits (named_move code m o f g rest s next level)
named_units code m (Some b) f g rest s next level units copies fs = builtin_units code m b (arguments g) (context m f.0 f.1) rest s next level units copies fs
named_units code m None f g rest s next level units copies fs = called_units code m (seen_pred code m f.0 f.1) g (context m f.0 f.1) rest s next level units copies fs

functor_units : (code : Code) (m : List ℕ) (o : Option (List ℕ × ℕ)) (g : List Cell) (rest : List Item) (s : Substitution) (next level : ℕ) → KeepsUnits (functor_move code m o g rest s next level)
functor_units code m (Some f) g rest s next level units copies fs = named_units code m (builtin_goal f.0 f.1) f g rest s next level units copies fs
functor_units code m None g rest s next level units copies fs = refl

goal_units : (code : Code) (b : Body) (l : ℕ) (rest : List Item) (s : Substitution) (next level : ℕ) → KeepsUnits (goal_move code b l rest s next level)
goal_units code Cut l rest s next level units copies fs = refl
goal_units code True l rest s next level units copies fs = refl
goal_units code Fail l rest s next level units copies fs = refl
goal_units code (Both a b) l rest s next level units copies fs = refl
goal_units code (Either a b) l rest s next level units copies fs = refl
goal_units code (Choose c t e) l rest s next level units copies fs = refl
goal_units code (CallOf m g extra) l rest s next level units copies fs = enters_units m g extra (context m (codes "call") (suc (length extra))) rest s next level units copies fs
goal_units code (CatchOf m g catcher recovery) l rest s next level units copies fs =
    enters_units m g [] (context m (codes "catch") 3) (Leave (suc level) ∷ rest) s next level units copies (Catching (suc level) m catcher recovery rest s next level ∷ fs)
goal_units code (ThrowOf m t) l rest s next level units copies fs = throws_if_units (is_unbound (apply s t)) (apply s t) (context m (codes "throw") 1) rest units copies fs
goal_units code (FindAll m x g result) l rest s next level units copies fs =
    enters_units m g [] (context m (codes "findall") 3) (Copy x (context m (codes "findall") 3) ∷ rest) s next level units [] (Gathering copies result rest s next level ∷ fs)
goal_units code (Plain m g) l rest s next level units copies fs = functor_units code m (functor_of (apply s g)) (apply s g) rest s next level units copies fs

-- a term that is run as a goal adds no catch
abbrev KeepsCatches : Move → Type 0
KeepsCatches m = (units : ℕ) (copies : List (List Cell)) (fs : List Frame) → catches ((m units copies fs).frames) ≡ catches fs

enters_body_catches : (o : Option Body) (g ctx : List Cell) (rest : List Item) (s : Substitution) (next level : ℕ) → KeepsCatches (enters_body o g ctx rest s next level)
enters_body_catches None g ctx rest s next level units copies fs = refl
enters_body_catches (Some b) g ctx rest s next level units copies fs = refl

enters_goal_catches : (m : List ℕ) (g : Result (List Cell) (List Cell)) (ctx : List Cell) (rest : List Item) (s : Substitution) (next level : ℕ) → KeepsCatches (enters_goal m g ctx rest s next level)
enters_goal_catches m (Ok g) ctx rest s next level units copies fs = enters_body_catches (body_of m g) g ctx rest s next level units copies fs
enters_goal_catches m (Err kind) ctx rest s next level units copies fs = refl

enters_if_catches : (b : Bool) (g : Seen) (extra : List (List Cell)) (ctx : List Cell) (rest : List Item) (s : Substitution) (next level : ℕ) → KeepsCatches (enters_if b g extra ctx rest s next level)
enters_if_catches true g extra ctx rest s next level units copies fs = refl
enters_if_catches false g extra ctx rest s next level units copies fs = enters_goal_catches g.seer (extended g.goal extra) ctx rest s next level units copies fs

enters_catches : (m : List ℕ) (g : List Cell) (extra : List (List Cell)) (ctx : List Cell) (rest : List Item) (s : Substitution) (next level : ℕ) → KeepsCatches (enters m g extra ctx rest s next level)
enters_catches m g extra ctx rest s next level units copies fs =
    enters_if_catches (is_unbound ((seen_from m (apply s g)).goal)) (seen_from m (apply s g)) (map (apply s) extra) ctx rest s next level units copies fs

-- ---- what weighs

fresh_weight : (n : ℕ) (b : Body) → body_weight (fresh_body n b) ≡ body_weight b
unfolding fresh_body
fresh_weight n (Both a b) = ap (λ k. suc (k + body_weight (fresh_body n b))) (fresh_weight n a) ∙ ap (λ k. suc (body_weight a + k)) (fresh_weight n b)
fresh_weight n b = refl

before_weight : (o : Option Body) (next level : ℕ) (rest : List Item) → items_weight (body_before o next level rest) ≡ clause_weight o + items_weight rest
before_weight None next level rest = omega arith
before_weight (Some b) next level rest = ap (λ k. k + items_weight rest) (fresh_weight next b)

dropped_weight : (l : ℕ) (fs : List Frame) → frames_weight (drop_to l fs) ≤ frames_weight fs
dropped_weight l [] = omega arith
dropped_weight l (Alternative items s next level ∷ fs) = let h : frames_weight (drop_to l fs) ≤ frames_weight fs = dropped_weight l fs in omega arith
dropped_weight l (Clauses cs g rest s next level ∷ fs) = let h : frames_weight (drop_to l fs) ≤ frames_weight fs = dropped_weight l fs in omega arith
dropped_weight l (Mark k ∷ fs) = mark (nat_eq k l) (dropped_weight l fs)
  where
    mark : (b : Bool) → frames_weight (drop_to l fs) ≤ frames_weight fs → frames_weight (cond b (Mark k ∷ fs) (drop_to l fs)) ≤ frames_weight (Mark k ∷ fs)
    mark true h = omega arith
    mark false h = omega arith
dropped_weight l (Catching k seer catcher recovery rest s next level ∷ fs) = let h : frames_weight (drop_to l fs) ≤ frames_weight fs = dropped_weight l fs in omega arith
dropped_weight l (Gathering outer result rest s next level ∷ fs) = let h : frames_weight (drop_to l fs) ≤ frames_weight fs = dropped_weight l fs in omega arith
dropped_weight l (Answering answers b g ctx rest s next level ∷ fs) = let h : frames_weight (drop_to l fs) ≤ frames_weight fs = dropped_weight l fs in omega arith

dropped_catches : (l : ℕ) (fs : List Frame) → catches (drop_to l fs) ≤ catches fs
dropped_catches l [] = omega arith
dropped_catches l (Alternative items s next level ∷ fs) = dropped_catches l fs
dropped_catches l (Clauses cs g rest s next level ∷ fs) = dropped_catches l fs
dropped_catches l (Mark k ∷ fs) = mark (nat_eq k l) (dropped_catches l fs)
  where
    mark : (b : Bool) → catches (drop_to l fs) ≤ catches fs → catches (cond b (Mark k ∷ fs) (drop_to l fs)) ≤ catches fs
    mark true h = omega arith
    mark false h = h
dropped_catches l (Catching k seer catcher recovery rest s next level ∷ fs) = let h : catches (drop_to l fs) ≤ catches fs = dropped_catches l fs in omega arith
dropped_catches l (Gathering outer result rest s next level ∷ fs) = dropped_catches l fs
dropped_catches l (Answering answers b g ctx rest s next level ∷ fs) = dropped_catches l fs

clauses_heavier : (cs : List Clause) (m n : ℕ) → m ≤ n → clauses_weight cs m ≤ clauses_weight cs n
clauses_heavier [] m n le = omega arith
clauses_heavier (c ∷ cs) m n le = let h : clauses_weight cs m ≤ clauses_weight cs n = clauses_heavier cs m n le in omega arith

behind_weight : (p : PredName) (cs : List Check) (g : List Cell) (rest : List Item) → items_weight (behind p cs g rest) ≤ suc (items_weight rest)
behind_weight p [] g rest = omega arith
behind_weight p (c ∷ cs) g rest = omega arith

-- ---- each move

-- a move from this point, with as many units, that is not charged
light : (code : Code) (p : Point) (units w : ℕ) (copies : List (List Cell)) (fs : List Frame) (c : ℕ) → catches fs ≤ c → point_weight code p + frames_weight fs < w → Below code units c w (to p units copies fs)
light code p units w copies fs c le lt = lighter (omega arith) le lt

runs_if_below : (code : Code) (o : Option Substitution) (rest : List Item) (next level units w : ℕ) (copies : List (List Cell)) (fs : List Frame) (c : ℕ) → catches fs ≤ c → suc (items_weight rest) + frames_weight fs < w → Below code units c w (runs_if o rest next level units copies fs)
runs_if_below code None rest next level units w copies fs c le lt = light code Fails units w copies fs c le (omega arith)
runs_if_below code (Some s) rest next level units w copies fs c le lt = light code (Runs rest s next level) units w copies fs c le lt

throws_copy_below : (code : Code) (t : Result (List Cell) (List Cell)) (ctx : List Cell) (rest : List Item) (units w : ℕ) (copies : List (List Cell)) (fs : List Frame) → frames_weight fs < w → Below code units (catches fs) w (throws_copy t ctx rest units copies fs)
throws_copy_below code (Ok t) ctx rest units w copies fs lt = lighter (omega arith) (omega arith) (omega arith)
throws_copy_below code (Err kind) ctx rest units w copies fs lt = lighter (omega arith) (omega arith) (omega arith)

exits_below : (code : Code) (o : Option ℕ) (p : PredName) (rest : List Item) (s : Substitution) (next level units w : ℕ) (copies : List (List Cell)) (fs : List Frame) → suc (items_weight rest) + frames_weight fs < w → Below code units (catches fs) w (exits o p rest s next level units copies fs)
exits_below code (Some k) p rest s next level units w copies fs lt = lighter (omega arith) (omega arith) (omega arith)
exits_below code None p rest s next level units w copies fs lt = lighter (omega arith) (omega arith) (omega arith)

copies_below : (code : Code) (t : Result (List Cell) (List Cell)) (ctx : List Cell) (rest : List Item) (units w : ℕ) (copies : List (List Cell)) (fs : List Frame) → frames_weight fs < w → Below code units (catches fs) w (copies_move t ctx rest units copies fs)
copies_below code (Ok t) ctx rest units w copies fs lt = lighter (omega arith) (omega arith) (omega arith)
copies_below code (Err kind) ctx rest units w copies fs lt = lighter (omega arith) (omega arith) (omega arith)

answers_below : (code : Code) (goal : List Cell) (t : Result (List Cell) (List Cell)) (units w : ℕ) (copies : List (List Cell)) (fs : List Frame) → frames_weight fs < w → Below code units (catches fs) w (answers_move code goal t units copies fs)
answers_below code goal (Ok t) units w copies fs lt = lighter (omega arith) (omega arith) (omega arith)
answers_below code goal (Err kind) units w copies fs lt = lighter (omega arith) (omega arith) (omega arith)

charged_below : (code : Code) (units w : ℕ) (copies : List (List Cell)) (fs : List Frame) (on : ℕ → State) → ((left : ℕ) → (on left).units ≡ left) → frames_weight fs < w → Below code units (catches fs) w (charged units copies fs on)
charged_below code zero w copies fs on h lt = lighter (omega arith) (omega arith) (omega arith)
charged_below code (suc units) w copies fs on h lt = let e : (on units).units ≡ units = h units in fewer_units (omega arith)

body_below : (code : Code) (b : Body) (l : ℕ) (rest : List Item) (s : Substitution) (next level units : ℕ) (copies : List (List Cell)) (fs : List Frame)
    → Below code units (catches fs) (suc (body_weight b + items_weight rest) + frames_weight fs) (body_move code b l rest s next level units copies fs)
body_below code (Both a b) l rest s next level units copies fs = lighter (omega arith) (omega arith) (omega arith)
body_below code Cut l rest s next level units copies fs = charged_below code units _ copies fs _ (λ left. goal_units code Cut l rest s next level left copies fs) (omega arith)
body_below code True l rest s next level units copies fs = charged_below code units _ copies fs _ (λ left. goal_units code True l rest s next level left copies fs) (omega arith)
body_below code Fail l rest s next level units copies fs = charged_below code units _ copies fs _ (λ left. goal_units code Fail l rest s next level left copies fs) (omega arith)
body_below code (Either a b) l rest s next level units copies fs = charged_below code units _ copies fs _ (λ left. goal_units code (Either a b) l rest s next level left copies fs) (omega arith)
body_below code (Choose c t e) l rest s next level units copies fs = charged_below code units _ copies fs _ (λ left. goal_units code (Choose c t e) l rest s next level left copies fs) (omega arith)
body_below code (CallOf m g extra) l rest s next level units copies fs = charged_below code units _ copies fs _ (λ left. goal_units code (CallOf m g extra) l rest s next level left copies fs) (omega arith)
body_below code (CatchOf m g catcher r) l rest s next level units copies fs = charged_below code units _ copies fs _ (λ left. goal_units code (CatchOf m g catcher r) l rest s next level left copies fs) (omega arith)
body_below code (ThrowOf m t) l rest s next level units copies fs = charged_below code units _ copies fs _ (λ left. goal_units code (ThrowOf m t) l rest s next level left copies fs) (omega arith)
body_below code (FindAll m x g result) l rest s next level units copies fs = charged_below code units _ copies fs _ (λ left. goal_units code (FindAll m x g result) l rest s next level left copies fs) (omega arith)
body_below code (Plain m g) l rest s next level units copies fs = charged_below code units _ copies fs _ (λ left. goal_units code (Plain m g) l rest s next level left copies fs) (omega arith)

items_below : (code : Code) (goal : List Cell) (items : List Item) (s : Substitution) (next level units : ℕ) (copies : List (List Cell)) (fs : List Frame)
    → Below code units (catches fs) (suc (items_weight items) + frames_weight fs) (item_move code goal items s next level units copies fs)
items_below code goal [] s next level units copies fs = answers_below code goal (handed_out (apply s (without_module goal (arguments goal)))) units _ copies fs (omega arith)
items_below code goal (Goal b l ∷ rest) s next level units copies fs = body_below code b l rest s next level units copies fs
items_below code goal (AskFrom a place ∷ rest) s next level units copies fs = charged_below code units _ copies fs _ (λ left. refl) (omega arith)
items_below code goal (CutNow l ∷ rest) s next level units copies fs =
    let c : catches (drop_to l fs) ≤ catches fs = dropped_catches l fs in
    let w : frames_weight (drop_to l fs) ≤ frames_weight fs = dropped_weight l fs in
    lighter (omega arith) c (omega arith)
items_below code goal (Leave k ∷ rest) s next level units copies fs = lighter (omega arith) (omega arith) (omega arith)
items_below code goal (Demands p cs g ∷ rest) s next level units copies fs = lighter (omega arith) (omega arith) (omega arith)
items_below code goal (Renamed p cs g ∷ rest) s next level units copies fs = lighter (omega arith) (omega arith) (omega arith)
items_below code goal (Exit p cs g ∷ rest) s next level units copies fs = exits_below code (broken_exit code.types cs (arguments (apply s g))) p rest s next level units _ copies fs (omega arith)
items_below code goal (Copy x ctx ∷ rest) s next level units copies fs = copies_below code (handed_out (apply s x)) ctx rest units _ copies fs (omega arith)

clause_below : (code : Code) (o : Option Substitution) (c : Clause) (cs : List Clause) (g : List Cell) (rest : List Item) (s : Substitution) (next level units : ℕ) (copies : List (List Cell)) (fs : List Frame)
    → Below code units (catches fs) (clauses_weight (c ∷ cs) (items_weight rest) + frames_weight fs) (clause_move o c cs g rest s next level units copies fs)
clause_below code None c cs g rest s next level units copies fs = lighter (omega arith) (omega arith) (omega arith)
clause_below code (Some s') c cs g rest s next level units copies fs =
    let e : items_weight (body_before c.body next level rest) ≡ clause_weight c.body + items_weight rest = before_weight c.body next level rest in
    lighter (omega arith) (omega arith) (omega arith)

tries_below : (code : Code) (cs : List Clause) (g : List Cell) (rest : List Item) (s : Substitution) (next level units : ℕ) (copies : List (List Cell)) (fs : List Frame)
    → Below code units (catches fs) (clauses_weight cs (items_weight rest) + frames_weight fs) (tries_move cs g rest s next level units copies fs)
tries_below code [] g rest s next level units copies fs = lighter (omega arith) (omega arith) (omega arith)
tries_below code (c ∷ cs) g rest s next level units copies fs = clause_below code (unify s g (fresh next c.head)) c cs g rest s next level units copies fs

follows_below : (code : Code) (b : RemoteFollows) (ctx : List Cell) (rest : List Item) (units w : ℕ) (copies : List (List Cell)) (fs : List Frame) → frames_weight fs < w → Below code units (catches fs) w (behind_move b ctx rest units copies fs)
follows_below code after_answers.Fails ctx rest units w copies fs lt = lighter (omega arith) (omega arith) (omega arith)
follows_below code (after_answers.Throws t) ctx rest units w copies fs lt = throws_copy_below code (handed_out t) ctx rest units w copies fs lt
follows_below code (after_answers.Breaks kind) ctx rest units w copies fs lt = lighter (omega arith) (omega arith) (omega arith)

answer_below : (code : Code) (o : Option Substitution) (a : List Cell) (answers : List (List Cell)) (b : RemoteFollows) (g ctx : List Cell) (rest : List Item) (s : Substitution) (next level units : ℕ) (copies : List (List Cell)) (fs : List Frame)
    → Below code units (catches fs) (answers_weight (a ∷ answers) (items_weight rest) + frames_weight fs) (answer_move o a answers b g ctx rest s next level units copies fs)
answer_below code None a answers b g ctx rest s next level units copies fs = lighter (omega arith) (omega arith) (omega arith)
answer_below code (Some s') a answers b g ctx rest s next level units copies fs = lighter (omega arith) (omega arith) (omega arith)

gives_below : (code : Code) (answers : List (List Cell)) (b : RemoteFollows) (g ctx : List Cell) (rest : List Item) (s : Substitution) (next level units : ℕ) (copies : List (List Cell)) (fs : List Frame)
    → Below code units (catches fs) (answers_weight answers (items_weight rest) + frames_weight fs) (gives_move answers b g ctx rest s next level units copies fs)
gives_below code [] b g ctx rest s next level units copies fs = follows_below code b ctx rest units _ copies fs (omega arith)
gives_below code (a ∷ answers) b g ctx rest s next level units copies fs = answer_below code (unify s g (fresh next a)) a answers b g ctx rest s next level units copies fs

renamed_below : (code : Code) (o : Option Pred) (cs : List Check) (g : List Cell) (rest : List Item) (s : Substitution) (next level units : ℕ) (copies : List (List Cell)) (fs : List Frame)
    → Below code units (catches fs) (3 + renamed_weight o (suc (items_weight rest)) + frames_weight fs) (renamed_move code o cs g rest s next level units copies fs)
renamed_below code (Some p) cs g rest s next level units copies fs =
    let b : items_weight (behind p.name (held code.types cs (arguments g)) g rest) ≤ suc (items_weight rest) = behind_weight p.name (held code.types cs (arguments g)) g rest in
    let h : clauses_weight (rules_of_kind p.kind) (items_weight (behind p.name (held code.types cs (arguments g)) g rest)) ≤ clauses_weight (rules_of_kind p.kind) (suc (items_weight rest))
    = clauses_heavier (rules_of_kind p.kind) (items_weight (behind p.name (held code.types cs (arguments g)) g rest)) (suc (items_weight rest)) b in
    lighter (omega arith) (omega arith) (omega arith)
renamed_below code None cs g rest s next level units copies fs = lighter (omega arith) (omega arith) (omega arith)

demanded_below : (code : Code) (o : Option ℕ) (p : PredName) (rest : List Item) (m : Move) (units w : ℕ) (copies : List (List Cell)) (fs : List Frame) → frames_weight fs < w → Below code units (catches fs) w (m units copies fs) → Below code units (catches fs) w (demanded o p rest m units copies fs)
demanded_below code (Some k) p rest m units w copies fs lt h = lighter (omega arith) (omega arith) (omega arith)
demanded_below code None p rest m units w copies fs lt h = h

fail_below : (code : Code) (f : Frame) (fs : List Frame) (units : ℕ) (copies : List (List Cell)) → Below code units (catches (f ∷ fs)) (frames_weight (f ∷ fs)) (fail_move (f ∷ fs) units copies)
fail_below code (Alternative items s next level) fs units copies = lighter (omega arith) (omega arith) (omega arith)
fail_below code (Clauses cs g rest s next level) fs units copies = lighter (omega arith) (omega arith) (omega arith)
fail_below code (Mark level) fs units copies = lighter (omega arith) (omega arith) (omega arith)
fail_below code (Catching k seer catcher recovery rest s next level) fs units copies = fewer_catches (omega arith) (omega arith)
fail_below code (Gathering outer result rest s next level) fs units copies =
    runs_if_below code (unify s result (list_term (apart next copies))) rest (next + variables_in copies) level units _ outer fs (catches fs) (omega arith) (omega arith)
fail_below code (Answering answers b g ctx rest s next level) fs units copies = lighter (omega arith) (omega arith) (omega arith)

-- what is met at a catch
recovers_below : (code : Code) (b : Bool) (o : Option Substitution) (m : List ℕ) (recovery : List Cell) (rest : List Item) (next level : ℕ) (ball : List Cell) (ks : List ℕ) (units w : ℕ) (copies : List (List Cell)) (fs : List Frame)
    → Below code units (suc (catches fs)) w (recovers b o m recovery rest next level ball ks units copies fs)
recovers_below code true (Some s) m recovery rest next level ball ks units w copies fs =
    let u : (enters m recovery [] (context m (codes "catch") 3) rest s next level units copies fs).units ≡ units = enters_units m recovery [] (context m (codes "catch") 3) rest s next level units copies fs in
    let c : catches ((enters m recovery [] (context m (codes "catch") 3) rest s next level units copies fs).frames) ≡ catches fs = enters_catches m recovery [] (context m (codes "catch") 3) rest s next level units copies fs in
    fewer_catches (omega arith) (omega arith)
recovers_below code true None m recovery rest next level ball ks units w copies fs = fewer_catches (omega arith) (omega arith)
recovers_below code false o m recovery rest next level ball ks units w copies fs = fewer_catches (omega arith) (omega arith)

throw_below : (code : Code) (f : Frame) (fs : List Frame) (b : List Cell) (ks : List ℕ) (units : ℕ) (copies : List (List Cell)) → Below code units (catches (f ∷ fs)) (frames_weight (f ∷ fs)) (throw_move (f ∷ fs) b ks units copies)
throw_below code (Alternative items s next level) fs b ks units copies = lighter (omega arith) (omega arith) (omega arith)
throw_below code (Clauses cs g rest s next level) fs b ks units copies = lighter (omega arith) (omega arith) (omega arith)
throw_below code (Mark level) fs b ks units copies = lighter (omega arith) (omega arith) (omega arith)
throw_below code (Catching k seer catcher recovery rest s next level) fs b ks units copies =
    recovers_below code (is_among k ks) (unify s catcher (fresh next b)) seer recovery rest (next + next_variable b) level b ks units _ copies fs
throw_below code (Gathering outer result rest s next level) fs b ks units copies = lighter (omega arith) (omega arith) (omega arith)
throw_below code (Answering answers a g ctx rest s next level) fs b ks units copies = lighter (omega arith) (omega arith) (omega arith)

point_below : (code : Code) (goal : List Cell) (p : Point) (units : ℕ) (copies : List (List Cell)) (fs : List Frame) → ready_at p fs ≡ None
    → Below code units (catches fs) (point_weight code p + frames_weight fs) (point_move code goal p units copies fs)
point_below code goal (Runs items s next level) units copies fs h = items_below code goal items s next level units copies fs
point_below code goal (Tries cs g rest s next level) units copies fs h = tries_below code cs g rest s next level units copies fs
point_below code goal (Tests p cs renamed g rest s next level) units copies fs h =
    demanded_below code (broken_call code.types cs cs (arguments g)) p rest (renamed_move code (slice_get code.renamed renamed) cs g rest s next level) units _ copies fs (omega arith)
    (renamed_below code (slice_get code.renamed renamed) cs g rest s next level units copies fs)
point_below code goal (Gives answers b g ctx rest s next level) units copies fs h = gives_below code answers b g ctx rest s next level units copies fs
point_below code goal Fails units copies [] h = cc
point_below code goal Fails units copies (f ∷ fs) h =
    let e : 0 + frames_weight (f ∷ fs) ≡ frames_weight (f ∷ fs) = omega arith in
    subst (λ (w : ℕ). Below code units (catches (f ∷ fs)) w (fail_move (f ∷ fs) units copies)) (sym e) (fail_below code f fs units copies)
point_below code goal (Throws b ks) units copies [] h = cc
point_below code goal (Throws b ks) units copies (f ∷ fs) h =
    let e : 0 + frames_weight (f ∷ fs) ≡ frames_weight (f ∷ fs) = omega arith in
    subst (λ (w : ℕ). Below code units (catches (f ∷ fs)) w (throw_move (f ∷ fs) b ks units copies)) (sym e) (throw_below code f fs b ks units copies)
point_below code goal (Asks a from rest s next level) units copies fs h = cc
point_below code goal (Writes bytes ctx rest s next level) units copies fs h = cc
point_below code goal (Calls p g handed rest s next level) units copies fs h = cc
point_below code goal (Answers t) units copies fs h = cc
point_below code goal Stops units copies fs h = cc

-- a move of a state that is not ready
pub move_below : (code : Code) (goal : List Cell) (st : State) → ready st ≡ None → Below code st.units (catches st.frames) (weight code st) (move code goal st)
move_below code goal st h = point_below code goal st.point st.units st.copies st.frames h
