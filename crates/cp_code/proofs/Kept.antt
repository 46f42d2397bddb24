-- Each move keeps what holds of a state.
use Rattle.std.proofs.Common.{◌≡◌, ℕ, zero, suc, ◌+◌, ◌<◌, ◌≤◌, ◌⊎◌, inl, inr, Bool, true, false, cond, List, [], ◌∷◌, Option, Some, None, refl, sym, ap, subst, ◌∙◌, arith, ℤ}
use Rattle.std.specs.Prelude.{nat_eq, nat_lt, Result, Ok, Err, codes, slice_get, length, map, ◌++◌}
use Rattle.cp_term.specs.declared.cell.Cell.{Cell}
use Rattle.cp_term.specs.declared.cell.Cell.TheVariants.{Int}
use Rattle.cp_term.specs.declared.pred_name.PredName.{PredName}
use Rattle.cp_term.specs.Preorder.{arguments}
use Rattle.cp_term.specs.Numbering.{fresh, next_variable}
use Rattle.cp_term.specs.Substitution.{Substitution, apply}
use Rattle.cp_term.specs.Unification.{unify, unifiable_apart}
use Rattle.cp_goal.specs.Builtins as builtins
use Rattle.cp_goal.specs.Builtins.{builtin, context}
use Rattle.cp_goal.specs.Lists.{list_term}
use Rattle.cp_call.specs.declared.item.PutReply.TheVariants as put
use Rattle.cp_call.specs.declared.item.Input.{Input}
use Rattle.cp_call.specs.declared.item.Input.TheVariants as input
use Rattle.cp_code.specs.Bodies.{Body, Cut, True, Fail, Both, Either, Choose, CallOf, CatchOf, ThrowOf, FindAll, Plain, body_of, Seen, seen_from}
use Rattle.cp_code.specs.Properties.{has}
use Rattle.cp_code.specs.Checks.{Check, broken_call, held, broken_exit}
use Rattle.cp_code.specs.Code.{Code, Clause, Pred, Kind, Rules, Shared, Remote, Wrapped}
use Rattle.cp_code.specs.Goals.{Builtin, OnTerms, Property, Write, NewLine, OnFacts, Post, Wait, builtin_goal, seen_pred}
use Rattle.cp_code.specs.Requests.{Asking, Follows, Again, Facts, Fact, Number, Rest, Nothing, Raises, follows, handed_out, functor_of, full_name, fact_asking, pred_asking, post_goal, wait_goal, RemoteFollows, is_unbound}
use Rattle.cp_code.specs.Requests as after_answers
use Rattle.cp_code.specs.Tree.{Item, Goal, AskFrom, CutNow, Leave, Copy, Exit, Demands, Renamed, extended, behind, rules_of_kind, is_among, apart, variables_in, body_before, qualified, piece_of, first_of, without_module}
use Rattle.cp_code.specs.Ends.{Named}
use Rattle.cp_code.specs.Machine.{Frame, Alternative, Clauses, Mark, Catching, Gathering, Answering, Point, Runs, Tests, Tries, Gives, Fails, Throws, Asks, Writes, Calls, Answers, Stops, State, drop_to, Move, to, raises, throws_copy, throws_if, runs_if, enters_body, enters_goal, enters_if, enters, demanded, rules_move, asks_or_raises, calls_remote, calls_kind, writes_if, passes_if, ends_as, builtin_move, called_move, named_move, functor_move, goal_move, charged, body_move, exits, copies_move, answers_move, item_move, clause_move, tries_move, behind_move, answer_move, gives_move, renamed_move, fail_move, recovers, throw_move, point_move, move, facts_told, reply_told, asks_told, writes_told, calls_told, point_told, told, first_state}
use Rattle.cp_code.specs.Valid.{Cuttable, UpTo, CutIn, Fits, FramesOk, PointOk, Ok as StateOk}
use Rattle.cp_code.proofs.Moves.{eq_other, eq_same}

-- numbers that are named up to m are named up to any greater one
named_more : (m n : ℕ) → m ≤ n → (items : List Item) → Named (UpTo m) items → Named (UpTo n) items
named_more m n le [] h = tt
named_more m n le (Goal b k ∷ rest) h = (let a = h.0 in omega arith, named_more m n le rest h.1)
named_more m n le (AskFrom a place ∷ rest) h = named_more m n le rest h
named_more m n le (CutNow k ∷ rest) h = (let a = h.0 in omega arith, named_more m n le rest h.1)
named_more m n le (Leave k ∷ rest) h = (let a = h.0 in omega arith, named_more m n le rest h.1)
named_more m n le (Copy x ctx ∷ rest) h = named_more m n le rest h
named_more m n le (Exit p cs g ∷ rest) h = named_more m n le rest h
named_more m n le (Demands p cs g ∷ rest) h = named_more m n le rest h
named_more m n le (Renamed p cs g ∷ rest) h = named_more m n le rest h

mark_more : (l m n k : ℕ) → m ≤ n → {A B : Type 0} → (A → B) → (k ≡ l) ⊎ ((l < k) × (k ≤ m) × A) → (k ≡ l) ⊎ ((l < k) × (k ≤ n) × B)
mark_more l m n k le f (inl e) = inl e
mark_more l m n k le f (inr h) = inr (h.0, let a = h.1 in omega arith, f h.2)

cuttable_more : (l m n : ℕ) → m ≤ n → (fs : List Frame) → Cuttable l m fs → Cuttable l n fs
cuttable_more l m n le [] h = h
cuttable_more l m n le (Alternative items s next v ∷ fs) h = cuttable_more l m n le fs h
cuttable_more l m n le (Clauses cs g rest s next v ∷ fs) h = cuttable_more l m n le fs h
cuttable_more l m n le (Mark k ∷ fs) h = mark_more l m n k le (λ c. cuttable_more l m n le fs c) h
cuttable_more l m n le (Catching k seer catcher r rest s next v ∷ fs) h = (h.0, let a = h.1 in omega arith, cuttable_more l m n le fs h.2)
cuttable_more l m n le (Gathering outer result rest s next v ∷ fs) h = h
cuttable_more l m n le (Answering answers b g ctx rest s next v ∷ fs) h = cuttable_more l m n le fs h

-- other frames, in which each cut up to m still finds its mark
cut_in : (m n : ℕ) (fs gs : List Frame) → ((l : ℕ) → l ≤ m → Cuttable l m fs → Cuttable l n gs) → (items : List Item) → Named (UpTo m) items → CutIn m fs items → CutIn n gs items
cut_in m n fs gs f [] h c = tt
cut_in m n fs gs f (Goal b l ∷ rest) h c = (f l h.0 c.0, cut_in m n fs gs f rest h.1 c.1)
cut_in m n fs gs f (AskFrom a place ∷ rest) h c = cut_in m n fs gs f rest h c
cut_in m n fs gs f (CutNow l ∷ rest) h c = (f l h.0 c.0, cut_in m n fs gs f rest h.1 c.1)
cut_in m n fs gs f (Leave k ∷ rest) h c = cut_in m n fs gs f rest h.1 c
cut_in m n fs gs f (Copy x ctx ∷ rest) h c = tt
cut_in m n fs gs f (Exit p cs g ∷ rest) h c = cut_in m n fs gs f rest h c
cut_in m n fs gs f (Demands p cs g ∷ rest) h c = cut_in m n fs gs f rest h c
cut_in m n fs gs f (Renamed p cs g ∷ rest) h c = cut_in m n fs gs f rest h c

fits_on : (m n : ℕ) (fs gs : List Frame) → m ≤ n → ((l : ℕ) → l ≤ m → Cuttable l m fs → Cuttable l n gs) → (items : List Item) → Fits items m fs → Fits items n gs
fits_on m n fs gs le f items t =
    record { plain = t.plain; sorted = t.sorted; cuts = cut_in m n fs gs f items t.below t.cuts; below = named_more m n le items t.below }

-- the rest behind a goal
fits_rest : (b : Body) (l : ℕ) (rest : List Item) (level : ℕ) (fs : List Frame) → Fits (Goal b l ∷ rest) level fs → Fits rest level fs
fits_rest b l rest level fs t = record { plain = t.plain; sorted = t.sorted.1; cuts = t.cuts.1; below = t.below.1 }

-- a goal in the place of another one of its level
fits_goal : (b : Body) (l : ℕ) (rest : List Item) (level : ℕ) (fs : List Frame) → Fits (CutNow l ∷ rest) level fs → Fits (Goal b l ∷ rest) level fs
fits_goal b l rest level fs t = record { plain = t.plain; sorted = t.sorted; cuts = t.cuts; below = t.below }

-- the body of a clause, if it has one, in the place of the cut to its level
fits_body : (b : Option Body) (next l : ℕ) (rest : List Item) (level : ℕ) (fs : List Frame) → Fits (CutNow l ∷ rest) level fs → Fits (body_before b next l rest) level fs
fits_body None next l rest level fs t = record { plain = t.plain; sorted = t.sorted.1; cuts = t.cuts.1; below = t.below.1 }
fits_body (Some b) next l rest level fs t = record { plain = t.plain; sorted = t.sorted; cuts = t.cuts; below = t.below }

fits_as : (a b : Body) (l : ℕ) (rest : List Item) (level : ℕ) (fs : List Frame) → Fits (Goal a l ∷ rest) level fs → Fits (Goal b l ∷ rest) level fs
fits_as a b l rest level fs t = record { plain = t.plain; sorted = t.sorted; cuts = t.cuts; below = t.below }

fits_behind : (p : PredName) (cs : List Check) (g : List Cell) (rest : List Item) (level : ℕ) (fs : List Frame) → Fits rest level fs → Fits (behind p cs g rest) level fs
fits_behind p [] g rest level fs t = t
fits_behind p (c ∷ cs) g rest level fs t = record { plain = t.plain; sorted = t.sorted; cuts = t.cuts; below = t.below }

fits_again : (a : Asking) (place : ℤ) (rest : List Item) (level : ℕ) (fs : List Frame) → Fits rest level fs → Fits (AskFrom a place ∷ rest) level fs
fits_again a place rest level fs t = record { plain = t.plain; sorted = t.sorted; cuts = t.cuts; below = t.below }

-- a goal of a new level in front
abbrev pub Entered : List Item → ℕ → List Frame → Type 0
Entered rest level fs = Fits (CutNow (suc level) ∷ rest) (suc level) (Mark (suc level) ∷ fs)

marked : (l level : ℕ) (fs : List Frame) → l ≤ level → Cuttable l level fs → Cuttable l (suc level) (Mark (suc level) ∷ fs)
marked l level fs le c = inr (omega arith, omega arith, cuttable_more l level (suc level) (omega arith) fs c)

fits_new : (rest : List Item) (level : ℕ) (fs : List Frame) → Fits rest level fs → Entered rest level fs
fits_new rest level fs t = record {
  plain = t.plain;
  sorted = (named_more level (suc level) (omega arith) rest t.below, t.sorted);
  cuts = (inl refl, cut_in level (suc level) fs (Mark (suc level) ∷ fs) (λ l le c. marked l level fs le c) rest t.below t.cuts);
  below = (omega arith, named_more level (suc level) (omega arith) rest t.below);
}

-- what a catch protects: the goals up to its end, over its frame
fits_caught : (seer : List ℕ) (catcher r : List Cell) (rest : List Item) (s : Substitution) (next level : ℕ) (fs : List Frame) → Fits rest level fs → Entered (Leave (suc level) ∷ rest) level (Catching (suc level) seer catcher r rest s next level ∷ fs)
fits_caught seer catcher r rest s next level fs t =
    let gs : List Frame = Mark (suc level) ∷ Catching (suc level) seer catcher r rest s next level ∷ fs in
    let on : (l : ℕ) → l ≤ level → Cuttable l level fs → Cuttable l (suc level) gs = λ l le c. inr (omega arith, omega arith, (omega arith, omega arith, cuttable_more l level (suc level) (omega arith) fs c)) in
    let f = fits_on level (suc level) fs gs (omega arith) on rest t in
    record { plain = f.plain; sorted = ((omega arith, f.below), f.sorted); cuts = (inl refl, f.cuts); below = (omega arith, (omega arith, f.below)) }

-- a findall's goal, over its frame: what stands behind the copy is not run from there
fits_gathered : (outer : List (List Cell)) (x ctx result : List Cell) (rest : List Item) (s : Substitution) (next level : ℕ) (fs : List Frame) → Fits rest level fs → Entered (Copy x ctx ∷ rest) level (Gathering outer result rest s next level ∷ fs)
fits_gathered outer x ctx result rest s next level fs t =
    let below = named_more level (suc level) (omega arith) rest t.below in
    record { plain = t.plain; sorted = (below, tt); cuts = (inl refl, tt); below = (omega arith, below) }

-- ---- frames that are dropped

below_mark : (l k j level : ℕ) (fs : List Frame) → l ≤ k → (j ≡ k) ⊎ ((k < j) × (j ≤ level) × Cuttable k level fs) → (j ≡ l) ⊎ ((l < j) × (j ≤ level) × Cuttable l level fs) → (Cuttable k level fs → Cuttable l level fs → Cuttable l level (drop_to k fs)) → Cuttable l level (drop_to k (Mark j ∷ fs))
below_mark l k j level fs le (inl e) d next =
    let same : nat_eq j k ≡ true = ap (λ i. nat_eq i k) e ∙ eq_same k in
    subst (λ t. Cuttable l level (cond t (Mark j ∷ fs) (drop_to k fs))) (sym same) d
below_mark l k j level fs le (inr c) (inl e) next = absurd (let a = c.0 in omega arith)
below_mark l k j level fs le (inr c) (inr d) next =
    let other : nat_eq j k ≡ false = eq_other j k (let a = c.0 in omega arith) in
    subst (λ t. Cuttable l level (cond t (Mark j ∷ fs) (drop_to k fs))) (sym other) (next c.2 d.2)

below_same : (l k level : ℕ) (fs : List Frame) → l ≤ k → Cuttable k level fs → Cuttable l level fs → Cuttable l level (drop_to k fs)
below_same l k level [] le c d = d
below_same l k level (Alternative items s next v ∷ fs) le c d = below_same l k level fs le c d
below_same l k level (Clauses cs g rest s next v ∷ fs) le c d = below_same l k level fs le c d
below_same l k level (Mark j ∷ fs) le c d = below_mark l k j level fs le c d (λ c' d'. below_same l k level fs le c' d')
below_same l k level (Catching j seer catcher r rest s next v ∷ fs) le c d = below_same l k level fs le c.2 d.2
below_same l k level (Gathering outer result rest s next v ∷ fs) le c d = absurd c
below_same l k level (Answering answers b g ctx rest s next v ∷ fs) le c d = below_same l k level fs le c d

frames_if : (t : Bool) (k : ℕ) (fs gs : List Frame) → FramesOk fs → FramesOk gs → FramesOk (cond t (Mark k ∷ fs) gs)
frames_if true k fs gs a b = a
frames_if false k fs gs a b = b

drop_ok : (l : ℕ) (fs : List Frame) → FramesOk fs → FramesOk (drop_to l fs)
drop_ok l [] h = tt
drop_ok l (Alternative items s next v ∷ fs) h = drop_ok l fs h.1
drop_ok l (Clauses cs g rest s next v ∷ fs) h = drop_ok l fs h.1
drop_ok l (Mark k ∷ fs) h = frames_if (nat_eq k l) k fs (drop_to l fs) h (drop_ok l fs h)
drop_ok l (Catching k seer catcher r rest s next v ∷ fs) h = drop_ok l fs h.1
drop_ok l (Gathering outer result rest s next v ∷ fs) h = drop_ok l fs h.1
drop_ok l (Answering answers b g ctx rest s next v ∷ fs) h = drop_ok l fs h.1

fits_dropped : (l : ℕ) (rest : List Item) (level : ℕ) (fs : List Frame) → Fits (CutNow l ∷ rest) level fs → Fits rest level (drop_to l fs)
fits_dropped l rest level fs t = record {
  plain = t.plain;
  sorted = t.sorted.1;
  cuts = go rest t.sorted.0 t.cuts.1;
  below = t.below.1;
}
  where
    go : (items : List Item) → Named (UpTo l) items → CutIn level fs items → CutIn level (drop_to l fs) items
    go [] h c = tt
    go (Goal b k ∷ items) h c = (below_same k l level fs h.0 t.cuts.0 c.0, go items h.1 c.1)
    go (AskFrom a place ∷ items) h c = go items h c
    go (CutNow k ∷ items) h c = (below_same k l level fs h.0 t.cuts.0 c.0, go items h.1 c.1)
    go (Leave k ∷ items) h c = go items h.1 c
    go (Copy x ctx ∷ items) h c = tt
    go (Exit p cs g ∷ items) h c = go items h c
    go (Demands p cs g ∷ items) h c = go items h c
    go (Renamed p cs g ∷ items) h c = go items h c

-- ---- moves

ok : (p : Point) (units : ℕ) (copies : List (List Cell)) (fs : List Frame) → PointOk p fs → FramesOk fs → StateOk (to p units copies fs)
ok p units copies fs a b = record { point = a; frames = b }

-- a move that leads to no goal behind it
abbrev pub Ends : Move → Type 0
Ends mv = (units : ℕ) (copies : List (List Cell)) (fs : List Frame) → FramesOk fs → StateOk (mv units copies fs)

-- a move that goes on with the goals behind it, at most
abbrev pub GoesOn : List Item → ℕ → Move → Type 0
GoesOn rest level mv = (units : ℕ) (copies : List (List Cell)) (fs : List Frame) → Fits rest level fs → FramesOk fs → StateOk (mv units copies fs)

-- a move that opens a level
abbrev pub Opens : List Item → ℕ → Move → Type 0
Opens rest level mv = (units : ℕ) (copies : List (List Cell)) (fs : List Frame) → Entered rest level fs → FramesOk fs → StateOk (mv units copies fs)

raises_ok : (kind ctx : List Cell) (rest : List Item) → Ends (raises kind ctx rest)
raises_ok kind ctx rest units copies fs h = ok _ units copies fs tt h

throws_copy_ok : (t : Result (List Cell) (List Cell)) (ctx : List Cell) (rest : List Item) → Ends (throws_copy t ctx rest)
throws_copy_ok (Ok t) ctx rest units copies fs h = ok _ units copies fs tt h
throws_copy_ok (Err kind) ctx rest units copies fs h = ok _ units copies fs tt h

throws_if_ok : (b : Bool) (t ctx : List Cell) (rest : List Item) → Ends (throws_if b t ctx rest)
throws_if_ok true t ctx rest units copies fs h = ok _ units copies fs tt h
throws_if_ok false t ctx rest units copies fs h = throws_copy_ok (handed_out t) ctx rest units copies fs h

runs_ok : (o : Option Substitution) (rest : List Item) (next level : ℕ) → GoesOn rest level (runs_if o rest next level)
runs_ok None rest next level units copies fs f h = ok _ units copies fs tt h
runs_ok (Some s) rest next level units copies fs f h = ok _ units copies fs f h

enters_body_ok : (o : Option Body) (g ctx : List Cell) (rest : List Item) (s : Substitution) (next level : ℕ) → Opens rest level (enters_body o g ctx rest s next level)
enters_body_ok None g ctx rest s next level units copies fs f h = ok _ units copies fs tt h
enters_body_ok (Some b) g ctx rest s next level units copies fs f h =
    ok (Runs (Goal b (suc level) ∷ rest) s next (suc level)) units copies (Mark (suc level) ∷ fs) (fits_goal b (suc level) rest (suc level) (Mark (suc level) ∷ fs) f) h

enters_goal_ok : (seer : List ℕ) (g : Result (List Cell) (List Cell)) (ctx : List Cell) (rest : List Item) (s : Substitution) (next level : ℕ) → Opens rest level (enters_goal seer g ctx rest s next level)
enters_goal_ok seer (Ok g) ctx rest s next level units copies fs f h = enters_body_ok (body_of seer g) g ctx rest s next level units copies fs f h
enters_goal_ok seer (Err kind) ctx rest s next level units copies fs f h = ok _ units copies fs tt h

enters_if_ok : (unbound : Bool) (g : Seen) (extra : List (List Cell)) (ctx : List Cell) (rest : List Item) (s : Substitution) (next level : ℕ) → Opens rest level (enters_if unbound g extra ctx rest s next level)
enters_if_ok true g extra ctx rest s next level units copies fs f h = ok _ units copies fs tt h
enters_if_ok false g extra ctx rest s next level units copies fs f h = enters_goal_ok g.seer (extended g.goal extra) ctx rest s next level units copies fs f h

enters_ok : (seer : List ℕ) (g : List Cell) (extra : List (List Cell)) (ctx : List Cell) (rest : List Item) (s : Substitution) (next level : ℕ) → Opens rest level (enters seer g extra ctx rest s next level)
enters_ok seer g extra ctx rest s next level units copies fs f h =
    enters_if_ok (is_unbound ((seen_from seer (apply s g)).goal)) (seen_from seer (apply s g)) (map (apply s) extra) ctx rest s next level units copies fs f h

demanded_ok : (o : Option ℕ) (p : PredName) (rest : List Item) (mv : Move) (units : ℕ) (copies : List (List Cell)) (fs : List Frame) → FramesOk fs → StateOk (mv units copies fs) → StateOk (demanded o p rest mv units copies fs)
demanded_ok (Some k) p rest mv units copies fs h o = ok _ units copies fs tt h
demanded_ok None p rest mv units copies fs h o = o

rules_ok : (code : Code) (p : PredName) (cs : List Check) (rs : List Clause) (g : List Cell) (rest : List Item) (s : Substitution) (next level : ℕ) → GoesOn rest level (rules_move code p cs rs g rest s next level)
rules_ok code p cs rs g rest s next level units copies fs f h =
    let after = behind p (held code.types cs (arguments g)) g rest in
    ok (Tries rs g after s next (suc level)) units copies (Mark (suc level) ∷ fs) (fits_new after level fs (fits_behind p (held code.types cs (arguments g)) g rest level fs f)) h

asks_ok : (a : Result Asking (List Cell)) (ctx : List Cell) (rest : List Item) (s : Substitution) (next level : ℕ) → GoesOn rest level (asks_or_raises a ctx rest s next level)
asks_ok (Ok a) ctx rest s next level units copies fs f h = ok _ units copies fs f h
asks_ok (Err kind) ctx rest s next level units copies fs f h = ok _ units copies fs tt h

remote_ok : (p : PredName) (g : List Cell) (t : Result (List Cell) (List Cell)) (rest : List Item) (s : Substitution) (next level : ℕ) → GoesOn rest level (calls_remote p g t rest s next level)
remote_ok p g (Ok t) rest s next level units copies fs f h = ok _ units copies fs f h
remote_ok p g (Err kind) rest s next level units copies fs f h = ok _ units copies fs tt h

kind_ok : (code : Code) (p : PredName) (k : Kind) (g : List Cell) (rest : List Item) (s : Substitution) (next level : ℕ) → GoesOn rest level (calls_kind code p k g rest s next level)
kind_ok code p (Rules cs rs) g rest s next level units copies fs f h =
    demanded_ok (broken_call code.types cs cs (arguments g)) p rest (rules_move code p cs rs g rest s next level) units copies fs h
    (rules_ok code p cs rs g rest s next level units copies fs f h)
kind_ok code p (Shared object suspends) g rest s next level units copies fs f h = asks_ok (pred_asking object g p) (full_name p) rest s next level units copies fs f h
kind_ok code p Remote g rest s next level units copies fs f h = remote_ok p g (handed_out g) rest s next level units copies fs f h
kind_ok code p (Wrapped cs renamed) g rest s next level units copies fs f h = ok _ units copies fs f h

writes_if_ok : (large : Bool) (bytes : List ℕ) (ctx : List Cell) (rest : List Item) (s : Substitution) (next level : ℕ) → GoesOn rest level (writes_if large bytes ctx rest s next level)
writes_if_ok true bytes ctx rest s next level units copies fs f h = ok _ units copies fs tt h
writes_if_ok false bytes ctx rest s next level units copies fs f h = ok _ units copies fs f h

passes_ok : (b : Bool) (rest : List Item) (s : Substitution) (next level : ℕ) → GoesOn rest level (passes_if b rest s next level)
passes_ok true rest s next level units copies fs f h = ok _ units copies fs f h
passes_ok false rest s next level units copies fs f h = ok _ units copies fs tt h

ends_ok : (e : builtins.End) (ctx : List Cell) (rest : List Item) (level : ℕ) → GoesOn rest level (ends_as e ctx rest level)
ends_ok (builtins.Succeeds s next) ctx rest level units copies fs f h = ok _ units copies fs f h
ends_ok builtins.Fails ctx rest level units copies fs f h = ok _ units copies fs tt h
ends_ok (builtins.Raises kind) ctx rest level units copies fs f h = ok _ units copies fs tt h

builtin_ok : (code : Code) (seer : List ℕ) (b : Builtin) (args : List (List Cell)) (ctx : List Cell) (rest : List Item) (s : Substitution) (next level : ℕ) → GoesOn rest level (builtin_move code seer b args ctx rest s next level)
builtin_ok code seer (OnTerms b) args ctx rest s next level units copies fs f h = ends_ok (builtin b args s next) ctx rest level units copies fs f h
builtin_ok code seer (Property name) args ctx rest s next level units copies fs f h = passes_ok (has code.types name (first_of args)) rest s next level units copies fs f h
builtin_ok code seer (Write style) args ctx rest s next level units copies fs f h =
    writes_if_ok (nat_lt 65535 (length (piece_of code style seer args))) (piece_of code style seer args) ctx rest s next level units copies fs f h
builtin_ok code seer NewLine args ctx rest s next level units copies fs f h = writes_if_ok false (codes "\n") ctx rest s next level units copies fs f h
builtin_ok code seer (OnFacts a) args ctx rest s next level units copies fs f h = asks_ok (fact_asking code a (seen_from seer (first_of args)) ctx) ctx rest s next level units copies fs f h
builtin_ok code seer Post args ctx rest s next level units copies fs f h = asks_ok (post_goal seer args ctx) ctx rest s next level units copies fs f h
builtin_ok code seer Wait args ctx rest s next level units copies fs f h = asks_ok (wait_goal args ctx) ctx rest s next level units copies fs f h

called_ok : (code : Code) (seer : List ℕ) (o : Option Pred) (g ctx : List Cell) (rest : List Item) (s : Substitution) (next level : ℕ) → GoesOn rest level (called_move code seer o g ctx rest s next level)
called_ok code seer (Some p) g ctx rest s next level units copies fs f h = kind_ok code p.name p.kind (qualified seer p.goals g) rest s next level units copies fs f h
called_ok code seer None g ctx rest s next level units copies fs f h = ok _ units copies fs tt h

named_ok : (code : Code) (seer : List ℕ) (o : Option Builtin) (n : List ℕ × ℕ) (g : List Cell) (rest : List Item) (s : Substitution) (next level : ℕ) → GoesOn rest level (named_move code seer o n g rest s next level)
named_ok code seer (Some b) n g rest s next level units copies fs f h = builtin_ok code seer b (arguments g) (context seer n.0 n.1) rest s next level units copies fs f h
named_ok code seer None n g rest s next level units copies fs f h = called_ok code seer (seen_pred code seer n.0 n.1) g (context seer n.0 n.1) rest s next level units copies fs f h

functor_ok : (code : Code) (seer : List ℕ) (o : Option (List ℕ × ℕ)) (g : List Cell) (rest : List Item) (s : Substitution) (next level : ℕ) → GoesOn rest level (functor_move code seer o g rest s next level)
functor_ok code seer (Some n) g rest s next level units copies fs f h = named_ok code seer (builtin_goal n.0 n.1) n g rest s next level units copies fs f h
functor_ok code seer None g rest s next level units copies fs f h = ok _ units copies fs tt h

-- a choice: the condition over its mark, the other side and the mark of the choice
chosen : (c t e : Body) (l : ℕ) (rest : List Item) (s : Substitution) (next level units : ℕ) (copies : List (List Cell)) (fs : List Frame) (b : Body) → Fits (Goal b l ∷ rest) level fs → FramesOk fs
    → StateOk (to (Runs (Goal c (level + 2) ∷ CutNow (level + 1) ∷ Goal t l ∷ rest) s next (level + 2)) units copies (Mark (level + 2) ∷ Alternative (Goal e l ∷ rest) s next (level + 1) ∷ Mark (level + 1) ∷ fs))
chosen c t e l rest s next level units copies fs b f h =
    let gs : List Frame = Mark (level + 2) ∷ Alternative (Goal e l ∷ rest) s next (level + 1) ∷ Mark (level + 1) ∷ fs in
    let hs : List Frame = Mark (level + 1) ∷ fs in
    let le : l ≤ level = f.below.0 in
    let on : (j : ℕ) → j ≤ level → Cuttable j level fs → Cuttable j (level + 2) gs = λ j jl k. inr (omega arith, omega arith, inr (omega arith, omega arith, cuttable_more j level (level + 2) (omega arith) fs k)) in
    let on' : (j : ℕ) → j ≤ level → Cuttable j level fs → Cuttable j (level + 1) hs = λ j jl k. inr (omega arith, omega arith, cuttable_more j level (level + 1) (omega arith) fs k) in
    let two = fits_on level (level + 2) fs gs (omega arith) on (Goal t l ∷ rest) (fits_as b t l rest level fs f) in
    let one = fits_on level (level + 1) fs hs (omega arith) on' (Goal e l ∷ rest) (fits_as b e l rest level fs f) in
    let up1 = named_more level (level + 1) (omega arith) rest f.below.1 in
    let up2 = named_more level (level + 2) (omega arith) rest f.below.1 in
    ok (Runs (Goal c (level + 2) ∷ CutNow (level + 1) ∷ Goal t l ∷ rest) s next (level + 2)) units copies gs
    (record {
      plain = f.plain;
      sorted = ((omega arith, (omega arith, up2)), ((omega arith, up1), two.sorted));
      cuts = (inl refl, (inr (omega arith, omega arith, inl refl), two.cuts));
      below = (omega arith, (omega arith, (omega arith, up2)));
    })
    (one, h)

-- a goal of the level in front of one of its level
both_fit : (a b c : Body) (l : ℕ) (rest : List Item) (level : ℕ) (fs : List Frame) → Fits (Goal c l ∷ rest) level fs → Fits (Goal a l ∷ Goal b l ∷ rest) level fs
both_fit a b c l rest level fs f = record { plain = f.plain; sorted = ((omega arith, f.sorted.0), f.sorted); cuts = (f.cuts.0, f.cuts); below = (f.below.0, f.below) }

goal_ok : (code : Code) (b : Body) (l : ℕ) (rest : List Item) (s : Substitution) (next level : ℕ) → GoesOn (Goal b l ∷ rest) level (goal_move code b l rest s next level)
goal_ok code Cut l rest s next level units copies fs f h =
    ok (Runs rest s next level) units copies (drop_to l fs) (fits_dropped l rest level fs (record { plain = f.plain; sorted = f.sorted; cuts = f.cuts; below = f.below })) (drop_ok l fs h)
goal_ok code True l rest s next level units copies fs f h = ok (Runs rest s next level) units copies fs (fits_rest True l rest level fs f) h
goal_ok code Fail l rest s next level units copies fs f h = ok _ units copies fs tt h
goal_ok code (Both a b) l rest s next level units copies fs f h = ok _ units copies fs tt h
goal_ok code (Either a b) l rest s next level units copies fs f h =
    ok (Runs (Goal a l ∷ rest) s next level) units copies (Alternative (Goal b l ∷ rest) s next level ∷ fs)
    (fits_on level level fs (Alternative (Goal b l ∷ rest) s next level ∷ fs) (omega arith) (λ j jl k. k) (Goal a l ∷ rest) (fits_as (Either a b) a l rest level fs f))
    (fits_as (Either a b) b l rest level fs f, h)
goal_ok code (Choose c t e) l rest s next level units copies fs f h = chosen c t e l rest s next level units copies fs (Choose c t e) f h
goal_ok code (CallOf seer g extra) l rest s next level units copies fs f h =
    enters_ok seer g extra (context seer (codes "call") (suc (length extra))) rest s next level units copies fs (fits_new rest level fs (fits_rest (CallOf seer g extra) l rest level fs f)) h
goal_ok code (CatchOf seer g catcher r) l rest s next level units copies fs f h =
    let t = fits_rest (CatchOf seer g catcher r) l rest level fs f in
    enters_ok seer g [] (context seer (codes "catch") 3) (Leave (suc level) ∷ rest) s next level units copies (Catching (suc level) seer catcher r rest s next level ∷ fs) (fits_caught seer catcher r rest s next level fs t) (t, h)
goal_ok code (ThrowOf seer t) l rest s next level units copies fs f h = throws_if_ok (is_unbound (apply s t)) (apply s t) (context seer (codes "throw") 1) rest units copies fs h
goal_ok code (FindAll seer x g result) l rest s next level units copies fs f h =
    let t = fits_rest (FindAll seer x g result) l rest level fs f in
    enters_ok seer g [] (context seer (codes "findall") 3) (Copy x (context seer (codes "findall") 3) ∷ rest) s next level units [] (Gathering copies result rest s next level ∷ fs)
    (fits_gathered copies x (context seer (codes "findall") 3) result rest s next level fs t) (t, h)
goal_ok code (Plain seer g) l rest s next level units copies fs f h =
    functor_ok code seer (functor_of (apply s g)) (apply s g) rest s next level units copies fs (fits_rest (Plain seer g) l rest level fs f) h

charged_ok : (units : ℕ) (copies : List (List Cell)) (fs : List Frame) (on : ℕ → State) → FramesOk fs → ((left : ℕ) → StateOk (on left)) → StateOk (charged units copies fs on)
charged_ok zero copies fs on h g = ok Stops 0 copies fs tt h
charged_ok (suc units) copies fs on h g = g units

body_ok : (code : Code) (b : Body) (l : ℕ) (rest : List Item) (s : Substitution) (next level : ℕ) → GoesOn (Goal b l ∷ rest) level (body_move code b l rest s next level)
body_ok code (Both a b) l rest s next level units copies fs f h = ok (Runs (Goal a l ∷ Goal b l ∷ rest) s next level) units copies fs (both_fit a b (Both a b) l rest level fs f) h
body_ok code Cut l rest s next level units copies fs f h = charged_ok units copies fs (λ units. goal_move code Cut l rest s next level units copies fs) h (λ left. goal_ok code Cut l rest s next level left copies fs f h)
body_ok code True l rest s next level units copies fs f h = charged_ok units copies fs (λ units. goal_move code True l rest s next level units copies fs) h (λ left. goal_ok code True l rest s next level left copies fs f h)
body_ok code Fail l rest s next level units copies fs f h = charged_ok units copies fs (λ units. goal_move code Fail l rest s next level units copies fs) h (λ left. goal_ok code Fail l rest s next level left copies fs f h)
body_ok code (Either a b) l rest s next level units copies fs f h = charged_ok units copies fs (λ units. goal_move code (Either a b) l rest s next level units copies fs) h (λ left. goal_ok code (Either a b) l rest s next level left copies fs f h)
body_ok code (Choose c t e) l rest s next level units copies fs f h = charged_ok units copies fs (λ units. goal_move code (Choose c t e) l rest s next level units copies fs) h (λ left. goal_ok code (Choose c t e) l rest s next level left copies fs f h)
body_ok code (CallOf seer g extra) l rest s next level units copies fs f h = charged_ok units copies fs (λ units. goal_move code (CallOf seer g extra) l rest s next level units copies fs) h (λ left. goal_ok code (CallOf seer g extra) l rest s next level left copies fs f h)
body_ok code (CatchOf seer g catcher r) l rest s next level units copies fs f h = charged_ok units copies fs (λ units. goal_move code (CatchOf seer g catcher r) l rest s next level units copies fs) h (λ left. goal_ok code (CatchOf seer g catcher r) l rest s next level left copies fs f h)
body_ok code (ThrowOf seer t) l rest s next level units copies fs f h = charged_ok units copies fs (λ units. goal_move code (ThrowOf seer t) l rest s next level units copies fs) h (λ left. goal_ok code (ThrowOf seer t) l rest s next level left copies fs f h)
body_ok code (FindAll seer x g result) l rest s next level units copies fs f h = charged_ok units copies fs (λ units. goal_move code (FindAll seer x g result) l rest s next level units copies fs) h (λ left. goal_ok code (FindAll seer x g result) l rest s next level left copies fs f h)
body_ok code (Plain seer g) l rest s next level units copies fs f h = charged_ok units copies fs (λ units. goal_move code (Plain seer g) l rest s next level units copies fs) h (λ left. goal_ok code (Plain seer g) l rest s next level left copies fs f h)

exits_ok : (o : Option ℕ) (p : PredName) (rest : List Item) (s : Substitution) (next level : ℕ) → GoesOn rest level (exits o p rest s next level)
exits_ok (Some k) p rest s next level units copies fs f h = ok _ units copies fs tt h
exits_ok None p rest s next level units copies fs f h = ok _ units copies fs f h

copies_ok : (t : Result (List Cell) (List Cell)) (ctx : List Cell) (rest : List Item) → Ends (copies_move t ctx rest)
copies_ok (Ok t) ctx rest units copies fs h = ok Fails units (copies ++ t ∷ []) fs tt h
copies_ok (Err kind) ctx rest units copies fs h = ok _ units copies fs tt h

answers_ok : (code : Code) (goal : List Cell) (t : Result (List Cell) (List Cell)) → Ends (answers_move code goal t)
answers_ok code goal (Ok t) units copies fs h = ok _ units copies fs tt h
answers_ok code goal (Err kind) units copies fs h = ok _ units copies fs tt h

items_ok : (code : Code) (goal : List Cell) (items : List Item) (s : Substitution) (next level : ℕ) → GoesOn items level (item_move code goal items s next level)
items_ok code goal [] s next level units copies fs f h = answers_ok code goal (handed_out (apply s (without_module goal (arguments goal)))) units copies fs h
items_ok code goal (Goal b l ∷ rest) s next level units copies fs f h = body_ok code b l rest s next level units copies fs f h
items_ok code goal (AskFrom a place ∷ rest) s next level units copies fs f h =
    charged_ok units copies fs (λ units. to (Asks a (Some place) rest s next level) units copies fs) h
    (λ left. ok (Asks a (Some place) rest s next level) left copies fs (record { plain = f.plain; sorted = f.sorted; cuts = f.cuts; below = f.below }) h)
items_ok code goal (CutNow l ∷ rest) s next level units copies fs f h = ok (Runs rest s next level) units copies (drop_to l fs) (fits_dropped l rest level fs f) (drop_ok l fs h)
items_ok code goal (Leave k ∷ rest) s next level units copies fs f h = ok (Runs rest s next level) units copies fs (record { plain = f.plain; sorted = f.sorted; cuts = f.cuts; below = f.below.1 }) h
items_ok code goal (Demands p cs g ∷ rest) s next level units copies fs f h = absurd f.plain
items_ok code goal (Renamed p cs g ∷ rest) s next level units copies fs f h = absurd f.plain
items_ok code goal (Exit p cs g ∷ rest) s next level units copies fs f h =
    exits_ok (broken_exit code.types cs (arguments (apply s g))) p rest s next level units copies fs (record { plain = f.plain; sorted = f.sorted; cuts = f.cuts; below = f.below }) h
items_ok code goal (Copy x ctx ∷ rest) s next level units copies fs f h = copies_ok (handed_out (apply s x)) ctx rest units copies fs h

clause_ok : (o : Option Substitution) (c : Clause) (cs : List Clause) (g : List Cell) (rest : List Item) (s : Substitution) (next level : ℕ) → GoesOn (CutNow level ∷ rest) level (clause_move o c cs g rest s next level)
clause_ok None c cs g rest s next level units copies fs f h = ok (Tries cs g rest s next level) units copies fs f h
clause_ok (Some s') c cs g rest s next level units copies fs f h =
    ok (Runs (body_before c.body next level rest) s' (next + c.variables) level) units copies (Clauses cs g rest s next level ∷ fs)
    (fits_on level level fs (Clauses cs g rest s next level ∷ fs) (omega arith) (λ j jl k. k) (body_before c.body next level rest) (fits_body c.body next level rest level fs f))
    (f, h)

tries_ok : (cs : List Clause) (g : List Cell) (rest : List Item) (s : Substitution) (next level : ℕ) → GoesOn (CutNow level ∷ rest) level (tries_move cs g rest s next level)
tries_ok [] g rest s next level units copies fs f h = ok _ units copies fs tt h
tries_ok (c ∷ cs) g rest s next level units copies fs f h = clause_ok (unify s g (fresh next c.head)) c cs g rest s next level units copies fs f h

behind_ok : (b : RemoteFollows) (ctx : List Cell) (rest : List Item) → Ends (behind_move b ctx rest)
behind_ok after_answers.Fails ctx rest units copies fs h = ok _ units copies fs tt h
behind_ok (after_answers.Throws t) ctx rest units copies fs h = throws_copy_ok (handed_out t) ctx rest units copies fs h
behind_ok (after_answers.Breaks kind) ctx rest units copies fs h = ok _ units copies fs tt h

answer_ok : (o : Option Substitution) (a : List Cell) (answers : List (List Cell)) (b : RemoteFollows) (g ctx : List Cell) (rest : List Item) (s : Substitution) (next level : ℕ) → GoesOn rest level (answer_move o a answers b g ctx rest s next level)
answer_ok None a answers b g ctx rest s next level units copies fs f h = ok (Gives answers b g ctx rest s next level) units copies fs f h
answer_ok (Some s') a answers b g ctx rest s next level units copies fs f h =
    ok (Runs rest s' (next + next_variable a) level) units copies (Answering answers b g ctx rest s next level ∷ fs)
    (fits_on level level fs (Answering answers b g ctx rest s next level ∷ fs) (omega arith) (λ j jl k. k) rest f)
    (f, h)

gives_ok : (answers : List (List Cell)) (b : RemoteFollows) (g ctx : List Cell) (rest : List Item) (s : Substitution) (next level : ℕ) → GoesOn rest level (gives_move answers b g ctx rest s next level)
gives_ok [] b g ctx rest s next level units copies fs f h = behind_ok b ctx rest units copies fs h
gives_ok (a ∷ answers) b g ctx rest s next level units copies fs f h = answer_ok (unify s g (fresh next a)) a answers b g ctx rest s next level units copies fs f h

renamed_ok : (code : Code) (o : Option Pred) (cs : List Check) (g : List Cell) (rest : List Item) (s : Substitution) (next level : ℕ) → GoesOn rest level (renamed_move code o cs g rest s next level)
renamed_ok code (Some p) cs g rest s next level units copies fs f h = rules_ok code p.name cs (rules_of_kind p.kind) g rest s next level units copies fs f h
renamed_ok code None cs g rest s next level units copies fs f h = ok _ units copies fs tt h

fails_ok : (fs : List Frame) (units : ℕ) (copies : List (List Cell)) → FramesOk fs → StateOk (fail_move fs units copies)
fails_ok [] units copies h = ok Fails units copies [] tt tt
fails_ok (Alternative items s next level ∷ fs) units copies h = ok (Runs items s next level) units copies fs h.0 h.1
fails_ok (Clauses cs g rest s next level ∷ fs) units copies h = ok (Tries cs g rest s next level) units copies fs h.0 h.1
fails_ok (Mark k ∷ fs) units copies h = ok Fails units copies fs tt h
fails_ok (Catching k seer catcher r rest s next level ∷ fs) units copies h = ok Fails units copies fs tt h.1
fails_ok (Gathering outer result rest s next level ∷ fs) units copies h =
    runs_ok (unify s result (list_term (apart next copies))) rest (next + variables_in copies) level units outer fs h.0 h.1
fails_ok (Answering answers b g ctx rest s next level ∷ fs) units copies h = ok (Gives answers b g ctx rest s next level) units copies fs h.0 h.1

recovers_ok : (among : Bool) (o : Option Substitution) (seer : List ℕ) (r : List Cell) (rest : List Item) (next level : ℕ) (b : List Cell) (ks : List ℕ) → GoesOn rest level (recovers among o seer r rest next level b ks)
recovers_ok true (Some s) seer r rest next level b ks units copies fs f h = enters_ok seer r [] (context seer (codes "catch") 3) rest s next level units copies fs (fits_new rest level fs f) h
recovers_ok true None seer r rest next level b ks units copies fs f h = ok (Throws b ks) units copies fs tt h
recovers_ok false o seer r rest next level b ks units copies fs f h = ok (Throws b ks) units copies fs tt h

throws_ok : (fs : List Frame) (b : List Cell) (ks : List ℕ) (units : ℕ) (copies : List (List Cell)) → FramesOk fs → StateOk (throw_move fs b ks units copies)
throws_ok [] b ks units copies h = ok (Throws b ks) units copies [] tt tt
throws_ok (Alternative items s next level ∷ fs) b ks units copies h = ok (Throws b ks) units copies fs tt h.1
throws_ok (Clauses cs g rest s next level ∷ fs) b ks units copies h = ok (Throws b ks) units copies fs tt h.1
throws_ok (Mark k ∷ fs) b ks units copies h = ok (Throws b ks) units copies fs tt h
throws_ok (Catching k seer catcher r rest s next level ∷ fs) b ks units copies h =
    recovers_ok (is_among k ks) (unify s catcher (fresh next b)) seer r rest (next + next_variable b) level b ks units copies fs h.0 h.1
throws_ok (Gathering outer result rest s next level ∷ fs) b ks units copies h = ok (Throws b ks) units outer fs tt h.1
throws_ok (Answering answers c g ctx rest s next level ∷ fs) b ks units copies h = ok (Throws b ks) units copies fs tt h.1

point_ok : (code : Code) (goal : List Cell) (p : Point) (units : ℕ) (copies : List (List Cell)) (fs : List Frame) → PointOk p fs → FramesOk fs → StateOk (point_move code goal p units copies fs)
point_ok code goal (Runs items s next level) units copies fs a h = items_ok code goal items s next level units copies fs a h
point_ok code goal (Tries cs g rest s next level) units copies fs a h = tries_ok cs g rest s next level units copies fs a h
point_ok code goal (Tests p cs renamed g rest s next level) units copies fs a h =
    demanded_ok (broken_call code.types cs cs (arguments g)) p rest (renamed_move code (slice_get code.renamed renamed) cs g rest s next level) units copies fs h
    (renamed_ok code (slice_get code.renamed renamed) cs g rest s next level units copies fs a h)
point_ok code goal (Gives answers b g ctx rest s next level) units copies fs a h = gives_ok answers b g ctx rest s next level units copies fs a h
point_ok code goal Fails units copies fs a h = fails_ok fs units copies h
point_ok code goal (Throws b ks) units copies fs a h = throws_ok fs b ks units copies h
point_ok code goal (Asks q from rest s next level) units copies fs a h = ok _ units copies fs a h
point_ok code goal (Writes bytes ctx rest s next level) units copies fs a h = ok _ units copies fs a h
point_ok code goal (Calls p g handed rest s next level) units copies fs a h = ok _ units copies fs a h
point_ok code goal (Answers t) units copies fs a h = ok _ units copies fs tt h
point_ok code goal Stops units copies fs a h = ok _ units copies fs tt h

pub move_ok : (code : Code) (goal : List Cell) (st : State) → StateOk st → StateOk (move code goal st)
move_ok code goal st o = point_ok code goal st.point st.units st.copies st.frames o.point o.frames

-- ---- an input

facts_ok : (o : Option Substitution) (a : Asking) (place : ℤ) (rest : List Item) (s : Substitution) (next next' level : ℕ) → GoesOn rest level (facts_told o a place rest s next next' level)
facts_ok None a place rest s next next' level units copies fs f h = ok _ units copies fs tt h
facts_ok (Some s') a place rest s next next' level units copies fs f h =
    ok (Runs rest s' next' level) units copies (Alternative (AskFrom a place ∷ rest) s next level ∷ fs)
    (fits_on level level fs (Alternative (AskFrom a place ∷ rest) s next level ∷ fs) (omega arith) (λ j jl k. k) rest f)
    (fits_again a place rest level fs f, h)

reply_ok : (r : Follows) (a : Asking) (from : Option ℤ) (rest : List Item) (s : Substitution) (next level : ℕ) → GoesOn rest level (reply_told r a from rest s next level)
reply_ok Again a from rest s next level units copies fs f h = ok (Asks a from rest s next level) units copies fs f h
reply_ok (Facts place pattern fact) a from rest s next level units copies fs f h = facts_ok (unify s pattern (fresh next fact)) a place rest s next (next + next_variable fact) level units copies fs f h
reply_ok (Fact pattern fact) a from rest s next level units copies fs f h = passes_ok (unifiable_apart pattern fact) rest s next level units copies fs f h
reply_ok (Number number place) a from rest s next level units copies fs f h = runs_ok (unify s number (Int place ∷ [])) rest next level units copies fs f h
reply_ok Rest a from rest s next level units copies fs f h = ok (Runs rest s next level) units copies fs f h
reply_ok Nothing a from rest s next level units copies fs f h = ok _ units copies fs tt h
reply_ok (Raises kind) a from rest s next level units copies fs f h = ok _ units copies fs tt h

asks_told_ok : (i : Input) (a : Asking) (from : Option ℤ) (rest : List Item) (s : Substitution) (next level : ℕ) → GoesOn rest level (asks_told i a from rest s next level)
asks_told_ok (input.Reply r) a from rest s next level units copies fs f h = reply_ok (follows a.manner r) a from rest s next level units copies fs f h
asks_told_ok (input.Put r) a from rest s next level units copies fs f h = ok _ units copies fs tt h
asks_told_ok (input.Remote r) a from rest s next level units copies fs f h = ok _ units copies fs tt h
asks_told_ok input.More a from rest s next level units copies fs f h = ok _ units copies fs tt h

writes_told_ok : (i : Input) (ctx : List Cell) (rest : List Item) (s : Substitution) (next level : ℕ) → GoesOn rest level (writes_told i ctx rest s next level)
writes_told_ok (input.Put put.Wrote) ctx rest s next level units copies fs f h = ok (Runs rest s next level) units copies fs f h
writes_told_ok (input.Put put.Failed) ctx rest s next level units copies fs f h = ok _ units copies fs tt h
writes_told_ok (input.Reply r) ctx rest s next level units copies fs f h = ok _ units copies fs tt h
writes_told_ok (input.Remote r) ctx rest s next level units copies fs f h = ok _ units copies fs tt h
writes_told_ok input.More ctx rest s next level units copies fs f h = ok _ units copies fs tt h

calls_told_ok : (i : Input) (p : PredName) (g : List Cell) (rest : List Item) (s : Substitution) (next level : ℕ) → GoesOn rest level (calls_told i p g rest s next level)
calls_told_ok (input.Remote r) p g rest s next level units copies fs f h = ok _ units copies fs f h
calls_told_ok (input.Reply r) p g rest s next level units copies fs f h = ok _ units copies fs tt h
calls_told_ok (input.Put r) p g rest s next level units copies fs f h = ok _ units copies fs tt h
calls_told_ok input.More p g rest s next level units copies fs f h = ok _ units copies fs tt h

told_point_ok : (p : Point) (i : Input) (units : ℕ) (copies : List (List Cell)) (fs : List Frame) → PointOk p fs → FramesOk fs → StateOk (point_told p i units copies fs)
told_point_ok (Asks q from rest s next level) i units copies fs a h = asks_told_ok i q from rest s next level units copies fs a h
told_point_ok (Writes bytes ctx rest s next level) i units copies fs a h = writes_told_ok i ctx rest s next level units copies fs a h
told_point_ok (Calls p g handed rest s next level) i units copies fs a h = calls_told_ok i p g rest s next level units copies fs a h
told_point_ok (Answers t) i units copies fs a h = ok _ units copies fs tt h
told_point_ok (Runs items s next level) i units copies fs a h = ok _ units copies fs a h
told_point_ok (Tries cs g rest s next level) i units copies fs a h = ok _ units copies fs a h
told_point_ok (Tests p cs renamed g rest s next level) i units copies fs a h = ok _ units copies fs a h
told_point_ok (Gives answers b g ctx rest s next level) i units copies fs a h = ok _ units copies fs a h
told_point_ok Fails i units copies fs a h = ok _ units copies fs tt h
told_point_ok (Throws b ks) i units copies fs a h = ok _ units copies fs tt h
told_point_ok Stops i units copies fs a h = ok _ units copies fs tt h

pub told_ok : (st : State) (i : Input) → StateOk st → StateOk (told st i)
told_ok st i o = told_point_ok st.point i st.units st.copies st.frames o.point o.frames

pub first_ok : (code : Code) (goal : List Cell) → StateOk (first_state code goal)
first_ok code goal =
    enters_ok code.first goal [] (context code.first (codes "call") 1) [] [] (next_variable goal) 0 code.budget [] []
    (fits_new [] 0 [] (record { plain = tt; sorted = tt; cuts = tt; below = tt })) tt
