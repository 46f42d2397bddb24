-- A run that grows: what its goals and frames stand for stays.
use Rattle.std.proofs.Common.{◌≡◌, ℕ, zero, suc, ◌<◌, ◌≤◌, List, [], ◌∷◌, ◌++◌, map, reverse, length, take, drop, get_or, refl, sym, ◌∙◌, ap, subst, arith, length-append}
use Rattle.std.specs.Prelude.{is_some, codes}
use Rattle.std.proofs.lemmas.List.{length-take, length-take-le, take-take}
use Rattle.std.proofs.Math.Seq.{take-length, take-append_seam}
use Rattle.cp_term.specs.declared.cell.Cell.{Cell}
use Rattle.cp_heap.specs.declared.bound.Bound.{Bound}
use Rattle.cp_heap.specs.State.{State, AreBoundWithin, HaveVariablesBelow, IsLive, state_at, Extends}
use Rattle.cp_goal.specs.Builtins.{context}
use Rattle.cp_code.specs.Bodies.{body_of}
use Rattle.cp_code.specs.Code.{Code}
use Rattle.cp_code.specs.Programs.{or_fail}
use Rattle.cp_code.specs.Tree as tree
use Rattle.cp_code.specs.Machine as machine
use Rattle.cp_code.specs.Requests as requests
use Rattle.cp_code.specs.Requests.{full_name}
use Rattle.cp_term.specs.Preorder.{arguments}
use Rattle.cp_props.specs.Checks.{check_shown}
use Rattle.cp_props.specs.Arguments.{HaveArguments}
use Rattle.cp_request.specs.declared.asking.Asking.{Asking}
use Rattle.cp_request.specs.declared.manner.Manner.{Manner}
use Rattle.cp_request.specs.declared.manner.Manner.TheVariants as manner
use Rattle.cp_request.specs.Asked as asked
use Rattle.cp_request.specs.Told.{remote_shown}
use Rattle.cp_run.specs.declared.goal.Goal.{Goal}
use Rattle.cp_run.specs.declared.goal.Goal.TheVariants as goal
use Rattle.cp_run.specs.declared.item.Item.{Item}
use Rattle.cp_run.specs.declared.item.Item.TheVariants as item
use Rattle.cp_run.specs.declared.moment.Moment.{Moment}
use Rattle.cp_run.specs.declared.frame.Frame.{Frame}
use Rattle.cp_run.specs.declared.frame.Frame.TheVariants as frame
use Rattle.cp_run.specs.declared.run.Run.{Run}
use Rattle.cp_run.specs.Shown.{Here, here, back, bound, instance_in, goal_shown, manner_shown, asking_shown, item_shown, goals_shown, rules_from, frames_shown, here_of}
use Rattle.cp_run.specs.Stands.{HasGoal, HasManner, IsSameItem, HasItem, HasItems, HasLists, IsMoment, FramesStand, Holds, Grows, IsPut}
use Rattle.cp_run.proofs.ListLaws.{get_or-last, get_or-take}

-- ---- lists that have grown

take-of-grown : {A : Type 0} (old new : List A) (m : ℕ) → take (length old) new ≡ old → m ≤ length old → take m new ≡ take m old
take-of-grown old new m e le = sym (take-take m (length old) new le) ∙ ap (take m) e

pub get-of-grown : {A : Type 0} (old new : List A) (i : ℕ) (d : A) → take (length old) new ≡ old → i < length old → get_or new i d ≡ get_or old i d
get-of-grown old new i d e lt = sym (get_or-take new (length old) i d lt) ∙ ap (λ xs. get_or xs i d) e

pub length-of-grown : {A : Type 0} (old new : List A) → take (length old) new ≡ old → length old ≤ length new
length-of-grown old new e =
    let f : length (take (length old) new) ≡ length old = ap length e in
    let g = length-take (length old) new in
    omega arith

-- ---- items

HasGoal-grow : (old new : List (List Cell)) (g : Goal) → take (length old) new ≡ old → HasGoal old g → HasGoal new g
HasGoal-grow old new (goal.Term seer at) e h =
    let le = length-of-grown old new e in
    (let lt = h.0 in omega arith, ap (λ t. is_some (body_of seer t)) (get-of-grown old new at.at [] e h.0) ∙ h.1)
HasGoal-grow old new goal.True e h = tt
HasGoal-grow old new goal.Fail e h = tt

pub HasManner-grow : (old new : List (List Cell)) (m : Manner) → take (length old) new ≡ old → HasManner old m → HasManner new m
HasManner-grow old new (manner.Finds r) e h = let le = length-of-grown old new e in omega arith
HasManner-grow old new manner.FindsOnce e h = tt
HasManner-grow old new manner.Changes e h = tt
HasManner-grow old new (manner.Posts r) e h = let le = length-of-grown old new e in omega arith

HasItem-grow : (old new : List (List Cell)) (i : Item) → take (length old) new ≡ old → HasItem old i → HasItem new i
HasItem-grow old new (item.Goal g level) e h = HasGoal-grow old new g e h
HasItem-grow old new (item.CutNow level) e h = tt
HasItem-grow old new (item.Leave catcher) e h = tt
HasItem-grow old new (item.Copy seer x) e h = let le = length-of-grown old new e in omega arith
HasItem-grow old new (item.AskFrom a place) e h = HasManner-grow old new a.manner e h
HasItem-grow old new (item.Exit p checks g) e h =
    let le = length-of-grown old new e in
    let lt = h.0 in
    let P : List Cell → Type 0 = λ t. HaveArguments (length (arguments t)) (map check_shown checks) in
    (omega arith, subst P (sym (get-of-grown old new g.at [] e lt)) h.1)

HasItems-grow : (old new : List (List Cell)) (items : List Item) → take (length old) new ≡ old → HasItems old items → HasItems new items
HasItems-grow old new [] e h = tt
HasItems-grow old new (i ∷ items) e h = (HasItem-grow old new i e h.0, HasItems-grow old new items e h.1)

pub HasLists-grow : (old new : List (List Cell)) (lists : List (List Item)) → take (length old) new ≡ old → HasLists old lists → HasLists new lists
HasLists-grow old new [] e h = tt
HasLists-grow old new (items ∷ lists) e h = (HasItems-grow old new items e h.0, HasLists-grow old new lists e h.1)

pub HasItems-at : (terms : List (List Cell)) (lists : List (List Item)) (n : ℕ) → HasLists terms lists → n < length lists → HasItems terms (get_or lists n [])
HasItems-at terms [] n h lt = absurd (omega arith)
HasItems-at terms (items ∷ lists) zero h lt = h.0
HasItems-at terms (items ∷ lists) (suc n) h lt = HasItems-at terms lists n h.1 (omega arith)

HasLists-push : (terms : List (List Cell)) (lists : List (List Item)) (items : List Item) → HasLists terms lists → HasItems terms items → HasLists terms (lists ++ items ∷ [])
HasLists-push terms [] items h i = (i, tt)
HasLists-push terms (x ∷ lists) items h i = (h.0, HasLists-push terms lists items h.1 i)

goal-grow : (old new : List (List Cell)) (g : Goal) → take (length old) new ≡ old → HasGoal old g → goal_shown new g ≡ goal_shown old g
goal-grow old new (goal.Term seer at) e h = ap (λ t. or_fail (body_of seer t)) (get-of-grown old new at.at [] e h.0)
goal-grow old new goal.True e h = refl
goal-grow old new goal.Fail e h = refl

manner-grow : (old new : List (List Cell)) (copy : List Cell) (m : Manner) → take (length old) new ≡ old → HasManner old m → manner_shown new copy m ≡ manner_shown old copy m
manner-grow old new copy (manner.Finds r) e h = ap requests.Finds (get-of-grown old new r.at [] e h)
manner-grow old new copy manner.FindsOnce e h = refl
manner-grow old new copy manner.Changes e h = refl
manner-grow old new copy (manner.Posts r) e h = ap requests.Posts (get-of-grown old new r.at [] e h)

asking_with : Asking → requests.Manner → requests.Asking
asking_with a m = record { object = a.object; call = requests.call_of (asked.goal_shown a.goal) a.copy; manner = m; error_context = full_name a.context }

pub asking-grow : (old new : List (List Cell)) (a : Asking) → take (length old) new ≡ old → HasManner old a.manner → asking_shown new a ≡ asking_shown old a
unfolding asking_with
asking-grow old new a e h = ap (asking_with a) (manner-grow old new a.copy a.manner e h)

item-grow : (old new : List (List Cell)) (i : Item) → take (length old) new ≡ old → HasItem old i → item_shown new i ≡ item_shown old i
item-grow old new (item.Goal g level) e h = ap (λ b. tree.Goal b level) (goal-grow old new g e h)
item-grow old new (item.CutNow level) e h = refl
item-grow old new (item.Leave catcher) e h = refl
item-grow old new (item.AskFrom a place) e h = ap (λ t. tree.AskFrom t place) (asking-grow old new a e h)
item-grow old new (item.Exit p checks g) e h = ap (tree.Exit p (map check_shown checks)) (get-of-grown old new g.at [] e h.0)
item-grow old new (item.Copy seer x) e h = ap (λ t. tree.Copy t (context seer (codes "findall") 3)) (get-of-grown old new x.at [] e h)

items-grow : (old new : List (List Cell)) (items : List Item) → take (length old) new ≡ old → HasItems old items → map (item_shown new) items ≡ map (item_shown old) items
items-grow old new [] e h = refl
items-grow old new (i ∷ items) e h =
    ap (λ x. x ∷ map (item_shown new) items) (item-grow old new i e h.0) ∙ ap (λ x. item_shown old i ∷ x) (items-grow old new items e h.1)

pub goals-grow : (old new : Here) (n : ℕ) → Grows old new → HasLists old.terms old.lists → n < length old.lists → goals_shown new n ≡ goals_shown old n
goals-grow old new n g h lt =
    ap (map (item_shown new.terms)) (get-of-grown old.lists new.lists n [] g.lists lt)
    ∙ items-grow old.terms new.terms (get_or old.lists n []) g.terms (HasItems-at old.terms old.lists n h lt)

-- ---- moments

here_with : List (List Cell) → List Bound → ℕ → List (List Item) → Here
here_with terms trail variables lists = record { terms = terms; trail = trail; variables = variables; lists = lists }

here-same : (terms terms' : List (List Cell)) (trail trail' : List Bound) (v : ℕ) (lists lists' : List (List Item)) → terms ≡ terms' → trail ≡ trail' → lists ≡ lists' → here_with terms trail v lists ≡ here_with terms' trail' v lists'
here-same terms terms' trail trail' v lists lists' e f g =
    ap (λ t. here_with t trail v lists) e ∙ ap (λ t. here_with terms' t v lists) f ∙ ap (λ t. here_with terms' trail' v t) g

pub back-grow : (m : Moment) (old new : Here) → IsMoment m old → Grows old new → back m new ≡ back m old
unfolding here_with
back-grow m old new i g =
    here-same _ _ _ _ m.mark.variables _ _ (take-of-grown old.terms new.terms m.mark.terms g.terms i.terms) (take-of-grown old.trail new.trail m.mark.bindings g.trail i.trail) (take-of-grown old.lists new.lists m.lists g.lists i.lists)

pub moment-grow : (m : Moment) (old new : Here) → IsMoment m old → Grows old new → IsMoment m new
moment-grow m old new i g =
    let terms = take-of-grown old.terms new.terms m.mark.terms g.terms i.terms in
    let trail = take-of-grown old.trail new.trail m.mark.bindings g.trail i.trail in
    let lists = take-of-grown old.lists new.lists m.lists g.lists i.lists in
    let B : List Bound → Type 0 = λ t. AreBoundWithin m.mark.variables m.mark.terms t in
    let W : List (List Cell) → Type 0 = λ t. HaveVariablesBelow m.mark.variables t in
    let T : List (List Cell) → Type 0 = λ t. HasLists t (take m.lists new.lists) in
    let L : List (List Item) → Type 0 = λ t. HasLists (take m.mark.terms old.terms) t in
    record {
      terms = let a = i.terms in let b = length-of-grown old.terms new.terms g.terms in omega arith;
      trail = let a = i.trail in let b = length-of-grown old.trail new.trail g.trail in omega arith;
      variables = let a = i.variables in let b = g.variables in omega arith;
      lists = let a = i.lists in let b = length-of-grown old.lists new.lists g.lists in omega arith;
      some = i.some;
      bound_within = subst B (sym trail) i.bound_within;
      written_within = subst W (sym terms) i.written_within;
      items = subst T (sym terms) (subst L (sym lists) i.items);
    }

-- what there is has grown from what there was at a moment
pub back-is-grown : (m : Moment) (h : Here) → IsMoment m h → Grows (back m h) h
back-is-grown m h i =
    record {
      terms = ap (λ k. take k h.terms) (length-take-le m.mark.terms h.terms i.terms);
      trail = ap (λ k. take k h.trail) (length-take-le m.mark.bindings h.trail i.trail);
      variables = i.variables;
      lists = ap (λ k. take k h.lists) (length-take-le m.lists h.lists i.lists);
    }

pub moment-now : (m : Moment) (h : State) (lists : List (List Item)) → IsLive m.mark h → state_at m.mark h ≡ h → m.lists ≡ length lists → 0 < m.lists → HasLists h.terms lists → IsMoment m (here h lists)
moment-now m h lists live whole e some items =
    let T : List (List Cell) → Type 0 = λ t. HasLists t (take m.lists lists) in
    let L : List (List Item) → Type 0 = λ t. HasLists h.terms t in
    record {
      terms = live.terms;
      trail = live.trail;
      variables = live.variables;
      lists = omega arith;
      some = some;
      bound_within = live.bound_within;
      written_within = live.written_within;
      items = subst T (sym (ap (λ (s : State). s.terms) whole)) (subst L (sym (ap (λ k. take k lists) e ∙ take-length lists)) items);
    }

pub back-now : (m : Moment) (h : State) (lists : List (List Item)) → state_at m.mark h ≡ h → m.lists ≡ length lists → back m (here h lists) ≡ here h lists
unfolding here_with
back-now m h lists whole e =
    here-same _ _ _ _ m.mark.variables _ _ (ap (λ (s : State). s.terms) whole) (ap (λ (s : State). s.trail) whole) (ap (λ k. take k lists) e ∙ take-length lists)
    ∙ ap (λ v. here_with h.terms h.trail v lists) (ap (λ (s : State). s.variables) whole)

pub moment-live : (m : Moment) (h : State) (lists : List (List Item)) → IsMoment m (here h lists) → IsLive m.mark h
moment-live m h lists i =
    record {
      terms = i.terms;
      trail = i.trail;
      variables = i.variables;
      bound_within = i.bound_within;
      written_within = i.written_within;
    }

-- ---- frames

pub stand-grow : (fs : List Frame) (old new : Here) → Grows old new → FramesStand old fs → FramesStand new fs
stand-grow [] old new g s = tt
stand-grow (frame.Alternative m n level ∷ fs) old new g s =
    let P : Here → Type 0 = λ h. FramesStand h fs in
    (moment-grow m old new s.0 g, s.1, subst P (sym (back-grow m old new s.0 g)) s.2)
stand-grow (frame.Clauses m pred from g0 rest level ∷ fs) old new g s =
    let P : Here → Type 0 = λ h. FramesStand h fs in
    (moment-grow m old new s.0 g, s.1, s.2, subst P (sym (back-grow m old new s.0 g)) s.3)
stand-grow (frame.Catching m seer ball recovery rest level ∷ fs) old new g s =
    let P : Here → Type 0 = λ h. FramesStand h fs in
    (moment-grow m old new s.0 g, s.1, s.2, s.3, subst P (sym (back-grow m old new s.0 g)) s.4)
stand-grow (frame.Gathering m outer result rest level ∷ fs) old new g s =
    let P : Here → Type 0 = λ h. FramesStand h fs in
    (moment-grow m old new s.0 g, s.1, s.2, subst P (sym (back-grow m old new s.0 g)) s.3)
stand-grow (frame.Answering m p a from g0 rest level ∷ fs) old new g s =
    let P : Here → Type 0 = λ h. FramesStand h fs in
    (moment-grow m old new s.0 g, s.1, s.2, subst P (sym (back-grow m old new s.0 g)) s.3)
stand-grow (frame.Opened level ∷ fs) old new g s = stand-grow fs old new g s

pub frames-grow : (code : Code) (fs : List Frame) (old new : Here) → Grows old new → FramesStand old fs → frames_shown code new fs ≡ frames_shown code old fs
frames-grow code [] old new g s = refl
frames-grow code (frame.Alternative m n level ∷ fs) old new g s =
    ap (λ h. machine.Alternative (goals_shown h n) (bound h) m.mark.variables level ∷ frames_shown code h fs) (back-grow m old new s.0 g)
frames-grow code (frame.Clauses m pred from g0 rest level ∷ fs) old new g s =
    ap (λ h. machine.Clauses (rules_from code pred from) (instance_in h g0.at) (goals_shown h rest) (bound h) m.mark.variables level ∷ frames_shown code h fs) (back-grow m old new s.0 g)
frames-grow code (frame.Catching m seer ball recovery rest level ∷ fs) old new g s =
    ap (λ (h : Here). machine.Catching (suc level) seer (get_or h.terms ball.at []) (get_or h.terms recovery.at []) (goals_shown h rest) (bound h) m.mark.variables level ∷ frames_shown code h fs) (back-grow m old new s.0 g)
frames-grow code (frame.Gathering m outer result rest level ∷ fs) old new g s =
    ap (λ (h : Here). machine.Gathering outer (get_or h.terms result.at []) (goals_shown h rest) (bound h) m.mark.variables level ∷ frames_shown code h fs) (back-grow m old new s.0 g)
frames-grow code (frame.Answering m p a from g0 rest level ∷ fs) old new g s =
    ap (λ (h : Here). machine.Answering (drop from a.answers) (remote_shown p a.behind) (instance_in h g0.at) (full_name p) (goals_shown h rest) (bound h) m.mark.variables level ∷ frames_shown code h fs) (back-grow m old new s.0 g)
frames-grow code (frame.Opened level ∷ fs) old new g s = ap (λ x. machine.Mark level ∷ x) (frames-grow code fs old new g s)

-- ---- how a run grows

pub heap-grows : (old new : State) (lists : List (List Item)) → Extends old new → Grows (here old lists) (here new lists)
heap-grows old new lists e = record { terms = e.terms; trail = e.trail; variables = e.variables; lists = take-length lists }

pub lists-grow : (h : State) (lists more : List (List Item)) → Grows (here h lists) (here h (lists ++ more))
lists-grow h lists more =
    record {
      terms = take-length h.terms;
      trail = take-length h.trail;
      variables = omega arith;
      lists = take-append_seam lists more;
    }

with_goals : Run → List (List Item) → Run
with_goals r lists = record r { goals = lists }

-- the lists, with one more
with_list : Run → Item → ℕ → List (List Item)
with_list r i rest = r.goals ++ (i ∷ get_or r.goals rest []) ∷ []

with_list-grows : (r : Run) (i : Item) (rest : ℕ) → Grows (here_of r) (here r.heap (with_list r i rest))
unfolding with_list
with_list-grows r i rest = lists-grow r.heap r.goals ((i ∷ get_or r.goals rest []) ∷ [])

put-holds : (r : Run) (i : Item) (rest : ℕ) → Holds r → rest < length r.goals → HasItem r.heap.terms i → Holds (with_goals r (with_list r i rest))
unfolding with_goals with_list
put-holds r i rest holds lt has =
    record {
      items = HasLists-push r.heap.terms r.goals (i ∷ get_or r.goals rest []) holds.items (has, HasItems-at r.heap.terms r.goals rest holds.items lt);
      frames = stand-grow (reverse r.frames.items) (here_of r) (here r.heap (with_list r i rest)) (with_list-grows r i rest) holds.frames;
    }

put-shows : (r : Run) (i : Item) (rest n : ℕ) → Holds r → n ≡ length r.goals → IsPut r (with_goals r (with_list r i rest)) i rest n
unfolding with_goals with_list
put-shows r i rest n holds e =
    let len = length-append r.goals ((i ∷ get_or r.goals rest []) ∷ []) in
    record {
      place = omega arith;
      goals = ap (map (item_shown r.heap.terms)) (get_or-last r.goals (i ∷ get_or r.goals rest []) n [] e);
      older = λ k lt. (omega arith, goals-grow (here_of r) (here r.heap (with_list r i rest)) k (with_list-grows r i rest) holds.items lt);
      state = refl;
      frames = λ code. frames-grow code (reverse r.frames.items) (here_of r) (here r.heap (with_list r i rest)) (with_list-grows r i rest) holds.frames;
    }

pub put-is : (r : Run) (new : List (List Item)) (i : Item) (rest n : ℕ) → Holds r → rest < length r.goals → HasItem r.heap.terms i → n ≡ length r.goals → new ≡ r.goals ++ (i ∷ get_or r.goals rest []) ∷ []
    → Holds (record r { goals = new }) × IsPut r (record r { goals = new }) i rest n
unfolding with_goals with_list
put-is r new i rest n holds lt has e f =
    let P : List (List Item) → Type 0 = λ l. Holds (with_goals r l) × IsPut r (with_goals r l) i rest n in
    subst P (sym f) (put-holds r i rest holds lt has, put-shows r i rest n holds e)

-- ---- the first item of a list of goals

pub first-is : (r : Run) (goals rest : ℕ) (i got : Item) → Holds r → goals < length r.goals → get_or r.goals goals [] ≡ i ∷ get_or r.goals rest [] → IsSameItem got i
    → (goals_shown (here_of r) goals ≡ item_shown r.heap.terms got ∷ goals_shown (here_of r) rest) × HasItem r.heap.terms got
first-is r goals rest i got holds lt e same =
    let P : List Item → Type 0 = λ items. HasItems r.heap.terms items in
    let all = subst P e (HasItems-at r.heap.terms r.goals goals holds.items lt) in
    (ap (map (item_shown r.heap.terms)) e ∙ ap (λ x. x ∷ goals_shown (here_of r) rest) (sym (same.0 r.heap.terms)), same.1 r.heap.terms all.0)
