-- An instrumented program has the trees of the program with its assertions.
use Rattle.cp_code.specs.Checks.{broken_call}
use Rattle.std.proofs.Common.{subst, ◌≡◌, ℕ, zero, suc, ◌+◌, ◌<◌, ◌≤◌, Bool, true, false, List, [], ◌∷◌, Option, Some, None, refl, ap, ◌∙◌, arith}
use Rattle.std.specs.Prelude.{codes, if◌then◌else◌}
use Rattle.cp_term.specs.declared.cell.Cell.{Cell}
use Rattle.cp_term.specs.declared.pred_name.PredName.{PredName}
use Rattle.cp_term.specs.Preorder.{arguments}
use Rattle.cp_term.specs.Numbering.{next_variable}
use Rattle.cp_term.specs.Substitution.{Substitution, apply}
use Rattle.cp_goal.specs.Builtins.{context}
use Rattle.cp_goal.specs.Errors.{instantiation_error}
use Rattle.cp_call.specs.declared.item.Input.{Input}
use Rattle.cp_code.specs.Bodies.{Body, body_of, Seen, seen_from}
use Rattle.cp_code.specs.Checks.{Check}
use Rattle.cp_code.specs.Code.{Code, Clause, Pred}
use Rattle.cp_code.specs.Goals.{FactGoal, seen_pred}
use Rattle.cp_code.specs.Requests.{handed_out, fact_functor, full_name, is_unbound}
use Rattle.cp_code.specs.Tree as trees
use Rattle.cp_code.specs.Tree.{Item, Goal, AskFrom, CutNow, Leave, Copy, Exit, Demands, Renamed, Left, Run, Tree, opened, cut_behind, extended, enter_body, enter_goal, enter_seen, demand_if, exit_if, call_rules, rules_of_kind, call_renamed, ask, qualified, call_kind, called_row, plain_row, without_module, row, nothing, tree_to, tree}
use Rattle.std.proofs.Common.{sym}
use Rattle.std.specs.Prelude.{slice_get, get_or, map}
use Rattle.std.specs.List.{filter_map}
use Rattle.std.proofs.lemmas.Option.{get_or_from_slice_get}
use Rattle.cp_code.specs.declared.assertion.Assertion.{Assertion}
use Rattle.cp_code.specs.declared.pred_info.PredInfo.{PredInfo}
use Rattle.cp_code.specs.declared.pred_kind.PredKind.{PredKind}
use Rattle.cp_code.specs.declared.pred_kind.PredKind.TheVariants as pred_kind
use Rattle.cp_code.specs.declared.program.Program.{Program}
use Rattle.cp_code.specs.Programs.{clause_of, check_on, kind_of, pred_of, code_of}
use Rattle.cp_code.specs.Checks.{broken_exit}
use Rattle.std.specs.Option.{option_map}
use Rattle.cp_code.specs.Goals.{seen_pred, pred_at}
use Rattle.cp_code.specs.Tree.{next_of, asks}
use Rattle.cp_code.specs.Requests.{asking_of_functor, asking_of_pred, asking_of_kind, pred_asking, full_name}
use Rattle.cp_code.specs.Code.{Kind, Rules, Shared, Remote, Wrapped}
use Rattle.cp_code.specs.Instrument.{wrapped, wrapped_kind, wrapped_from, original_by, original, instrument, IsPlainKind, ArePlain, HasNoTests}
use Rattle.cp_code.proofs.Alike.{size, Within, within_end, cuts, one_end, copied_size, answer_same, exit_same, demand_same, IsKept, AreAlike, rules_same, ask_same, remote_same, plain_same, body_same, again_same}

pub kept : IsKept HasNoTests
kept = record {
  goal = λ b l rest ok. ok;
  ask = λ a place rest ok. ok;
  cut = λ l rest ok. ok;
  leave = λ k rest ok. ok;
  copy = λ x ctx rest ok. ok;
  exit = λ p cs g rest ok. ok;
}

-- a program that is instrumented for the first time
abbrev first_instrumented : Code → Code
first_instrumented code = record {
  first = code.first;
  preds = wrapped_from 0 code.preds;
  renamed = code.preds;
  sees = code.sees;
  types = code.types;
  ops = code.ops;
  budget = code.budget;
}

-- a predicate by its number, in the program and in the instrumented one
wrapped_at : (n p : ℕ) (ps : List Pred) → slice_get (wrapped_from n ps) p ≡ option_map (wrapped (n + p)) (slice_get ps p)
wrapped_at n p [] = refl
wrapped_at n zero (q ∷ ps) = ap (λ k. Some (wrapped k q)) (omega arith)
wrapped_at n (suc p) (q ∷ ps) = wrapped_at (suc n) p ps ∙ ap (λ k. option_map (wrapped k) (slice_get ps p)) (omega arith)

plain_at : (ps : List Pred) (p : ℕ) (q : Pred) → ArePlain ps → slice_get ps p ≡ Some q → IsPlainKind q.kind
plain_at [] p q h e = absurd (grind arith)
plain_at (r ∷ ps) zero q h e = subst (λ o. plain_option o) e h.0
  where
    plain_option : Option Pred → Type 0
    plain_option None = Unit {0}
    plain_option (Some x) = IsPlainKind x.kind
plain_at (r ∷ ps) (suc p) q h e = plain_at ps p q h.1 e

-- goals on facts ask alike
kind_asks : (n : ℕ) (f : FactGoal) (fact : Seen) (g : List ℕ × ℕ) (p : PredName) (k : Kind) (ctx : List Cell) → asking_of_kind f fact g p k ctx ≡ asking_of_kind f fact g p (wrapped_kind n k) ctx
kind_asks n f fact g p (Rules [] rs) ctx = refl
kind_asks n f fact g p (Rules (c ∷ cs) rs) ctx = refl
kind_asks n f fact g p (Shared object suspends) ctx = refl
kind_asks n f fact g p Remote ctx = refl
kind_asks n f fact g p (Wrapped cs r) ctx = refl

option_asks : (n : ℕ) (f : FactGoal) (fact : Seen) (g : List ℕ × ℕ) (o : Option Pred) (ctx : List Cell) → asking_of_pred f fact g o ctx ≡ asking_of_pred f fact g (option_map (wrapped n) o) ctx
option_asks n f fact g None ctx = refl
option_asks n f fact g (Some p) ctx = kind_asks n f fact g p.name p.kind ctx

number_asks : (code : Code) (f : FactGoal) (fact : Seen) (g : List ℕ × ℕ) (o : Option ℕ) (ctx : List Cell) → asking_of_pred f fact g (pred_at code o) ctx ≡ asking_of_pred f fact g (pred_at (first_instrumented code) o) ctx
number_asks code f fact g None ctx = refl
number_asks code f fact g (Some p) ctx =
    option_asks (0 + p) f fact g (slice_get code.preds p) ctx ∙ ap (λ o. asking_of_pred f fact g o ctx) (sym (wrapped_at 0 p code.preds))

functor_asks : (code : Code) (f : FactGoal) (fact : Seen) (o : Option (List ℕ × ℕ)) (ctx : List Cell) → asking_of_functor code f fact o ctx ≡ asking_of_functor (first_instrumented code) f fact o ctx
functor_asks code f fact None ctx = refl
functor_asks code f fact (Some g) ctx = number_asks code f fact g (code.sees fact.seer g.0 g.1) ctx

-- where no test stands first, the trees of renamed predicates are not asked for
pub no_tests_inside : (A I J : Tree) (code : Code) (goal : List Cell) (items : List Item) → HasNoTests items → (s : Substitution) (next level : ℕ) (left : Left) → row A I code goal items s next level left ≡ row A J code goal items s next level left
no_tests_inside A I J code goal [] ok s next level left = refl
no_tests_inside A I J code goal (Goal b l ∷ rest) ok s next level left = refl
no_tests_inside A I J code goal (AskFrom a place ∷ rest) ok s next level left = refl
no_tests_inside A I J code goal (CutNow l ∷ rest) ok s next level left = ap (cut_behind l) (no_tests_inside A I J code goal rest ok s next level left)
no_tests_inside A I J code goal (Leave k ∷ rest) ok s next level left = no_tests_inside A I J code goal rest ok s next level left
no_tests_inside A I J code goal (Exit p cs g ∷ rest) ok s next level left = ap (exit_if (broken_exit code.types cs (arguments (apply s g))) p rest left) (no_tests_inside A I J code goal rest ok s next level left)
no_tests_inside A I J code goal (Demands p cs g ∷ rest) ok s next level left = absurd ok
no_tests_inside A I J code goal (Renamed p cs g ∷ rest) ok s next level left = absurd ok
no_tests_inside A I J code goal (Copy x ctx ∷ rest) ok s next level left = refl

-- demands are tested alike
demands : (o : Option ℕ) (name : PredName) (p : ℕ) (cs : List Check) (g : List Cell) (rest : List Item) (left : Left) (r r' : Run) → Within (size left) r r' → Within (size left) (demand_if o name rest left r) (demand_if o name (Renamed p cs g ∷ rest) left r')
demands (Some k) name p cs g rest left r r' w = within_end (size left) _ left (omega arith)
demands None name p cs g rest left r r' w = w

-- two trees, of a program and of the instrumented one, that are the same wherever less than m is left
module _ (code : Code) (A B : Tree) (m : ℕ) (hyp : AreAlike HasNoTests m A B)
    (call : (seer f : List ℕ) (k : ℕ) (g ctx : List Cell) (rest : List Item) (ok : HasNoTests rest) (s : Substitution) (next level : ℕ) (left : Left) → size left < m
    → Within (size left) (called_row A code seer (seen_pred code seer f k) g ctx rest s next level left) (called_row B (first_instrumented code) seer (seen_pred (first_instrumented code) seer f k) g ctx rest s next level left)) where
  plain : (seer : List ℕ) (g : List Cell) (rest : List Item) (ok : HasNoTests rest) (s : Substitution) (next level : ℕ) (left : Left) → size left < m → Within (size left) (plain_row A code seer g rest s next level left) (plain_row B (first_instrumented code) seer g rest s next level left)
  plain seer g rest ok s next level left lt =
      plain_same HasNoTests kept A B m hyp code (first_instrumented code) refl refl (λ f fact ctx. functor_asks code f fact (fact_functor fact.goal) ctx) call seer g rest ok s next level left lt

  rows_same : (goal : List Cell) (I J : Tree) (items : List Item) (ok : HasNoTests items) (s : Substitution) (next level : ℕ) (left : Left) → size left ≤ m → Within (size left) (row A I code goal items s next level left) (row B J (first_instrumented code) goal items s next level left)
  rows_same goal I J [] ok s next level left le = answer_same code goal (handed_out (apply s (without_module goal (arguments goal)))) left
  rows_same goal I J (Goal b l ∷ rest) ok s next level left le = body_same HasNoTests kept A B m hyp code (first_instrumented code) plain b l rest ok s next level left le
  rows_same goal I J (AskFrom a place ∷ rest) ok s next level left le = again_same HasNoTests kept A B m hyp code (first_instrumented code) plain a place rest ok s next level left le
  rows_same goal I J (CutNow l ∷ rest) ok s next level left le = cuts (size left) l _ _ (rows_same goal I J rest ok s next level left le)
  rows_same goal I J (Leave k ∷ rest) ok s next level left le = rows_same goal I J rest ok s next level left le
  rows_same goal I J (Exit p cs g ∷ rest) ok s next level left le = exit_same (broken_exit code.types cs (arguments (apply s g))) p rest left _ _ (rows_same goal I J rest ok s next level left le)
  rows_same goal I J (Demands p cs g ∷ rest) ok s next level left le = absurd ok
  rows_same goal I J (Renamed p cs g ∷ rest) ok s next level left le = absurd ok
  rows_same goal I J (Copy x ctx ∷ rest) ok s next level left le = one_end _ left (copied_size (handed_out (apply s x)) ctx rest left)

module _ (code : Code) (goal : List Cell) (plain_preds : ArePlain code.preds) where
  abbrev Same : ℕ → Tree → Tree → Type 0
  Same m A B = AreAlike HasNoTests m A B

  -- the trees inside a renamed predicate
  inner : (m n n' : ℕ) → Same m (tree_to n code goal) (tree_to (suc n') (first_instrumented code) goal) → Same m (tree_to n code goal) (row (tree_to n' (first_instrumented code) goal) nothing (first_instrumented code) goal)
  inner m n n' h items ok s next level left lt =
      let w = h items ok s next level left lt in
      record {
        same = w.same ∙ no_tests_inside (tree_to n' (first_instrumented code) goal) (row (tree_to n' (first_instrumented code) goal) nothing (first_instrumented code) goal) nothing (first_instrumented code) goal items ok s next level left;
        most = w.most;
      }

  -- a call
  kind_call : (m n n' p : ℕ) (q : Pred) (k : Kind) → Same m (tree_to n code goal) (tree_to (suc n') (first_instrumented code) goal) → slice_get code.preds p ≡ Some q → q.kind ≡ k → IsPlainKind k
      → (g : List Cell) (rest : List Item) → HasNoTests rest → (s : Substitution) (next level : ℕ) (left : Left) → size left < m
      → Within (size left) (call_kind (tree_to n code goal) code q.name k g rest s next level left) (call_kind (tree_to (suc n') (first_instrumented code) goal) (first_instrumented code) q.name (wrapped_kind (0 + p) k) g rest s next level left)
  kind_call m n n' p q (Wrapped cs r) h e is u g rest ok s next level left lt = absurd u
  kind_call m n n' p q (Shared object suspends) h e is u g rest ok s next level left lt =
      ask_same HasNoTests kept (tree_to n code goal) (tree_to (suc n') (first_instrumented code) goal) m h (pred_asking object g q.name) (full_name q.name) rest ok s next level left lt
  kind_call m n n' p q Remote h e is u g rest ok s next level left lt =
      remote_same HasNoTests kept (tree_to n code goal) (tree_to (suc n') (first_instrumented code) goal) m h q.name g (handed_out g) rest ok s next level left lt
  kind_call m n n' p q (Rules [] rs) h e is u g rest ok s next level left lt =
      demand_same (broken_call code.types [] [] (arguments g)) q.name rest left _ _
      (rules_same HasNoTests kept (tree_to n code goal) (tree_to (suc n') (first_instrumented code) goal) m h code q.name [] rs g rest ok s next level left lt)
  kind_call m n n' p q (Rules (k ∷ ks) rs) h e is u g rest ok s next level left lt =
      let I = row (tree_to n' (first_instrumented code) goal) nothing (first_instrumented code) goal in
      let found : slice_get code.preds (0 + p) ≡ Some q = ap (slice_get code.preds) (omega arith) ∙ e in
      let w = rules_same HasNoTests kept (tree_to n code goal) I m (inner m n n' h) code q.name (k ∷ ks) rs g rest ok s next level left lt in
      let at_kind = subst (λ x. Within (size left) (call_rules (tree_to n code goal) code q.name (k ∷ ks) rs g rest s next level left) (call_rules I (first_instrumented code) q.name (k ∷ ks) x g rest s next level left)) (sym (ap rules_of_kind is)) w in
      let w' = subst (λ o. Within (size left) (call_rules (tree_to n code goal) code q.name (k ∷ ks) rs g rest s next level left) (call_renamed I (first_instrumented code) o (k ∷ ks) g rest s next level left)) (sym found) at_kind in
      demands (broken_call code.types (k ∷ ks) (k ∷ ks) (arguments g)) q.name (0 + p) (k ∷ ks) g rest left _ _ w'

  option_call : (m n n' p : ℕ) (o : Option Pred) → Same m (tree_to n code goal) (tree_to (suc n') (first_instrumented code) goal) → slice_get code.preds p ≡ o
      → (seer : List ℕ) (g ctx : List Cell) (rest : List Item) → HasNoTests rest → (s : Substitution) (next level : ℕ) (left : Left) → size left < m
      → Within (size left) (called_row (tree_to n code goal) code seer o g ctx rest s next level left) (called_row (tree_to (suc n') (first_instrumented code) goal) (first_instrumented code) seer (option_map (wrapped (0 + p)) o) g ctx rest s next level left)
  option_call m n n' p None h e seer g ctx rest ok s next level left lt = within_end (size left) _ left (omega arith)
  option_call m n n' p (Some q) h e seer g ctx rest ok s next level left lt =
      kind_call m n n' p q q.kind h e refl (plain_at code.preds p q plain_preds e) (qualified seer q.goals g) rest ok s next level left lt

  number_call : (m n n' : ℕ) (o : Option ℕ) → Same m (tree_to n code goal) (tree_to (suc n') (first_instrumented code) goal)
      → (seer : List ℕ) (g ctx : List Cell) (rest : List Item) → HasNoTests rest → (s : Substitution) (next level : ℕ) (left : Left) → size left < m
      → Within (size left) (called_row (tree_to n code goal) code seer (pred_at code o) g ctx rest s next level left) (called_row (tree_to (suc n') (first_instrumented code) goal) (first_instrumented code) seer (pred_at (first_instrumented code) o) g ctx rest s next level left)
  number_call m n n' None h seer g ctx rest ok s next level left lt = within_end (size left) _ left (omega arith)
  number_call m n n' (Some p) h seer g ctx rest ok s next level left lt =
      subst (λ x. Within (size left) (called_row (tree_to n code goal) code seer (slice_get code.preds p) g ctx rest s next level left) (called_row (tree_to (suc n') (first_instrumented code) goal) (first_instrumented code) seer x g ctx rest s next level left))
      (sym (wrapped_at 0 p code.preds))
      (option_call m n n' p (slice_get code.preds p) h refl seer g ctx rest ok s next level left lt)

  same_trees : (m n n' : ℕ) → m ≤ n → m ≤ n' → Same m (tree_to n code goal) (tree_to n' (first_instrumented code) goal)
  same_trees zero n n' a b items ok s next level left lt = absurd (omega arith)
  same_trees (suc m) zero n' a b items ok s next level left lt = absurd (omega arith)
  same_trees (suc m) (suc n) zero a b items ok s next level left lt = absurd (omega arith)
  same_trees (suc m) (suc n) (suc zero) a b items ok s next level left lt =
      rows_same code (tree_to n code goal) (tree_to zero (first_instrumented code) goal) m
      (λ is o t x v l k. absurd (omega arith)) (λ seer f k g ctx r o t x v l lt'. absurd (omega arith))
      goal (row (tree_to n code goal) nothing code goal) (row (tree_to zero (first_instrumented code) goal) nothing (first_instrumented code) goal) items ok s next level left (omega arith)
  same_trees (suc m) (suc n) (suc (suc n')) a b items ok s next level left lt =
      rows_same code (tree_to n code goal) (tree_to (suc n') (first_instrumented code) goal) m
      (same_trees m n (suc n') (omega arith) (omega arith))
      (λ seer f k g ctx r o t x v l lt'. number_call m n n' (code.sees seer f k) (same_trees m n (suc n') (omega arith) (omega arith)) seer g ctx r o t x v l lt')
      goal (row (tree_to n code goal) nothing code goal) (row (tree_to (suc n') (first_instrumented code) goal) nothing (first_instrumented code) goal) items ok s next level left (omega arith)

  -- the tree of the instrumented program is the tree of the program
  pub instrumented_tree : (items : List Item) → HasNoTests items → (s : Substitution) (next level : ℕ) (left : Left) → tree code goal items s next level left ≡ tree (first_instrumented code) goal items s next level left
  unfolding tree
  instrumented_tree items ok s next level left =
      (same_trees (suc (size left)) (suc (size left)) (suc (size left)) (omega arith) (omega arith) items ok s next level left (omega arith)).same

module _ (code : Code) (plain_preds : ArePlain code.preds) (goal : List Cell) where
  entered_body : (o : Option Body) (g ctx : List Cell) (next : ℕ) (left : Left) → enter_body (tree code goal) o g ctx [] [] next 0 left ≡ enter_body (tree (first_instrumented code) goal) o g ctx [] [] next 0 left
  entered_body None g ctx next left = refl
  entered_body (Some b) g ctx next left = ap (opened 1) (instrumented_tree code goal plain_preds (Goal b 1 ∷ []) tt [] next 1 left)

  entered_seen : (g : Seen) (ctx : List Cell) (next : ℕ) (left : Left) → enter_seen (tree code goal) g [] ctx [] [] next 0 left ≡ enter_seen (tree (first_instrumented code) goal) g [] ctx [] [] next 0 left
  entered_seen g ctx next left = by_bound (is_unbound g.goal)
    where
      by_bound : (unbound : Bool) → (if unbound then trees.raise instantiation_error ctx [] left else enter_goal (tree code goal) g.seer (extended g.goal []) ctx [] [] next 0 left)
          ≡ (if unbound then trees.raise instantiation_error ctx [] left else enter_goal (tree (first_instrumented code) goal) g.seer (extended g.goal []) ctx [] [] next 0 left)
      by_bound true = refl
      by_bound false = entered_body (body_of g.seer g.goal) g.goal ctx next left

-- the program with its assertions, and the one that is instrumented for the first time
first_asks : (code : Code) → ArePlain code.preds → (goal : List Cell) (inputs : List Input) → asks code goal inputs ≡ asks (first_instrumented code) goal inputs
first_asks code plain_preds goal inputs =
    ap next_of (entered_seen code plain_preds goal (seen_from code.first (apply [] goal)) (context code.first (codes "call") 1) (next_variable goal) (record { units = code.budget; inputs = inputs; copies = [] }))

-- ---- what the predicates were

-- the instrumented form with these predicates and these renamed ones
abbrev with_preds : Code → List Pred → List Pred → Code
with_preds code preds renamed = record {
  first = code.first;
  preds = preds;
  renamed = renamed;
  sees = code.sees;
  types = code.types;
  ops = code.ops;
  budget = code.budget;
}

plain_original : (renamed : List Pred) (p : Pred) (k : Kind) → IsPlainKind k → original_by renamed p k ≡ p
plain_original renamed p (Rules checks rules) u = refl
plain_original renamed p (Shared object suspends) u = refl
plain_original renamed p Remote u = refl
plain_original renamed p (Wrapped checks n) u = absurd u

plain_originals : (renamed ps : List Pred) → ArePlain ps → map (original renamed) ps ≡ ps
plain_originals renamed [] u = refl
plain_originals renamed (p ∷ ps) u = ap (λ q. q ∷ map (original renamed) ps) (plain_original renamed p p.kind u.0) ∙ ap (λ qs. p ∷ qs) (plain_originals renamed ps u.1)

pub instrumented_asks : (code : Code) → ArePlain code.preds → (goal : List Cell) (inputs : List Input) → asks code goal inputs ≡ asks (instrument code) goal inputs
instrumented_asks code plain_preds goal inputs =
    first_asks code plain_preds goal inputs
    ∙ ap (λ renamed. asks (with_preds code (wrapped_from 0 code.preds) renamed) goal inputs) (sym (plain_originals code.renamed code.preds plain_preds))

-- ---- instrumenting again

kind_again : (n : ℕ) (k : Kind) → wrapped_kind n (wrapped_kind n k) ≡ wrapped_kind n k
kind_again n (Rules [] rules) = refl
kind_again n (Rules (c ∷ cs) rules) = refl
kind_again n (Shared object suspends) = refl
kind_again n Remote = refl
kind_again n (Wrapped checks r) = refl

abbrev of_kind : Pred → Kind → Pred
of_kind p k = record { name = p.name; goals = p.goals; kind = k }

preds_again : (n : ℕ) (ps : List Pred) → wrapped_from n (wrapped_from n ps) ≡ wrapped_from n ps
preds_again n [] = refl
preds_again n (p ∷ ps) = ap (λ k. of_kind p k ∷ wrapped_from (suc n) (wrapped_from (suc n) ps)) (kind_again n p.kind) ∙ ap (λ qs. wrapped n p ∷ qs) (preds_again (suc n) ps)

-- what a predicate was stays the same where it stands at its number among the renamed ones
original_again : (all renamed : List Pred) (n : ℕ) (p : Pred) (k : Kind) → p.kind ≡ k → ((d : Pred) → get_or all n d ≡ original_by renamed p k)
    → original_by all (of_kind p (wrapped_kind n k)) (wrapped_kind n k) ≡ original_by renamed p k
original_again all renamed n p (Rules [] rules) is at = ap (of_kind p) (sym is)
original_again all renamed n p (Rules (c ∷ cs) rules) is at = at (of_kind p (Wrapped (c ∷ cs) n))
original_again all renamed n p (Shared object suspends) is at = ap (of_kind p) (sym is)
original_again all renamed n p Remote is at = ap (of_kind p) (sym is)
original_again all renamed n p (Wrapped checks r) is at = at (of_kind p (Wrapped checks n))

originals_again : (all renamed : List Pred) (n : ℕ) (ps : List Pred) → ((i : ℕ) → slice_get all (n + i) ≡ slice_get (map (original renamed) ps) i)
    → map (original all) (wrapped_from n ps) ≡ map (original renamed) ps
originals_again all renamed n [] at = refl
originals_again all renamed n (p ∷ ps) at =
    ap (λ q. q ∷ map (original all) (wrapped_from (suc n) ps)) (original_again all renamed n p p.kind refl here)
    ∙ ap (λ qs. original renamed p ∷ qs) (originals_again all renamed (suc n) ps behind_here)
  where
    here : (d : Pred) → get_or all n d ≡ original renamed p
    here d = get_or_from_slice_get all n (original renamed p) d (ap (slice_get all) (omega arith) ∙ at 0)

    behind_here : (i : ℕ) → slice_get all (suc n + i) ≡ slice_get (map (original renamed) ps) i
    behind_here i = ap (slice_get all) (omega arith) ∙ at (suc i)

pub instrumented_again : (code : Code) → instrument (instrument code) ≡ instrument code
instrumented_again code =
    ap (λ preds. with_preds code preds (map (original (map (original code.renamed) code.preds)) (wrapped_from 0 code.preds))) (preds_again 0 code.preds)
    ∙ ap (with_preds code (wrapped_from 0 code.preds)) (originals_again (map (original code.renamed) code.preds) code.renamed 0 code.preds (λ i. ap (slice_get (map (original code.renamed) code.preds)) (omega arith)))

-- ---- programs as they are loaded

loaded_kind : (cs : List Check) (rules : List Clause) (k : PredKind) → IsPlainKind (kind_of cs rules k)
loaded_kind cs rules pred_kind.Rules = tt
loaded_kind cs rules (pred_kind.Concurrent n) = tt
loaded_kind cs rules (pred_kind.Plain n) = tt
loaded_kind cs rules (pred_kind.Remote n) = tt

loaded_preds : (assertions : List Assertion) (ps : List PredInfo) → ArePlain (map (pred_of assertions) ps)
loaded_preds assertions [] = tt
loaded_preds assertions (p ∷ ps) = (loaded_kind (filter_map (check_on p.name) assertions) (map clause_of p.clauses) p.kind, loaded_preds assertions ps)

pub programs_are_plain : (p : Program) (budget : ℕ) → ArePlain (code_of p budget).preds
programs_are_plain p budget = loaded_preds p.checks p.preds
