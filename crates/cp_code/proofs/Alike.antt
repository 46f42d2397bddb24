-- Trees that are alike wherever less is left: each row of the table gives runs that are alike, where the trees that it
-- stands on are.
use Rattle.std.proofs.Common.{subst, ◌≡◌, ℕ, zero, suc, ◌+◌, ◌<◌, ◌≤◌, Bool, true, false, List, [], ◌∷◌, map, length, Option, Some, None, refl, ap, ◌∙◌, arith, ℤ}
use Rattle.std.specs.Prelude.{nat_eq, nat_lt, Result, Ok, Err, codes, if◌then◌else◌}
use Rattle.cp_term.specs.declared.cell.Cell.{Cell}
use Rattle.cp_term.specs.declared.cell.Cell.TheVariants.{Int}
use Rattle.cp_term.specs.declared.pred_name.PredName.{PredName}
use Rattle.cp_term.specs.Preorder.{arguments}
use Rattle.cp_term.specs.Numbering.{fresh, next_variable, canon}
use Rattle.cp_term.specs.Substitution.{Substitution, apply}
use Rattle.cp_term.specs.Unification.{unify, unifiable_apart}
use Rattle.cp_goal.specs.Builtins as builtins
use Rattle.cp_goal.specs.Builtins.{builtin, context}
use Rattle.cp_goal.specs.Errors.{instantiation_error, resource_error}
use Rattle.cp_goal.specs.Lists.{list_term}
use Rattle.cp_ops.specs.Text.{Style, text_of}
use Rattle.cp_call.specs.declared.item.PutReply.TheVariants as put
use Rattle.cp_call.specs.declared.item.Next.{Next}
use Rattle.cp_call.specs.declared.item.Next.TheVariants as request
use Rattle.cp_call.specs.declared.item.Input.{Input}
use Rattle.cp_call.specs.declared.item.Input.TheVariants as input
use Rattle.cp_code.specs.Bodies.{Body, Cut, True, Fail, Both, Either, Choose, CallOf, CatchOf, ThrowOf, FindAll, Plain, body_of, fresh_body, Seen, seen_from}
use Rattle.cp_code.specs.Properties.{has}
use Rattle.cp_code.specs.Checks.{Check, held}
use Rattle.cp_code.specs.Code.{Code, Clause, Pred}
use Rattle.cp_code.specs.Goals.{FactGoal, Builtin, OnTerms, Property, Write, NewLine, OnFacts, Post, Wait, builtin_goal, seen_pred}
use Rattle.cp_code.specs.Requests.{Asking, Follows, Again, Facts, Fact, Number, Rest, Nothing, Raises, follows, handed_out, functor_of, full_name, fact_asking, post_goal, wait_goal, answers_of, RemoteFollows, Fails, Throws, Breaks, is_unbound}
use Rattle.cp_code.specs.Tree as trees
use Rattle.cp_code.specs.Tree.{Item, Goal, AskFrom, CutNow, Leave, Copy, Exit, End, Done, CutTo, Throw, Steps, Waiting, Left, Run, Ends, Tree, in_turn, cut_at, opened, cut_behind, charge_of, charge, read_of, read, with_copies, throw_copy, throw_if, extended, enter_body, enter_goal, enter, rest_if, body_before, clause_if, clauses, behind, demand_if, exit_if, call_rules, rules_of_kind, call_renamed, facts_if, fact_if, followed, asked, ask, ask_or_raise, wrote, write, behind_answers, each_answer, answered, call_remote, is_among, recover_if, caught, apart, variables_in, collected, copied, ended, first_of, piece_of, builtin_row, called_row, named_row, functor_row, plain_row, body_row, answer}

-- the units and inputs that are left
abbrev pub size : Left → ℕ
size left = left.units + length left.inputs

abbrev pub left_of : Run → Left
left_of (Ends e left) = left

-- two runs are the same, and leave no more than b
pub record Within (b : ℕ) (r r' : Run) : Type 0 where
  pub same : r ≡ r'
  pub most : size (left_of r) ≤ b

pub within_end : (b : ℕ) (e : End) (left : Left) → size left ≤ b → Within b (Ends e left) (Ends e left)
within_end b e left le = record { same = refl; most = le }

pub within_more : (a b : ℕ) (r r' : Run) → a ≤ b → Within a r r' → Within b r r'
within_more a b r r' le w = record { same = w.same; most = let m = w.most in omega arith }

-- what follows the first of two runs
turn_one : (b : ℕ) (r : Run) (k k' : Left → Run) → size (left_of r) ≤ b → ((left : Left) → size left ≤ b → Within b (k left) (k' left)) → Within b (in_turn r k) (in_turn r k')
turn_one b (Ends Done left) k k' le h = h left le
turn_one b (Ends (CutTo l) left) k k' le h = within_end b (CutTo l) left le
turn_one b (Ends (Throw t ks) left) k k' le h = within_end b (Throw t ks) left le
turn_one b (Ends Steps left) k k' le h = within_end b Steps left le
turn_one b (Ends (Waiting n) left) k k' le h = within_end b (Waiting n) left le

pub turn : (b : ℕ) (r r' : Run) (k k' : Left → Run) → Within b r r' → ((left : Left) → size left ≤ b → Within b (k left) (k' left)) → Within b (in_turn r k) (in_turn r' k')
turn b r r' k k' w h =
    let one = turn_one b r k k' w.most h in
    record { same = one.same ∙ ap (λ x. in_turn x k') w.same; most = one.most }

cut_at_size : (t : Bool) (l : ℕ) (left : Left) → size (left_of (cut_at t l left)) ≤ size left
cut_at_size true l left = omega arith
cut_at_size false l left = omega arith

opened_size : (level : ℕ) (r : Run) → size (left_of (opened level r)) ≤ size (left_of r)
opened_size level (Ends Done left) = omega arith
opened_size level (Ends (CutTo l) left) = cut_at_size (nat_eq l level) l left
opened_size level (Ends (Throw t ks) left) = omega arith
opened_size level (Ends Steps left) = omega arith
opened_size level (Ends (Waiting n) left) = omega arith

pub opens : (b level : ℕ) (r r' : Run) → Within b r r' → Within b (opened level r) (opened level r')
opens b level r r' w = record { same = ap (opened level) w.same; most = let m = w.most in let o = opened_size level r in omega arith }

cut_behind_size : (level : ℕ) (r : Run) → size (left_of (cut_behind level r)) ≤ size (left_of r)
cut_behind_size level (Ends Done left) = omega arith
cut_behind_size level (Ends (CutTo l) left) = omega arith
cut_behind_size level (Ends (Throw t ks) left) = omega arith
cut_behind_size level (Ends Steps left) = omega arith
cut_behind_size level (Ends (Waiting n) left) = omega arith

pub cuts : (b level : ℕ) (r r' : Run) → Within b r r' → Within b (cut_behind level r) (cut_behind level r')
cuts b level r r' w = record { same = ap (cut_behind level) w.same; most = let m = w.most in let o = cut_behind_size level r in omega arith }

-- a unit was charged
charge_at : (units : ℕ) (left : Left) (k k' : Left → Run) → units ≡ left.units → ((left' : Left) → size left' < size left → Within (size left') (k left') (k' left')) → Within (size left) (charge_of units left k) (charge_of units left k')
charge_at zero left k k' e h = within_end (size left) Steps left (omega arith)
charge_at (suc units) left k k' e h =
    let left' : Left = record { units = units; inputs = left.inputs; copies = left.copies } in
    let less : size left' < size left = omega arith in
    within_more (size left') (size left) (k left') (k' left') (omega arith) (h left' less)

pub charges : (left : Left) (k k' : Left → Run) → ((left' : Left) → size left' < size left → Within (size left') (k left') (k' left')) → Within (size left) (charge left k) (charge left k')
charges left k k' h = charge_at left.units left k k' refl h

-- an input was read
read_at : (inputs : List Input) (due : Next) (left : Left) (k k' : Input → Left → Run) → inputs ≡ left.inputs → ((i : Input) (left' : Left) → size left' < size left → Within (size left') (k i left') (k' i left')) → Within (size left) (read_of inputs due left k) (read_of inputs due left k')
read_at [] due left k k' e h = within_end (size left) (Waiting due) left (omega arith)
read_at (i ∷ inputs) due left k k' e h =
    let left' : Left = record { units = left.units; inputs = inputs; copies = left.copies } in
    let l : length (i ∷ inputs) ≡ length left.inputs = ap length e in
    let less : size left' < size left = omega arith in
    within_more (size left') (size left) (k i left') (k' i left') (omega arith) (h i left' less)

pub reads : (due : Next) (left : Left) (k k' : Input → Left → Run) → ((i : Input) (left' : Left) → size left' < size left → Within (size left') (k i left') (k' i left')) → Within (size left) (read due left k) (read due left k')
reads due left k k' h = read_at left.inputs due left k k' refl h

pub demand_same : (o : Option ℕ) (p : PredName) (rest : List Item) (left : Left) (r r' : Run) → Within (size left) r r' → Within (size left) (demand_if o p rest left r) (demand_if o p rest left r')
demand_same (Some k) p rest left r r' w = within_end (size left) _ left (omega arith)
demand_same None p rest left r r' w = w

pub exit_same : (o : Option ℕ) (p : PredName) (rest : List Item) (left : Left) (r r' : Run) → Within (size left) r r' → Within (size left) (exit_if o p rest left r) (exit_if o p rest left r')
exit_same (Some k) p rest left r r' w = within_end (size left) _ left (omega arith)
exit_same None p rest left r r' w = w

-- a run that no tree has a part in
pub one_end : (r : Run) (left : Left) → size (left_of r) ≤ size left → Within (size left) r r
one_end (Ends e left') left le = within_end (size left) e left' le

pub throw_copy_size : (t : Result (List Cell) (List Cell)) (ctx : List Cell) (rest : List Item) (left : Left) → size (left_of (throw_copy t ctx rest left)) ≤ size left
throw_copy_size (Ok t) ctx rest left = omega arith
throw_copy_size (Err kind) ctx rest left = omega arith

pub throw_if_size : (b : Bool) (t ctx : List Cell) (rest : List Item) (left : Left) → size (left_of (throw_if b t ctx rest left)) ≤ size left
throw_if_size true t ctx rest left = omega arith
throw_if_size false t ctx rest left = throw_copy_size (handed_out t) ctx rest left

pub copied_size : (t : Result (List Cell) (List Cell)) (ctx : List Cell) (rest : List Item) (left : Left) → size (left_of (copied t ctx rest left)) ≤ size left
copied_size (Ok t) ctx rest left = omega arith
copied_size (Err kind) ctx rest left = omega arith

pub behind_size : (after : RemoteFollows) (ctx : List Cell) (rest : List Item) (left : Left) → size (left_of (behind_answers after ctx rest left)) ≤ size left
behind_size Fails ctx rest left = omega arith
behind_size (Throws t) ctx rest left = throw_copy_size (handed_out t) ctx rest left
behind_size (Breaks kind) ctx rest left = omega arith

pub answer_same : (code : Code) (goal : List Cell) (t : Result (List Cell) (List Cell)) (left : Left) → Within (size left) (answer code goal t left) (answer code goal t left)
answer_same code goal (Ok t) left = reads (request.Answer t) left _ _ (λ i left' lt. within_end (size left') Done left' (omega arith))
answer_same code goal (Err kind) left = within_end (size left) _ left (omega arith)

-- a condition on lists of goals that the goals put in front of a list keep
pub record IsKept (Q : List Item → Type 0) : Type 0 where
  pub goal : (b : Body) (l : ℕ) (rest : List Item) → Q rest → Q (Goal b l ∷ rest)
  pub ask : (a : Asking) (place : ℤ) (rest : List Item) → Q rest → Q (AskFrom a place ∷ rest)
  pub cut : (l : ℕ) (rest : List Item) → Q rest → Q (CutNow l ∷ rest)
  pub leave : (k : ℕ) (rest : List Item) → Q rest → Q (Leave k ∷ rest)
  pub copy : (x ctx : List Cell) (rest : List Item) → Q rest → Q (Copy x ctx ∷ rest)
  pub exit : (p : PredName) (cs : List Check) (g : List Cell) (rest : List Item) → Q rest → Q (Exit p cs g ∷ rest)

-- two trees are the same of such lists of goals, wherever less than m is left
abbrev pub AreAlike : (List Item → Type 0) → ℕ → Tree → Tree → Type 0
AreAlike Q m A B = (items : List Item) → Q items → (s : Substitution) (next level : ℕ) (left : Left) → size left < m → Within (size left) (A items s next level left) (B items s next level left)

module _ (Q : List Item → Type 0) (keep : IsKept Q) where
  pub kept_behind : (p : PredName) (cs : List Check) (g : List Cell) (rest : List Item) → Q rest → Q (behind p cs g rest)
  kept_behind p [] g rest ok = ok
  kept_behind p (c ∷ cs) g rest ok = keep.exit p (c ∷ cs) g rest ok

  pub kept_body : (b : Option Body) (next level : ℕ) (rest : List Item) → Q rest → Q (body_before b next level rest)
  kept_body None next level rest ok = ok
  kept_body (Some b) next level rest ok = keep.goal (fresh_body next b) level rest ok

module _ (Q : List Item → Type 0) (keep : IsKept Q) (A B : Tree) (m : ℕ) (hyp : AreAlike Q m A B) where
  pub enter_body_same : (b : Option Body) (g ctx : List Cell) (rest : List Item) (ok : Q rest) (s : Substitution) (next level : ℕ) (left : Left) → size left < m → Within (size left) (enter_body A b g ctx rest s next level left) (enter_body B b g ctx rest s next level left)
  enter_body_same None g ctx rest ok s next level left lt = within_end (size left) _ left (omega arith)
  enter_body_same (Some b) g ctx rest ok s next level left lt = opens (size left) (suc level) _ _ (hyp (Goal b (suc level) ∷ rest) (keep.goal b (suc level) rest ok) s next (suc level) left lt)

  pub enter_goal_same : (seer : List ℕ) (g : Result (List Cell) (List Cell)) (ctx : List Cell) (rest : List Item) (ok : Q rest) (s : Substitution) (next level : ℕ) (left : Left) → size left < m → Within (size left) (enter_goal A seer g ctx rest s next level left) (enter_goal B seer g ctx rest s next level left)
  enter_goal_same seer (Ok g) ctx rest ok s next level left lt = enter_body_same (body_of seer g) g ctx rest ok s next level left lt
  enter_goal_same seer (Err kind) ctx rest ok s next level left lt = within_end (size left) _ left (omega arith)

  pub enter_if_same : (unbound : Bool) (g : Seen) (extra : List (List Cell)) (ctx : List Cell) (rest : List Item) (ok : Q rest) (s : Substitution) (next level : ℕ) (left : Left) → size left < m
      → Within (size left) (if unbound then trees.raise instantiation_error ctx rest left else enter_goal A g.seer (extended g.goal extra) ctx rest s next level left) (if unbound then trees.raise instantiation_error ctx rest left else enter_goal B g.seer (extended g.goal extra) ctx rest s next level left)
  enter_if_same true g extra ctx rest ok s next level left lt = within_end (size left) _ left (omega arith)
  enter_if_same false g extra ctx rest ok s next level left lt = enter_goal_same g.seer (extended g.goal extra) ctx rest ok s next level left lt

  pub enter_same : (seer : List ℕ) (g : List Cell) (extra : List (List Cell)) (ctx : List Cell) (rest : List Item) (ok : Q rest) (s : Substitution) (next level : ℕ) (left : Left) → size left < m → Within (size left) (enter A seer g extra ctx rest s next level left) (enter B seer g extra ctx rest s next level left)
  enter_same seer g extra ctx rest ok s next level left lt =
      enter_if_same (is_unbound ((seen_from seer (apply s g)).goal)) (seen_from seer (apply s g)) (map (apply s) extra) ctx rest ok s next level left lt

  pub rest_same : (o : Option Substitution) (rest : List Item) (ok : Q rest) (next level : ℕ) (left : Left) → size left < m → Within (size left) (rest_if A o rest next level left) (rest_if B o rest next level left)
  rest_same None rest ok next level left lt = within_end (size left) Done left (omega arith)
  rest_same (Some s) rest ok next level left lt = hyp rest ok s next level left lt

  pub clause_same : (o : Option Substitution) (c : Clause) (rest : List Item) (ok : Q rest) (next level : ℕ) (left : Left) → size left < m → Within (size left) (clause_if A o c rest next level left) (clause_if B o c rest next level left)
  clause_same None c rest ok next level left lt = within_end (size left) Done left (omega arith)
  clause_same (Some s) c rest ok next level left lt = hyp (body_before c.body next level rest) (kept_body Q keep c.body next level rest ok) s (next + c.variables) level left lt

  pub clauses_same : (cs : List Clause) (g : List Cell) (rest : List Item) (ok : Q rest) (s : Substitution) (next level : ℕ) (left : Left) → size left < m → Within (size left) (clauses A cs g rest s next level left) (clauses B cs g rest s next level left)
  clauses_same [] g rest ok s next level left lt = within_end (size left) Done left (omega arith)
  clauses_same (c ∷ cs) g rest ok s next level left lt =
      turn (size left) _ _ _ _ (clause_same (unify s g (fresh next c.head)) c rest ok next level left lt)
      (λ left' le. within_more (size left') (size left) _ _ le (clauses_same cs g rest ok s next level left' (omega arith)))

  pub rules_same : (code : Code) (p : PredName) (cs : List Check) (rs : List Clause) (g : List Cell) (rest : List Item) (ok : Q rest) (s : Substitution) (next level : ℕ) (left : Left) → size left < m → Within (size left) (call_rules A code p cs rs g rest s next level left) (call_rules B code p cs rs g rest s next level left)
  rules_same code p cs rs g rest ok s next level left lt =
      opens (size left) (suc level) _ _ (clauses_same rs g (behind p (held code.types cs (arguments g)) g rest) (kept_behind Q keep p (held code.types cs (arguments g)) g rest ok) s next (suc level) left lt)

  pub renamed_same : (code : Code) (o : Option Pred) (cs : List Check) (g : List Cell) (rest : List Item) (ok : Q rest) (s : Substitution) (next level : ℕ) (left : Left) → size left < m → Within (size left) (call_renamed A code o cs g rest s next level left) (call_renamed B code o cs g rest s next level left)
  renamed_same code (Some p) cs g rest ok s next level left lt = rules_same code p.name cs (rules_of_kind p.kind) g rest ok s next level left lt
  renamed_same code None cs g rest ok s next level left lt = within_end (size left) Done left (omega arith)

  pub facts_same : (o : Option Substitution) (a : Asking) (place : ℤ) (rest : List Item) (ok : Q rest) (s : Substitution) (next next' level : ℕ) (left : Left) → size left < m → Within (size left) (facts_if A o a place rest s next next' level left) (facts_if B o a place rest s next next' level left)
  facts_same None a place rest ok s next next' level left lt = within_end (size left) Done left (omega arith)
  facts_same (Some s') a place rest ok s next next' level left lt =
      turn (size left) _ _ _ _ (hyp rest ok s' next' level left lt)
      (λ left' le. within_more (size left') (size left) _ _ le (hyp (AskFrom a place ∷ rest) (keep.ask a place rest ok) s next level left' (omega arith)))

  pub fact_same : (b : Bool) (rest : List Item) (ok : Q rest) (s : Substitution) (next level : ℕ) (left : Left) → size left < m → Within (size left) (fact_if A b rest s next level left) (fact_if B b rest s next level left)
  fact_same true rest ok s next level left lt = hyp rest ok s next level left lt
  fact_same false rest ok s next level left lt = within_end (size left) Done left (omega arith)

  pub followed_same : (f : Follows) (a : Asking) (rest : List Item) (ok : Q rest) (s : Substitution) (next level : ℕ) (left : Left) (k k' : Left → Run) → size left < m → Within (size left) (k left) (k' left)
      → Within (size left) (followed A f a rest s next level left k) (followed B f a rest s next level left k')
  followed_same Again a rest ok s next level left k k' lt w = w
  followed_same (Facts place pattern fact) a rest ok s next level left k k' lt w = facts_same (unify s pattern (fresh next fact)) a place rest ok s next (next + next_variable fact) level left lt
  followed_same (Fact pattern fact) a rest ok s next level left k k' lt w = fact_same (unifiable_apart pattern fact) rest ok s next level left lt
  followed_same (Number number place) a rest ok s next level left k k' lt w = rest_same (unify s number (Int place ∷ [])) rest ok next level left lt
  followed_same Rest a rest ok s next level left k k' lt w = hyp rest ok s next level left lt
  followed_same Nothing a rest ok s next level left k k' lt w = within_end (size left) Done left (omega arith)
  followed_same (Raises kind) a rest ok s next level left k k' lt w = within_end (size left) _ left (omega arith)

  pub asked_same : (a : Asking) (after : Option ℤ) (rest : List Item) (ok : Q rest) (s : Substitution) (next level units : ℕ) (copies : List (List Cell)) (inputs : List Input) → units + length inputs < m
      → Within (units + length inputs) (asked A a after rest s next level units copies inputs) (asked B a after rest s next level units copies inputs)
  asked_same a after rest ok s next level units copies [] lt = within_end (units + 0) _ (record { units = units; inputs = []; copies = copies }) (omega arith)
  asked_same a after rest ok s next level units copies (input.Reply r ∷ inputs) lt =
      let left : Left = record { units = units; inputs = inputs; copies = copies } in
      within_more (size left) (units + length (input.Reply r ∷ inputs)) _ _ (omega arith)
      (followed_same (follows a.manner r) a rest ok s next level left _ _ (omega arith) (asked_same a after rest ok s next level units copies inputs (omega arith)))
  asked_same a after rest ok s next level units copies (input.Put r ∷ inputs) lt = within_end _ _ (record { units = units; inputs = inputs; copies = copies }) (omega arith)
  asked_same a after rest ok s next level units copies (input.Remote r ∷ inputs) lt = within_end _ _ (record { units = units; inputs = inputs; copies = copies }) (omega arith)
  asked_same a after rest ok s next level units copies (input.More ∷ inputs) lt = within_end _ _ (record { units = units; inputs = inputs; copies = copies }) (omega arith)

  pub ask_same : (a : Result Asking (List Cell)) (ctx : List Cell) (rest : List Item) (ok : Q rest) (s : Substitution) (next level : ℕ) (left : Left) → size left < m → Within (size left) (ask_or_raise A a ctx rest s next level left) (ask_or_raise B a ctx rest s next level left)
  ask_same (Ok a) ctx rest ok s next level left lt = asked_same a None rest ok s next level left.units left.copies left.inputs lt
  ask_same (Err kind) ctx rest ok s next level left lt = within_end (size left) _ left (omega arith)

  pub wrote_same : (ctx : List Cell) (rest : List Item) (ok : Q rest) (s : Substitution) (next level : ℕ) (i : Input) (left : Left) → size left < m → Within (size left) (wrote A ctx rest s next level i left) (wrote B ctx rest s next level i left)
  wrote_same ctx rest ok s next level (input.Put put.Wrote) left lt = hyp rest ok s next level left lt
  wrote_same ctx rest ok s next level (input.Put put.Failed) left lt = within_end (size left) _ left (omega arith)
  wrote_same ctx rest ok s next level (input.Reply r) left lt = within_end (size left) _ left (omega arith)
  wrote_same ctx rest ok s next level (input.Remote r) left lt = within_end (size left) _ left (omega arith)
  wrote_same ctx rest ok s next level input.More left lt = within_end (size left) _ left (omega arith)

  pub write_if_same : (large : Bool) (bytes : List ℕ) (ctx : List Cell) (rest : List Item) (ok : Q rest) (s : Substitution) (next level : ℕ) (left : Left) → size left < m
      → Within (size left) (if large then trees.raise (resource_error (codes "output_piece")) ctx rest left else read (request.Put bytes) left (wrote A ctx rest s next level)) (if large then trees.raise (resource_error (codes "output_piece")) ctx rest left else read (request.Put bytes) left (wrote B ctx rest s next level))
  write_if_same true bytes ctx rest ok s next level left lt = within_end (size left) _ left (omega arith)
  write_if_same false bytes ctx rest ok s next level left lt = reads (request.Put bytes) left _ _ (λ i left' lt'. wrote_same ctx rest ok s next level i left' (omega arith))

  pub write_same : (bytes : List ℕ) (ctx : List Cell) (rest : List Item) (ok : Q rest) (s : Substitution) (next level : ℕ) (left : Left) → size left < m → Within (size left) (write A bytes ctx rest s next level left) (write B bytes ctx rest s next level left)
  write_same bytes ctx rest ok s next level left lt = write_if_same (nat_lt 65535 (length bytes)) bytes ctx rest ok s next level left lt

  pub each_same : (answers : List (List Cell)) (after : RemoteFollows) (g ctx : List Cell) (rest : List Item) (ok : Q rest) (s : Substitution) (next level : ℕ) (left : Left) → size left < m → Within (size left) (each_answer A answers after g ctx rest s next level left) (each_answer B answers after g ctx rest s next level left)
  each_same [] after g ctx rest ok s next level left lt = one_end _ left (behind_size after ctx rest left)
  each_same (a ∷ answers) after g ctx rest ok s next level left lt =
      turn (size left) _ _ _ _ (rest_same (unify s g (fresh next a)) rest ok (next + next_variable a) level left lt)
      (λ left' le. within_more (size left') (size left) _ _ le (each_same answers after g ctx rest ok s next level left' (omega arith)))

  pub answered_same : (p : PredName) (g : List Cell) (rest : List Item) (ok : Q rest) (s : Substitution) (next level : ℕ) (i : Input) (left : Left) → size left < m → Within (size left) (answered A p g rest s next level i left) (answered B p g rest s next level i left)
  answered_same p g rest ok s next level (input.Remote r) left lt = each_same ((answers_of p r).answers) ((answers_of p r).behind) g (full_name p) rest ok s next level left lt
  answered_same p g rest ok s next level (input.Reply r) left lt = within_end (size left) _ left (omega arith)
  answered_same p g rest ok s next level (input.Put r) left lt = within_end (size left) _ left (omega arith)
  answered_same p g rest ok s next level input.More left lt = within_end (size left) _ left (omega arith)

  pub remote_same : (p : PredName) (g : List Cell) (t : Result (List Cell) (List Cell)) (rest : List Item) (ok : Q rest) (s : Substitution) (next level : ℕ) (left : Left) → size left < m → Within (size left) (call_remote A p g t rest s next level left) (call_remote B p g t rest s next level left)
  remote_same p g (Ok t) rest ok s next level left lt = reads _ left _ _ (λ i left' lt'. answered_same p g rest ok s next level i left' (omega arith))
  remote_same p g (Err kind) rest ok s next level left lt = within_end (size left) _ left (omega arith)

  pub recover_same : (among : Bool) (o : Option Substitution) (seer : List ℕ) (r : List Cell) (rest : List Item) (ok : Q rest) (next level : ℕ) (t : List Cell) (ks : List ℕ) (left : Left) → size left < m → Within (size left) (recover_if A among o seer r rest next level t ks left) (recover_if B among o seer r rest next level t ks left)
  recover_same true None seer r rest ok next level t ks left lt = within_end (size left) _ left (omega arith)
  recover_same true (Some s) seer r rest ok next level t ks left lt = enter_same seer r [] (context seer (codes "catch") 3) rest ok s next level left lt
  recover_same false o seer r rest ok next level t ks left lt = within_end (size left) _ left (omega arith)

  pub caught_one : (k : ℕ) (seer : List ℕ) (catcher r : List Cell) (rest : List Item) (ok : Q rest) (s : Substitution) (next level : ℕ) (run : Run) → size (left_of run) < m → Within (size (left_of run)) (caught A k seer catcher r rest s next level run) (caught B k seer catcher r rest s next level run)
  caught_one k seer catcher r rest ok s next level (Ends Done left) lt = within_end (size left) _ left (omega arith)
  caught_one k seer catcher r rest ok s next level (Ends (CutTo l) left) lt = within_end (size left) _ left (omega arith)
  caught_one k seer catcher r rest ok s next level (Ends (Throw t ks) left) lt = recover_same (is_among k ks) (unify s catcher (fresh next t)) seer r rest ok (next + next_variable t) level t ks left lt
  caught_one k seer catcher r rest ok s next level (Ends Steps left) lt = within_end (size left) _ left (omega arith)
  caught_one k seer catcher r rest ok s next level (Ends (Waiting n) left) lt = within_end (size left) _ left (omega arith)

  pub caught_same : (k : ℕ) (seer : List ℕ) (catcher r : List Cell) (rest : List Item) (ok : Q rest) (s : Substitution) (next level b : ℕ) (run run' : Run) → b < m → Within b run run' → Within b (caught A k seer catcher r rest s next level run) (caught B k seer catcher r rest s next level run')
  caught_same k seer catcher r rest ok s next level b run run' lt w =
      let le = w.most in
      let one = within_more (size (left_of run)) b _ _ le (caught_one k seer catcher r rest ok s next level run (omega arith)) in
      record { same = one.same ∙ ap (caught B k seer catcher r rest s next level) w.same; most = one.most }

  pub collected_one : (outer : List (List Cell)) (result : List Cell) (rest : List Item) (ok : Q rest) (s : Substitution) (next level : ℕ) (run : Run) → size (left_of run) < m → Within (size (left_of run)) (collected A outer result rest s next level run) (collected B outer result rest s next level run)
  collected_one outer result rest ok s next level (Ends Done left) lt =
      rest_same (unify s result (list_term (apart next left.copies))) rest ok (next + variables_in left.copies) level (with_copies outer left) lt
  collected_one outer result rest ok s next level (Ends (CutTo l) left) lt = within_end (size left) _ (with_copies outer left) (omega arith)
  collected_one outer result rest ok s next level (Ends (Throw t ks) left) lt = within_end (size left) _ (with_copies outer left) (omega arith)
  collected_one outer result rest ok s next level (Ends Steps left) lt = within_end (size left) _ (with_copies outer left) (omega arith)
  collected_one outer result rest ok s next level (Ends (Waiting n) left) lt = within_end (size left) _ (with_copies outer left) (omega arith)

  pub collected_same : (outer : List (List Cell)) (result : List Cell) (rest : List Item) (ok : Q rest) (s : Substitution) (next level b : ℕ) (run run' : Run) → b < m → Within b run run' → Within b (collected A outer result rest s next level run) (collected B outer result rest s next level run')
  collected_same outer result rest ok s next level b run run' lt w =
      let le = w.most in
      let one = within_more (size (left_of run)) b _ _ le (collected_one outer result rest ok s next level run (omega arith)) in
      record { same = one.same ∙ ap (collected B outer result rest s next level) w.same; most = one.most }

  pub ended_same : (e : builtins.End) (ctx : List Cell) (rest : List Item) (ok : Q rest) (level : ℕ) (left : Left) → size left < m → Within (size left) (ended A e ctx rest level left) (ended B e ctx rest level left)
  ended_same (builtins.Succeeds s next) ctx rest ok level left lt = hyp rest ok s next level left lt
  ended_same builtins.Fails ctx rest ok level left lt = within_end (size left) Done left (omega arith)
  ended_same (builtins.Raises kind) ctx rest ok level left lt = within_end (size left) _ left (omega arith)

-- goals of the language and predicates, in two programs with the same types and operators
module _ (Q : List Item → Type 0) (keep : IsKept Q) (A B : Tree) (m : ℕ) (hyp : AreAlike Q m A B) (c c' : Code)
    (types : c.types ≡ c'.types) (ops : c.ops ≡ c'.ops)
    (asks_alike : (f : FactGoal) (fact : Seen) (ctx : List Cell) → fact_asking c f fact ctx ≡ fact_asking c' f fact ctx)
    (call : (seer f : List ℕ) (k : ℕ) (g ctx : List Cell) (rest : List Item) (ok : Q rest) (s : Substitution) (next level : ℕ) (left : Left) → size left < m
    → Within (size left) (called_row A c seer (seen_pred c seer f k) g ctx rest s next level left) (called_row B c' seer (seen_pred c' seer f k) g ctx rest s next level left)) where
  pub builtin_same : (seer : List ℕ) (b : Builtin) (args : List (List Cell)) (ctx : List Cell) (rest : List Item) (ok : Q rest) (s : Substitution) (next level : ℕ) (left : Left) → size left < m
      → Within (size left) (builtin_row A c seer b args ctx rest s next level left) (builtin_row B c' seer b args ctx rest s next level left)
  builtin_same seer (OnTerms b) args ctx rest ok s next level left lt = ended_same Q keep A B m hyp (builtin b args s next) ctx rest ok level left lt
  builtin_same seer (Property name) args ctx rest ok s next level left lt =
      subst (λ t. Within (size left) (fact_if A (has c.types name (first_of args)) rest s next level left) (fact_if B (has t name (first_of args)) rest s next level left)) types
      (fact_same Q keep A B m hyp (has c.types name (first_of args)) rest ok s next level left lt)
  builtin_same seer (Write style) args ctx rest ok s next level left lt =
      subst (λ t. Within (size left) (write A (piece_of c style seer args) ctx rest s next level left) (write B t ctx rest s next level left)) (piece_alike style seer args)
      (write_same Q keep A B m hyp (piece_of c style seer args) ctx rest ok s next level left lt)
    where
      piece_alike : (style : Style) (seer : List ℕ) (args : List (List Cell)) → piece_of c style seer args ≡ piece_of c' style seer args
      piece_alike style seer [] = refl
      piece_alike style seer (t ∷ ts) = ap (λ o. text_of style (o seer) (canon t)) ops
  builtin_same seer NewLine args ctx rest ok s next level left lt = write_same Q keep A B m hyp (codes "\n") ctx rest ok s next level left lt
  builtin_same seer (OnFacts f) args ctx rest ok s next level left lt =
      subst (λ a. Within (size left) (ask_or_raise A (fact_asking c f (seen_from seer (first_of args)) ctx) ctx rest s next level left) (ask_or_raise B a ctx rest s next level left)) (asks_alike f (seen_from seer (first_of args)) ctx)
      (ask_same Q keep A B m hyp (fact_asking c f (seen_from seer (first_of args)) ctx) ctx rest ok s next level left lt)
  builtin_same seer Post args ctx rest ok s next level left lt = ask_same Q keep A B m hyp (post_goal seer args ctx) ctx rest ok s next level left lt
  builtin_same seer Wait args ctx rest ok s next level left lt = ask_same Q keep A B m hyp (wait_goal args ctx) ctx rest ok s next level left lt

  named_same : (seer : List ℕ) (o : Option Builtin) (f : List ℕ × ℕ) (g : List Cell) (rest : List Item) (ok : Q rest) (s : Substitution) (next level : ℕ) (left : Left) → size left < m
      → Within (size left) (named_row A c seer o f g rest s next level left) (named_row B c' seer o f g rest s next level left)
  named_same seer (Some b) f g rest ok s next level left lt = builtin_same seer b (arguments g) (context seer f.0 f.1) rest ok s next level left lt
  named_same seer None f g rest ok s next level left lt = call seer f.0 f.1 g (context seer f.0 f.1) rest ok s next level left lt

  functor_same : (seer : List ℕ) (o : Option (List ℕ × ℕ)) (g : List Cell) (rest : List Item) (ok : Q rest) (s : Substitution) (next level : ℕ) (left : Left) → size left < m
      → Within (size left) (functor_row A c seer o g rest s next level left) (functor_row B c' seer o g rest s next level left)
  functor_same seer (Some f) g rest ok s next level left lt = named_same seer (builtin_goal f.0 f.1) f g rest ok s next level left lt
  functor_same seer None g rest ok s next level left lt = within_end (size left) Done left (omega arith)

  pub plain_same : (seer : List ℕ) (g : List Cell) (rest : List Item) (ok : Q rest) (s : Substitution) (next level : ℕ) (left : Left) → size left < m
      → Within (size left) (plain_row A c seer g rest s next level left) (plain_row B c' seer g rest s next level left)
  plain_same seer g rest ok s next level left lt = functor_same seer (functor_of g) g rest ok s next level left lt

-- the bodies of goals, by what the goals do that are no control
module _ (Q : List Item → Type 0) (keep : IsKept Q) (A B : Tree) (m : ℕ) (hyp : AreAlike Q m A B) (c c' : Code)
    (plain : (seer : List ℕ) (g : List Cell) (rest : List Item) (ok : Q rest) (s : Substitution) (next level : ℕ) (left : Left) → size left < m → Within (size left) (plain_row A c seer g rest s next level left) (plain_row B c' seer g rest s next level left)) where
  pub body_same : (b : Body) (l : ℕ) (rest : List Item) (ok : Q rest) (s : Substitution) (next level : ℕ) (left : Left) → size left ≤ m → Within (size left) (body_row A c b l rest s next level left) (body_row B c' b l rest s next level left)
  body_same Cut l rest ok s next level left le =
      charges left _ _ (λ left' lt. cuts (size left') l _ _ (hyp rest ok s next level left' (omega arith)))
  body_same True l rest ok s next level left le = charges left _ _ (λ left' lt. hyp rest ok s next level left' (omega arith))
  body_same Fail l rest ok s next level left le = charges left _ _ (λ left' lt. within_end (size left') Done left' (omega arith))
  body_same (Both a b) l rest ok s next level left le = body_same a l (Goal b l ∷ rest) (keep.goal b l rest ok) s next level left le
  body_same (Either a b) l rest ok s next level left le =
      charges left _ _ (λ left' lt. turn (size left') _ _ _ _ (hyp (Goal a l ∷ rest) (keep.goal a l rest ok) s next level left' (omega arith))
      (λ left'' le'. within_more (size left'') (size left') _ _ le' (hyp (Goal b l ∷ rest) (keep.goal b l rest ok) s next level left'' (omega arith))))
  body_same (Choose c t e) l rest ok s next level left le =
      charges left _ _ (λ left' lt. opens (size left') (level + 1) _ _ (turn (size left') _ _ _ _
      (opens (size left') (level + 2) _ _ (hyp (Goal c (level + 2) ∷ CutNow (level + 1) ∷ Goal t l ∷ rest) (keep.goal c (level + 2) _ (keep.cut (level + 1) _ (keep.goal t l rest ok))) s next (level + 2) left' (omega arith)))
      (λ left'' le'. within_more (size left'') (size left') _ _ le' (hyp (Goal e l ∷ rest) (keep.goal e l rest ok) s next (level + 1) left'' (omega arith)))))
  body_same (CallOf seer g extra) l rest ok s next level left le =
      charges left _ _ (λ left' lt. enter_same Q keep A B m hyp seer g extra (context seer (codes "call") (suc (length extra))) rest ok s next level left' (omega arith))
  body_same (CatchOf seer g catcher r) l rest ok s next level left le =
      charges left _ _ (λ left' lt. caught_same Q keep A B m hyp (suc level) seer catcher r rest ok s next level (size left') _ _ (omega arith)
      (enter_same Q keep A B m hyp seer g [] (context seer (codes "catch") 3) (Leave (suc level) ∷ rest) (keep.leave (suc level) rest ok) s next level left' (omega arith)))
  body_same (ThrowOf seer t) l rest ok s next level left le =
      charges left _ _ (λ left' lt. one_end _ left' (throw_if_size (is_unbound (apply s t)) (apply s t) (context seer (codes "throw") 1) rest left'))
  body_same (FindAll seer x g result) l rest ok s next level left le =
      charges left _ _ (λ left' lt. collected_same Q keep A B m hyp left'.copies result rest ok s next level (size left') _ _ (omega arith)
      (enter_same Q keep A B m hyp seer g [] (context seer (codes "findall") 3) (Copy x (context seer (codes "findall") 3) ∷ rest) (keep.copy x (context seer (codes "findall") 3) rest ok) s next level (with_copies [] left') (omega arith)))
  body_same (Plain seer g) l rest ok s next level left le =
      charges left _ _ (λ left' lt. plain seer (apply s g) rest ok s next level left' (omega arith))

  pub again_same : (a : Asking) (place : ℤ) (rest : List Item) (ok : Q rest) (s : Substitution) (next level : ℕ) (left : Left) → size left ≤ m
      → Within (size left) (charge left (λ left. ask A a (Some place) rest s next level left)) (charge left (λ left. ask B a (Some place) rest s next level left))
  again_same a place rest ok s next level left le =
      charges left _ _ (λ left' lt. asked_same Q keep A B m hyp a (Some place) rest ok s next level left'.units left'.copies left'.inputs (omega arith))
