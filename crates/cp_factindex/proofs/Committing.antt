-- Making the prepared call keeps what holds of the fields.
use Rattle.std.proofs.Common.{◌≡◌, ℕ, ◌+◌, ◌-◌, ◌^◌, min, List, [], ◌∷◌, ◌++◌, sym, ◌∙◌, ap, subst, cond, arith, Option, Some, None}
use Rattle.std.specs.Prelude.{count_by, MatchOption}
use Rattle.std.proofs.lemmas.List.Sums.{sum_by-append}
use Rattle.cp_term.specs.declared.cell.Cell.{Cell}
use Rattle.cp_list.specs.ReservedList.{ReservedList}
use Rattle.cp_call.specs.declared.call.Entry.{Entry}
use Rattle.cp_call.specs.Object.{State, step}
use Rattle.cp_call.specs.History.{MayFollow, Calm, state_after, is_add_back, posts_of, cells_of, cells_of_call, cells_of_reply}
use Rattle.cp_call.proofs.Growing.{state_after-push, Legal-push}
use Rattle.cp_call.proofs.Calmness.{Calm-step}
use Rattle.cp_factindex.specs.declared.plan.Plan.{Plan}
use Rattle.cp_factindex.specs.declared.pred.Pred.TheInside.{Inside}
use Rattle.cp_factindex.specs.declared.contents.Contents.{Contents}
use Rattle.cp_factindex.specs.Contents.{state_in, changed}
use Rattle.cp_factindex.specs.Inside.{IsStore, IsReady, inside_state}

-- the entry of a plan
abbrev entry_of : Plan → Entry
entry_of p = record { caller = p.caller; call = p.call; reply = p.recorded }

posts-push : (opening : List (List Cell)) (history : List Entry) (e : Entry) → posts_of opening (history ++ e ∷ []) ≡ posts_of opening history + cond (is_add_back e.call) 1 0
posts-push opening history e = omega (arith, sum_by-append (λ (x : Entry). cond (is_add_back x.call) 1 0) history (e ∷ []), lone)
  where
    lone : count_by (λ (x : Entry). is_add_back x.call) (e ∷ []) ≡ cond (is_add_back e.call) 1 0
    lone = omega arith

cells-push : (history : List Entry) (e : Entry) → cells_of (history ++ e ∷ []) ≡ cells_of history + (cells_of_call e.call + cells_of_reply e.reply)
cells-push history e = omega (arith, sum_by-append (λ (x : Entry). cells_of_call x.call + cells_of_reply x.reply) history (e ∷ []))

saturated : (x y a b m : ℕ) → a ≡ min x m → b ≡ min (a + y) m → b ≡ min (x + y) m
saturated x y a b m p q = omega arith

pub commit_keeps : (a : Inside) (p : Plan) (contents : Contents) (history : ReservedList Entry) (posts cells : ℕ) (plan : Option Plan)
    → IsStore a → a.plan ≡ Some p → plan ≡ None
    → state_in contents ≡ changed p.change a.contents
    → history.items ≡ a.history.items ++ entry_of p ∷ []
    → posts ≡ min (a.posts + cond (is_add_back p.call) 1 0) (2 ^ 64 - 1)
    → cells ≡ min (a.cells + p.cells) (2 ^ 64 - 1)
    → IsStore (record { alloc = a.alloc; opening = a.opening; contents = contents; history = history; posts = posts; cells = cells; plan = plan })
commit_keeps a p contents history posts cells plan s e en ec eh eposts ecells = record {
  state = there ∙ (ap (λ (x : State). (step x p.caller p.call).state) s.state ∙ (sym r.right.state ∙ sym ec));
  legal = rw (kind_is, eh) (Legal-push a.contents.kind a.opening a.history.items (entry_of p) s.legal follows);
  calm = subst Calm (sym there) (Calm-step (inside_state a) p.caller p.call s.calm);
  posts = subst (λ h. posts ≡ min (posts_of a.opening h) (2 ^ 64 - 1)) (sym eh)
      (subst (λ x. posts ≡ min x (2 ^ 64 - 1)) (sym (posts-push a.opening a.history.items (entry_of p)))
      (saturated (posts_of a.opening a.history.items) (cond (is_add_back p.call) 1 0) a.posts posts (2 ^ 64 - 1) s.posts eposts));
  cells = subst (λ h. cells ≡ min (cells_of h) (2 ^ 64 - 1)) (sym eh)
      (subst (λ x. cells ≡ min x (2 ^ 64 - 1)) (sym (cells-push a.history.items (entry_of p)))
      (saturated (cells_of a.history.items) (cells_of_call p.call + cells_of_reply p.recorded) a.cells cells (2 ^ 64 - 1) s.cells pcells));
  plan = rw en tt;
}
  where
    r : IsReady a p
    r = subst (λ o. MatchOption o (Unit {0}) (IsReady a)) e s.plan

    kind_is : contents.kind ≡ a.contents.kind
    kind_is = ap (λ (x : State). x.kind) ec

    there : state_after contents.kind a.opening history.items ≡ (step (inside_state a) p.caller p.call).state
    there = rw (kind_is, eh) (state_after-push a.contents.kind a.opening a.history.items (entry_of p))

    pcells : cells ≡ min (a.cells + (cells_of_call p.call + cells_of_reply p.recorded)) (2 ^ 64 - 1)
    pcells = subst (λ x. cells ≡ min (a.cells + x) (2 ^ 64 - 1)) (r.right.cells ∙ ap (λ x. cells_of_call p.call + cells_of_reply x) (sym r.right.recorded)) ecells

    follows : MayFollow a.contents.kind a.opening a.history.items (entry_of p)
    follows = record { replied = r.right.recorded ∙ (r.right.reply ∙ ap (λ (x : State). (step x p.caller p.call).reply) (sym s.state)); awake = r.awake; room = r.limit }
