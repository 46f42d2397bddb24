-- A goal that is entered over a frame and in front of an item of its own.
use Rattle.std.proofs.Common.{◌≡◌, ℕ, suc, ◌+◌, ◌<◌, List, [], ◌∷◌, length, get_or, ◌∙◌, ap, arith}
use Rattle.std.specs.Prelude.{codes}
use Rattle.cp_term.specs.declared.cell.Cell.{Cell}
use Rattle.cp_goal.specs.Builtins.{context}
use Rattle.cp_heap.specs.declared.reference.Ref.{Ref}
use Rattle.cp_heap.specs.State.{State, substitution, terms_at}
use Rattle.cp_code.specs.Code.{Code}
use Rattle.cp_code.specs.Tree as tree
use Rattle.cp_code.specs.Machine as machine
use Rattle.cp_run.specs.declared.item.Item.TheVariants as item
use Rattle.cp_run.specs.declared.run.Run.{Run}
use Rattle.cp_run.specs.Gaining.{Row}
use Rattle.cp_run.specs.Shown.{bound, frames_of, goals_shown, here_of, moved}
use Rattle.cp_run.specs.Stands.{IsPut, IsPushed}
use Rattle.cp_enter.specs.Rows.{enter_row}

pub call-arity : (arity count n : ℕ) → arity ≡ count + 1 → n ≡ count → arity ≡ suc n
call-arity arity count n e f = omega arith

row-over : (code : Code) (r0 r2 : Run) (goals level : ℕ) (row : Row) (items : List tree.Item) (copies : List (List Cell)) (fs : List machine.Frame)
    → r2.heap ≡ r0.heap → goals_shown (here_of r2) goals ≡ items → r2.units ≡ r0.units → r2.copies ≡ copies → frames_of code r2 ≡ fs
    → moved code r2 goals level row ≡ row items (bound (here_of r0)) r0.heap.variables level r0.units copies fs
row-over code r0 r2 goals level row items copies fs eh eg eu ec ef =
    ap (λ gs. row gs (bound (here_of r2)) r2.heap.variables level r2.units r2.copies (frames_of code r2)) eg
    ∙ ap (λ (h : State). row items (substitution h) h.variables level r2.units r2.copies (frames_of code r2)) eh
    ∙ ap (λ u. row items (bound (here_of r0)) r0.heap.variables level u r2.copies (frames_of code r2)) eu
    ∙ ap (λ c. row items (bound (here_of r0)) r0.heap.variables level r0.units c (frames_of code r2)) ec
    ∙ ap (λ f. row items (bound (here_of r0)) r0.heap.variables level r0.units copies f) ef

-- a goal without further arguments
pub entered-over : (code : Code) (r0 r2 : Run) (goals level : ℕ) (m : List ℕ) (goal : ℕ) (extra : List Ref) (ctx ctx' : List Cell) (items : List tree.Item) (copies : List (List Cell)) (fs : List machine.Frame)
    → extra ≡ [] → ctx ≡ ctx' → r2.heap ≡ r0.heap → goals_shown (here_of r2) goals ≡ items → r2.units ≡ r0.units → r2.copies ≡ copies → frames_of code r2 ≡ fs
    → moved code r2 goals level (enter_row m (get_or r2.heap.terms goal []) (terms_at r2.heap extra) ctx)
    ≡ machine.enters m (get_or r0.heap.terms goal []) [] ctx' items (bound (here_of r0)) r0.heap.variables level r0.units copies fs
entered-over code r0 r2 goals level m goal extra ctx ctx' items copies fs ee ex eh eg eu ec ef =
    ap (λ xs. moved code r2 goals level (enter_row m (get_or r2.heap.terms goal []) (terms_at r2.heap xs) ctx)) ee
    ∙ ap (λ (h : State). moved code r2 goals level (enter_row m (get_or h.terms goal []) [] ctx)) eh
    ∙ ap (λ x. moved code r2 goals level (enter_row m (get_or r0.heap.terms goal []) [] x)) ex
    ∙ row-over code r0 r2 goals level (enter_row m (get_or r0.heap.terms goal []) [] ctx') items copies fs eh eg eu ec ef

-- ---- catch

catching : (level : ℕ) (m : List ℕ) (ball recovery : ℕ) (h : State) → List tree.Item → machine.Frame
catching level m ball recovery h gs = machine.Catching (suc level) m (get_or h.terms ball []) (get_or h.terms recovery []) gs (substitution h) h.variables level

module _ (code : Code) (r0 r1 r2 : Run) (catcher rest protected level : ℕ) (m seer : List ℕ) (goal ball recovery : ℕ) where
  pub catch-entered : (extra : List Ref) (ctx : List Cell)
      → extra ≡ [] → ctx ≡ context m (codes "catch") 3 → catcher ≡ suc level → seer ≡ m → rest < length r0.goals
      → IsPut r0 r1 (item.Leave catcher) rest protected
      → IsPushed r1 r2 (λ code. machine.Catching (suc level) seer (get_or r1.heap.terms ball []) (get_or r1.heap.terms recovery []) (goals_shown (here_of r1) rest) (bound (here_of r1)) r1.heap.variables level)
      → moved code r2 protected level (enter_row m (get_or r2.heap.terms goal []) (terms_at r2.heap extra) ctx)
      ≡ machine.enters m (get_or r0.heap.terms goal []) [] (context m (codes "catch") 3) (tree.Leave (suc level) ∷ goals_shown (here_of r0) rest) (bound (here_of r0)) r0.heap.variables level r0.units r0.copies
      (machine.Catching (suc level) m (get_or r0.heap.terms ball []) (get_or r0.heap.terms recovery []) (goals_shown (here_of r0) rest) (bound (here_of r0)) r0.heap.variables level ∷ frames_of code r0)
  unfolding catching
  catch-entered extra ctx ee ex el em lt put pushed =
      let heap1 : r1.heap ≡ r0.heap = ap (λ (r : Run). r.heap) put.state in
      entered-over code r0 r2 protected level m goal extra ctx (context m (codes "catch") 3) _ _ _ ee ex
      (ap (λ (r : Run). r.heap) pushed.state ∙ heap1)
      (ap (λ (r : Run). goals_shown (here_of r) protected) pushed.state ∙ put.goals ∙ ap (λ k. tree.Leave k ∷ goals_shown (here_of r0) rest) el)
      (ap (λ (r : Run). r.units) pushed.state ∙ ap (λ (r : Run). r.units) put.state)
      (ap (λ (r : Run). r.copies) pushed.state ∙ ap (λ (r : Run). r.copies) put.state)
      (pushed.frames code
      ∙ ap (λ n. catching level n ball recovery r1.heap (goals_shown (here_of r1) rest) ∷ frames_of code r1) em
      ∙ ap (λ h. catching level m ball recovery h (goals_shown (here_of r1) rest) ∷ frames_of code r1) heap1
      ∙ ap (λ gs. catching level m ball recovery r0.heap gs ∷ frames_of code r1) (put.older rest lt).1
      ∙ ap (λ fs. catching level m ball recovery r0.heap (goals_shown (here_of r0) rest) ∷ fs) (put.frames code))

-- ---- findall

gathering : (copies : List (List Cell)) (level list : ℕ) (h : State) → List tree.Item → machine.Frame
gathering copies level list h gs = machine.Gathering copies (get_or h.terms list []) gs (substitution h) h.variables level

module _ (code : Code) (r0 r1 r2 : Run) (rest solutions level : ℕ) (m seer : List ℕ) (template : Ref) (goal list : ℕ) where
  pub find-entered : (extra : List Ref) (ctx : List Cell)
      → extra ≡ [] → ctx ≡ context m (codes "findall") 3 → seer ≡ m → rest < length r0.goals
      → IsPut r0 r1 (item.Copy seer template) rest solutions
      → r2 ≡ record r1 { frames = r2.frames; copies = [] }
      → frames_of code r2 ≡ machine.Gathering r1.copies (get_or r1.heap.terms list []) (goals_shown (here_of r1) rest) (bound (here_of r1)) r1.heap.variables level ∷ frames_of code r1
      → moved code r2 solutions level (enter_row m (get_or r2.heap.terms goal []) (terms_at r2.heap extra) ctx)
      ≡ machine.enters m (get_or r0.heap.terms goal []) [] (context m (codes "findall") 3) (tree.Copy (get_or r0.heap.terms template.at []) (context m (codes "findall") 3) ∷ goals_shown (here_of r0) rest) (bound (here_of r0)) r0.heap.variables level r0.units []
      (machine.Gathering r0.copies (get_or r0.heap.terms list []) (goals_shown (here_of r0) rest) (bound (here_of r0)) r0.heap.variables level ∷ frames_of code r0)
  unfolding gathering
  find-entered extra ctx ee ex em lt put state frames =
      let heap1 : r1.heap ≡ r0.heap = ap (λ (r : Run). r.heap) put.state in
      entered-over code r0 r2 solutions level m goal extra ctx (context m (codes "findall") 3) _ _ _ ee ex
      (ap (λ (r : Run). r.heap) state ∙ heap1)
      (ap (λ (r : Run). goals_shown (here_of r) solutions) state ∙ put.goals ∙ ap (λ n. tree.Copy (get_or r0.heap.terms template.at []) (context n (codes "findall") 3) ∷ goals_shown (here_of r0) rest) em)
      (ap (λ (r : Run). r.units) state ∙ ap (λ (r : Run). r.units) put.state)
      (ap (λ (r : Run). r.copies) state)
      (frames
      ∙ ap (λ c. gathering c level list r1.heap (goals_shown (here_of r1) rest) ∷ frames_of code r1) (ap (λ (r : Run). r.copies) put.state)
      ∙ ap (λ h. gathering r0.copies level list h (goals_shown (here_of r1) rest) ∷ frames_of code r1) heap1
      ∙ ap (λ gs. gathering r0.copies level list r0.heap gs ∷ frames_of code r1) (put.older rest lt).1
      ∙ ap (λ fs. gathering r0.copies level list r0.heap (goals_shown (here_of r0) rest) ∷ fs) (put.frames code))
