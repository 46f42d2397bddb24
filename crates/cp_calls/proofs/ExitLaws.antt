-- The exit of a call in front of the goals behind it.
use Rattle.std.proofs.Common.{◌≡◌, ℕ, ◌<◌, List, [], ◌∷◌, length, get_or, map, refl, sym, ◌∙◌, ap}
use Rattle.cp_term.specs.declared.cell.Cell.{Cell}
use Rattle.cp_term.specs.declared.pred_name.PredName.{PredName}
use Rattle.cp_term.specs.Preorder.{arguments}
use Rattle.cp_code.specs.Checks as tests
use Rattle.cp_code.specs.Checks.{Check}
use Rattle.cp_code.specs.Code.{Code, Clause}
use Rattle.cp_code.specs.Tree.{Item, Exit, behind}
use Rattle.cp_props.specs.declared.check.Check.{Check as Held}
use Rattle.cp_props.specs.Checks.{check_shown}
use Rattle.cp_run.specs.declared.run.Run.{Run}
use Rattle.cp_run.specs.Shown.{here_of, bound, instance_in, goals_shown, frames_of, moved}
use Rattle.cp_run.specs.Gaining.{IsGained}
use Rattle.cp_calls.specs.Exits.{IsExitPut}
use Rattle.cp_calls.specs.Rows.{opened_row, rules_row, tested_row}

pub behind-some : (p : PredName) (cs : List Check) (g : List Cell) (rest : List Item) → (cs ≡ [] → ⊥) → Exit p cs g ∷ rest ≡ behind p cs g rest
behind-some p [] g rest some = absurd (some refl)
behind-some p (c ∷ cs) g rest some = refl

pub tested-moved : (code : Code) (r0 r1 r2 : Run) (p : PredName) (cs : List Check) (rs : List Clause) (g : List Cell) (goal rest level n : ℕ)
    → IsGained r0 r1 → rest < length r0.goals → IsExitPut r1 r2 p cs (get_or r1.heap.terms goal []) rest n → get_or r1.heap.terms goal [] ≡ g → instance_in (here_of r1) goal ≡ g
    → moved code r2 n level (opened_row rs (instance_in (here_of r2) goal)) ≡ moved code r0 rest level (tested_row p cs rs g)
tested-moved code r0 r1 r2 p cs rs g goal rest level n gained lt put term instance =
    let gs = Exit p cs g ∷ goals_shown (here_of r1) rest in
    ap (λ i. opened_row rs i (goals_shown (here_of r2) n) (bound (here_of r2)) r2.heap.variables level r2.units r2.copies (frames_of code r2))
    (ap (λ (r : Run). instance_in (here_of r) goal) put.state ∙ instance)
    ∙ ap (λ x. opened_row rs g x (bound (here_of r2)) r2.heap.variables level r2.units r2.copies (frames_of code r2)) (put.goals ∙ ap (λ t. Exit p cs t ∷ goals_shown (here_of r1) rest) term)
    ∙ ap (λ (r : Run). opened_row rs g gs (bound (here_of r)) r.heap.variables level r.units r.copies (frames_of code r2)) put.state
    ∙ ap (λ fs. opened_row rs g gs (bound (here_of r1)) r1.heap.variables level r1.units r1.copies fs) (put.frames code)
    ∙ gained.moved code rest level (tested_row p cs rs g) lt

pub none-shown : (cs : List Held) → map check_shown cs ≡ [] → cs ≡ []
none-shown [] e = refl
none-shown (c ∷ cs) e = absurd (cc)

-- the clauses with the exit in front of what stands behind them, by the checks that were held
pub rules-none : (code : Code) (r : Run) (p : PredName) (cs hs : List Check) (rs : List Clause) (g : List Cell) (rest level : ℕ) → hs ≡ [] → hs ≡ tests.held code.types cs (arguments g)
    → moved code r rest level (opened_row rs g) ≡ moved code r rest level (rules_row code p cs rs g)
rules-none code r p cs hs rs g rest level none e = ap (λ x. moved code r rest level (λ rest s next l. opened_row rs g (behind p x g rest) s next l)) (sym none ∙ e)

pub rules-some : (code : Code) (r : Run) (p : PredName) (cs hs : List Check) (rs : List Clause) (g : List Cell) (rest level : ℕ) → (hs ≡ [] → ⊥) → hs ≡ tests.held code.types cs (arguments g)
    → moved code r rest level (tested_row p hs rs g) ≡ moved code r rest level (rules_row code p cs rs g)
rules-some code r p cs hs rs g rest level some e =
    ap (λ gs. opened_row rs g gs (bound (here_of r)) r.heap.variables level r.units r.copies (frames_of code r)) (behind-some p hs g (goals_shown (here_of r) rest) some)
    ∙ ap (λ x. moved code r rest level (λ rest s next l. opened_row rs g (behind p x g rest) s next l)) e
