use Rattle.std.proofs.Common.{◌≡◌, Bool, cond, List, ◌∷◌, sym, subst}
use Rattle.std.specs.Prelude.{None, IfOk}
use Rattle.cp_term.specs.declared.cell.Cell.{Cell}
use Rattle.cp_code.specs.Properties.{matched}
use Rattle.cp_props.specs.Pending.{pending}
use Rattle.cp_props.specs.Patterns.{places_shown, found}
use Rattle.cp_props.proofs.Stacks.{pending-top}
use Rattle.cp_props.proofs.pattern.match_cell.Goals as goal

pub returns-clause-matched : goal.returns-clause-matched
returns-clause-matched c =
    let h = c.args.heap.now in
    subst
    (λ (cs : List Cell). IfOk c.match_at.result (λ (ok : Bool). (rest : List Cell) → found (places_shown h c.args.places.now) (matched (c.args.cell.now ∷ rest) cs) ≡ cond ok (found (places_shown h c.match_at.new.places) (matched rest (pending h c.match_at.new.stack))) None))
    (sym (pending-top h c.args.stack.now c.pop.new.self c.in-Some.at c.in-Some.ensures))
    c.match_at.ensures.matched
