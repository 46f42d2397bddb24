use Rattle.std.proofs.Common.{◌≡◌, length, sym, ◌∙◌, ap, arith, take}
use Rattle.std.proofs.Math.Seq.{take-length}
use Rattle.cp_heap.specs.State.{State}
use Rattle.cp_heap.proofs.HeapLaws.{places, variables, trail}
use Rattle.cp_heap.proofs.LookLaws.{well_formed}
use Rattle.cp_heap.proofs.MarkLaws.{live_stays, state_stays}
use Rattle.cp_heap.proofs.MoveLaws.{laid-live, same_state}
use Rattle.cp_heap.proofs.heap.Heap.mark.Goals as goal

pub returns-clause-live : goal.returns-clause-live
returns-clause-live c =
    let s = c.args.self.now in
    laid-live c.self.inside.names.keys c.self.inside.words.items c.self.inside.trail.items c.self.inside.values.items _ s c.self.invariant
    (ap (λ t. t.terms) (sym c.self.view_is)) (ap (λ t. t.trail) (sym c.self.view_is)) (ap (λ t. t.variables) (sym c.self.view_is)) (omega arith) (omega arith) (omega arith)

pub returns-clause-whole : goal.returns-clause-whole
returns-clause-whole c =
    let s : State = c.args.self.now in
    let a : c.len.result ≡ length s.terms = let e = places c.self.inside c.self.invariant s c.self.view_is in omega arith in
    let b : c.len-2.result ≡ length s.trail = let e = ap length (trail c.self.inside c.self.invariant s c.self.view_is) in omega arith in
    let d : c.len-3.result ≡ s.variables = let e = variables c.self.inside c.self.invariant s c.self.view_is in omega arith in
    same_state (ap (λ k. take k s.terms) a ∙ take-length s.terms) (ap (λ k. take k s.trail) b ∙ take-length s.trail) d (λ i. s.names)

pub returns-clause-well_formed : goal.returns-clause-well_formed
returns-clause-well_formed c = well_formed c.self.inside c.self.invariant c.args.self.now c.self.view_is

pub returns-clause-later : goal.returns-clause-later
returns-clause-later c h grown =
    let live = returns-clause-live c in
    let whole = returns-clause-whole c in
    (live_stays _ c.args.self.now h live grown, state_stays _ c.args.self.now h live grown ∙ ap (λ (s : State). record s { names = h.names }) whole)
