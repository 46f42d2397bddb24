use Rattle.std.proofs.Common.{◌≡◌, rules, sym, ap, ◌∙◌, None}
use Rattle.std.specs.Prelude.{Ok}
use Rattle.std.specs.Option.{option_map}
use Rattle.std.proofs.lemmas.Result.{err_from_is_err_and}
use Rattle.cp_link.specs.Kept.{fault_of}
use Rattle.cp_load.proofs.Reaching.{file_next, reaches_no_part, refused_reached, more_reached}
use Rattle.cp_load.proofs.gathering.gather_next.Goals as goal

pub returns-in_err-part-clause-loads : goal.returns-in_err-part-clause-loads
returns-in_err-part-clause-loads g c = λ name h.
    let p = err_from_is_err_and c.from_residual.result c.from_residual.ensures.1 in
    reaches_no_part (g.F.Files.tree c.args.files.now) name c.args.known.now c.args.known.now c.args.parts.now c.args.parts.now c.as_slice-2.result.now c.in_err-part.field-0.0 p.0 c.from_residual.result h
    (file_next c.args.known.now c.as_slice.result.now c.args.parts.now c.len.result c.index-as_slice-len.result c.as_slice-2.result.now c.as_slice.ensures c.len.ensures c.requires.next c.index-as_slice-len.is c.as_slice-2.ensures)
    c.in_err-part.ensures.loads p.1 p.2

pub returns-in-Some-clause-loads : goal.returns-in-Some-clause-loads
returns-in-Some-clause-loads g c = λ name h.
    refused_reached (g.F.Files.tree c.args.files.now) name c.args.known.now c.args.parts.now c.as_slice-3.result.now c.as_slice-2.result.now c.in_ok-part.part c.in-Some.refusal h
    (file_next c.args.known.now c.as_slice.result.now c.args.parts.now c.len.result c.index-as_slice-len.result c.as_slice-2.result.now c.as_slice.ensures c.len.ensures c.requires.next c.index-as_slice-len.is c.as_slice-2.ensures)
    c.in_ok-part.ensures.loads c.as_slice-3.ensures (ap (option_map fault_of) (sym c.in-Some.is) ∙ c.in_ok-refusal.ensures.refusal)

pub returns-clause-loads : goal.returns-clause-loads
returns-clause-loads g c = λ name h.
    let none : c.in_ok-refusal.refusal ≡ None = search rules in
    more_reached (g.F.Files.tree c.args.files.now) name c.args.known.now c.step_refusal.new.known c.args.parts.now c.as_slice-3.result.now c.push.new.self c.as_slice-2.result.now c.in_ok-part.part h
    (file_next c.args.known.now c.as_slice.result.now c.args.parts.now c.len.result c.index-as_slice-len.result c.as_slice-2.result.now c.as_slice.ensures c.len.ensures c.requires.next c.index-as_slice-len.is c.as_slice-2.ensures)
    c.in_ok-part.ensures.loads c.as_slice-3.ensures (ap (option_map fault_of) (sym none) ∙ c.in_ok-refusal.ensures.refusal) (c.in_ok-refusal.ensures.known (ap Ok none)) (c.in_ok-refusal.ensures.room (ap Ok none)) c.in_ok-push.ensures.ok
