use Rattle.std.proofs.Common.{◌≡◌, rules, sym, ap, ◌∙◌, subst, Some, None, List}
use Rattle.std.specs.Prelude.{Ok}
use Rattle.std.specs.Option.{option_map}
use Rattle.cp_module.specs.Parts.{Part}
use Rattle.cp_link.specs.Kept.{fault_of}
use Rattle.cp_load.specs.Loading.{completion_fault, Completes}
use Rattle.cp_load.proofs.Making.{later, makes}
use Rattle.cp_load.proofs.loading.program_of.Goals as goal

pub returns-in-Some : goal.returns-in-Some
returns-in-Some c =
    later c.args.needs_main c.args.parts c.in_ok-program.program (Some (fault_of c.in-Some.refusal)) c.in_ok-program.ensures.0 c.in_ok-program.ensures.1
    (ap (option_map fault_of) (sym c.in-Some.is) ∙ c.in_ok-refusal.ensures.refusal ∙ ap (λ ps. completion_fault c.args.needs_main ps c.in_ok-program.program) c.as_slice.ensures)

pub returns : goal.returns
returns c =
    let none : c.in_ok-refusal.field-0 ≡ None = search rules in
    let P : List Part → Type 0 = λ ps. Completes ps c.in_ok-program.program c.complete.new.program in
    makes c.args.needs_main c.args.parts c.in_ok-program.program c.complete.new.program c.in_ok-program-2.field-0 c.in_ok-program.ensures
    (ap (option_map fault_of) (sym none) ∙ c.in_ok-refusal.ensures.refusal ∙ ap (λ ps. completion_fault c.args.needs_main ps c.in_ok-program.program) c.as_slice.ensures)
    (subst P c.as_slice.ensures (c.in_ok-refusal.ensures.completes (ap Ok none))) c.in_ok-program-2.ensures
