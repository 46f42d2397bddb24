use Rattle.cp_assemble.proofs.ObjectLaws.{lawful}
use Rattle.cp_assemble.proofs.assembling.assemble.Goals as goal

pub returns : goal.returns
returns c =
    let made = c.in_ok-program.ensures.program in
    (made, record { lawful = lawful c.args.parts.now c.args.prelude.now _ c.requires.prelude made; bodies = c.in_ok-program.ensures.bodies })
