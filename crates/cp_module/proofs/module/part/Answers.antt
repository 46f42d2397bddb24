use Rattle.cp_module.specs.Paths.{base_of}
use Rattle.cp_module.proofs.Reached.{as_part}
use Rattle.cp_module.proofs.module.part.Goals as goal

pub new-requires : goal.new-requires
new-requires c = as_part (base_of c.args.file) c.args.text c.requires
