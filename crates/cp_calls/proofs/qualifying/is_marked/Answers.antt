use Rattle.std.proofs.Common.{false, ◌∙◌, ap}
use Rattle.std.specs.Prelude.{unwrap_or, get_or}
use Rattle.std.proofs.lemmas.Option.{unwrap_or-slice_get}
use Rattle.cp_calls.proofs.qualifying.is_marked.Goals as goal

pub returns-in-None : goal.returns-in-None
returns-in-None c = ap (λ o. unwrap_or o false) c.in-None.ensures.value ∙ unwrap_or-slice_get c.args.marks.now c.from.result false ∙ ap (λ i. get_or c.args.marks.now i false) c.from.ensures
