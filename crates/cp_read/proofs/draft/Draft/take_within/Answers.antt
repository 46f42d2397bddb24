use Rattle.std.proofs.Common.{refl}
use Rattle.cp_read.proofs.lemmas.DraftLaws.{taken_at}
use Rattle.cp_read.proofs.draft.Draft.take_within.Goals as goal

pub returns : goal.returns
returns c = taken_at c.self.inside.pieces.items c.args.self.now c.args.start c.index_mut.result.now _ c.args.name c.self.view_is c.requires c.index_mut.ensures.value c.in_ok-push.ensures.items refl
