use Rattle.cp_read.proofs.lemmas.DraftLaws.{put_at}
use Rattle.cp_read.proofs.draft.Draft.set_within.Goals as goal

pub returns : goal.returns
returns c = put_at c.self.inside.pieces.items c.args.self.now c.args.start (record { operators = c.new.result; cell = c.args.cell }) c.self.view_is c.new.ensures.items
