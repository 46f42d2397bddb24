use Rattle.cp_run.specs.Shown.{here_of}
use Rattle.cp_run.proofs.run.Run.cut_to.Goals as goal

pub returns-clause-holds : goal.returns-clause-holds
returns-clause-holds c = record { items = c.requires.items; frames = (c.drop_frames.ensures (here_of c.args.self.now) c.requires.frames).0 }

pub returns-clause-frames : goal.returns-clause-frames
returns-clause-frames c code = (c.drop_frames.ensures (here_of c.args.self.now) c.requires.frames).1 code
