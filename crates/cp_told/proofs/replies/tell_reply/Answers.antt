use Rattle.cp_told.proofs.replies.tell_reply.Goals as goal

pub tell_follows-requires-clause-follows : goal.tell_follows-requires-clause-follows
tell_follows-requires-clause-follows c = c.follows_of-follows.ensures.there c.args.run.now.heap.terms c.requires.asking
