use Rattle.cp_write.specs.Writing.{style_of}
use Rattle.cp_write.proofs.lemmas.WriterLaws.{reached-Continues, passed-same, passed-count}
use Rattle.cp_write.proofs.writer.Writer.settle.Goals as goal

pub returns-then-branch : goal.returns-then-branch
returns-then-branch c =
    reached-Continues (style_of c.args.style) c.in-Some.frame c.args.self.now.out.items c.args.self.now.frames.items c.loop-frame.self.out.items c.loop-frame.self.frames.items c.pop.new.self.items
    c.resume.new.self.out.items c.resume.new.self.frames.items c.resume.new.self.place c.loop-frame.invariant.same c.loop-frame.invariant.count c.in-Some.ensures.items (c.in_ok-resume.ensures.reached c.if-branch.true)

pub loop-frame-preserved : goal.loop-frame-preserved
loop-frame-preserved c = record {
  same = passed-same (style_of c.args.style) c.in-Some.frame c.args.self.now.out.items c.args.self.now.frames.items c.loop-frame.self.out.items c.loop-frame.self.frames.items c.pop.new.self.items
      c.resume.new.self.out.items c.resume.new.self.frames.items c.loop-frame.invariant.same c.in-Some.ensures.items (c.in_ok-resume.ensures.passed c.if-branch.false);
  count = passed-count (style_of c.args.style) c.in-Some.frame c.args.self.now.frames.items c.loop-frame.self.out.items c.loop-frame.self.frames.items c.pop.new.self.items
      c.resume.new.self.out.items c.resume.new.self.frames.items c.loop-frame.invariant.count c.in-Some.ensures.items (c.in_ok-resume.ensures.passed c.if-branch.false);
}
