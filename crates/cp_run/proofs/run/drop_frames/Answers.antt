use Rattle.std.proofs.Common.{sym, ◌∙◌, reverse, refl, arith}
use Rattle.cp_run.proofs.FrameLaws.{left-fewer, left-mark, left-none}
use Rattle.cp_run.proofs.run.drop_frames.Goals as goal

pub cut-init : goal.cut-init
cut-init c h s = (s, λ code. refl)

pub cut-preserved : goal.cut-preserved
cut-preserved c = left-fewer c.args.level (reverse c.args.frames.now.items) c.cut.frames.items c.pop.new.self.items c.in-Some.frame c.cut.invariant c.in-Some.ensures.items (sym c.opens.ensures ∙ c.if-opens.false)

pub returns-then-opens : goal.returns-then-opens
returns-then-opens c = left-mark c.args.level (reverse c.args.frames.now.items) c.cut.frames.items c.pop.new.self.items c.push_reserved.new.self.items c.in-Some.frame c.cut.invariant c.in-Some.ensures.items (sym c.opens.ensures ∙ c.if-opens.true) c.push_reserved.ensures.items

pub returns : goal.returns
returns c =
    let i = c.in_default.ensures.cases in
    left-none c.args.level (reverse c.args.frames.now.items) c.cut.frames.items c.pop.new.self.items c.cut.invariant (let k = c.cut.frames.ok in omega arith) (let k = c.pop.new.self.ok in omega arith)
