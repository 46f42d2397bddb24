use Rattle.std.proofs.Common.{◌≡◌, length, refl, ◌∙◌, sym, Some, false, arith}
use Rattle.std.specs.Prelude.{slice_get}
use Rattle.std.proofs.lemmas.Option.{slice_get_read}
use Rattle.cp_shell.specs.Shell.{ShellView}
use Rattle.cp_crew.proofs.Numbered.{one_more, all_of}
use Rattle.cp_crew.proofs.parked.any_stopped.Goals as goal

pub loop-i-preserved : goal.loop-i-preserved
loop-i-preserved g c =
    let there : slice_get c.args.shells.now c.loop-i.i ≡ Some c.index-shells-i.result = slice_get_read c.args.shells.now (length c.args.shells.now) c.loop-i.i c.index-shells-i.result refl c.loop-i-test.true c.index-shells-i.is in
    one_more (λ (s : ShellView g.row.M.Denot). s.is_stopped ≡ false) c.args.shells.now c.loop-i.i c.index-shells-i.result there (sym c.is_stopped.ensures ∙ c.if-is_stopped.false) c.loop-i.invariant

pub returns : goal.returns
returns g c working = all_of (λ (s : ShellView g.row.M.Denot). s.is_stopped ≡ false) c.args.shells.now (λ k s h. c.loop-i.invariant k s (omega arith))
