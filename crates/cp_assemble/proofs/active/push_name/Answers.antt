use Rattle.std.proofs.Common.{◌≡◌, true, false, ◌∙◌}
use Rattle.std.specs.List.{list_any}
use Rattle.std.specs.Str.{bytes_eq}
use Rattle.cp_assemble.proofs.DistinctLaws.{names_there, names_new}
use Rattle.cp_assemble.proofs.active.push_name.Goals as goal

pub returns-then-there : goal.returns-then-there
returns-then-there c = λ before e.
    let h : list_any (bytes_eq c.args.name) c.args.all.now ≡ true = cc in
    names_there before c.args.all.now c.args.name e h

pub returns : goal.returns
returns c = λ before e.
    let h : list_any (bytes_eq c.args.name) c.args.all.now ≡ false = cc in
    c.in_ok-push.ensures.ok ∙ names_new before c.args.all.now c.args.name e h
