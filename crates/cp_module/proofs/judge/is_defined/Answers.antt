use Rattle.std.proofs.Common.{◌∙◌, ap}
use Rattle.std.specs.Prelude.{◌||◌, nat_lt}
use Rattle.cp_module.specs.declared.known.Known.{Known}
use Rattle.cp_module.proofs.AboveLaws.{defined}
use Rattle.cp_module.proofs.judge.is_defined.Goals as goal

pub returns : goal.returns
returns c = λ done knows.
    c.defines.ensures ∙ ap (λ (k : Known). nat_lt 0 k.clauses || k.shared) c.in_ok-known.ensures ∙ defined c.args.above.now done _ knows
