use Rattle.std.proofs.Common.{◌∙◌, arith}
use Rattle.cp_control.specs.Control.{body_at}
use Rattle.cp_control.proofs.SeenLaws.{not-within, no-module, a-module}
use Rattle.cp_control.proofs.seen.Seen.of.Goals as goal

pub returns-in_default : goal.returns-in_default
returns-in_default c =
    record {
      body = c.modules.invariant.1 ∙ c.of-control.ensures.body c.modules.seer;
      place = c.modules.invariant.0;
      parts = c.of-control.ensures.parts;
      inner = not-within c.of-control.result c.in_default.not-Within;
    }

pub returns-in_default-word : goal.returns-in_default-word
returns-in_default-word c =
    record {
      body = c.modules.invariant.1 ∙ c.in-Within.ensures.body c.modules.seer ∙ no-module c.args.heap.now.names c.args.heap.now.terms c.word.result _ (λ n. body_at c.args.heap.now.terms n c.in-Within.goal) c.word.ensures.term c.in_default-word.not-Atom;
      place = c.modules.invariant.0;
      parts = tt;
      inner = tt;
    }

pub modules-preserved : goal.modules-preserved
modules-preserved c =
    let below = c.in-Within.ensures.parts.1 in
    let there = c.modules.invariant.0 in (
      omega arith,
      c.modules.invariant.1 ∙ c.in-Within.ensures.body c.modules.seer
          ∙ a-module _ c.in_ok-seer.seer _ (λ n. body_at c.args.heap.now.terms n c.in-Within.goal) c.in-Atom.ensures.term (c.in_ok-seer.ensures.cases ∙ c.name_at.ensures),
    )
