use Rattle.std.proofs.Common.{◌≡◌, ◌++◌, List, ℕ, ◌∙◌, subst, IfOk}
use Rattle.cp_generate.specs.Program.{before, between, after}
use Rattle.cp_generate.proofs.generate.Goals as goal

pub returns : goal.returns
returns c =
    subst (λ (d : List ℕ). IfOk c.joined.result (λ text. text ≡ before ++ d ++ between ++ d ++ after)) (c.as_bytes-digits.ensures.value ∙ c.format.ensures.text) c.joined.ensures
