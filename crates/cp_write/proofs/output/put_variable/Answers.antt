use Rattle.std.proofs.Common.{◌∙◌, ◌∷◌, [], ap, refl}
use Rattle.std.specs.Prelude.{decimal}
use Rattle.cp_ops.specs.Text.{beside}
use Rattle.cp_write.proofs.lemmas.BesideLaws.{beside-assoc, beside-after}
use Rattle.cp_write.proofs.output.put_variable.Goals as goal

pub returns : goal.returns
returns c =
    let out = c.args.out.now.items in
    let digits = decimal c.args.number in
    c.in_ok-put-2.ensures
    ∙ (ap (beside c.put.new.out.items) (c.as_bytes.ensures.value ∙ c.format.ensures.text)
    ∙ (ap (λ x. beside x digits) (c.in_ok-put.ensures ∙ ap (beside out) c.as_slice.ensures)
    ∙ (beside-assoc out (95 ∷ []) digits ∙ ap (beside out) (beside-after (95 ∷ []) digits refl))))
