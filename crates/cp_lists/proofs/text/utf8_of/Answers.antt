use Rattle.std.proofs.Common.{◌∙◌, [], ◌∷◌, ◌++◌, take, sym, ap}
use Rattle.std.specs.Prelude.{encode_utf8}
use Rattle.std.specs.Str.{encode_utf8_all}
use Rattle.std.proofs.lemmas.List.{take_more, append-nil}
use Rattle.std.proofs.lemmas.Str.{encodes-append}
use Rattle.cp_lists.proofs.text.utf8_of.Goals as goal

pub characters-preserved : goal.characters-preserved
characters-preserved c =
    let cs = c.args.text.now in
    let i = c.characters.character-index in
    let d = c.character-item.result in
    c.in_ok-push.ensures.bytes
    ∙ (λ j. c.characters.invariant j ++ sym (append-nil (encode_utf8 d)) j)
    ∙ sym (encodes-append (take i cs) (d ∷ []))
    ∙ ap encode_utf8_all (ap (λ x. take i cs ++ x ∷ []) c.character-item.is ∙ sym (take_more cs i d c.characters-test.true))
