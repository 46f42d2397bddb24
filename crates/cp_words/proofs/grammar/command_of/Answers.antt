use Rattle.std.proofs.Common.{◌≡◌, ◌∙◌, false, true, refl, sym, subst}
use Rattle.std.specs.List.{All}
use Rattle.std.specs.Str.{IsUtf8}
use Rattle.cp_words.proofs.Whole.{first_and_rest, utf8_rest, whole, rest}
use Rattle.cp_words.proofs.grammar.command_of.Goals as goal

pub returns-then-not-are_utf8 : goal.returns-then-not-are_utf8
returns-then-not-are_utf8 c = λ _ command is.
    let same : false ≡ true = c.if-not-are_utf8.ensures.1 (subst (All IsUtf8) (sym c.as_slice-words.ensures) is.utf8) in
    cc

pub command_by-requires : goal.command_by-requires
command_by-requires c = utf8_rest c.as_slice-words.result.now (c.if-not-are_utf8.ensures.0 refl) c.in-len1-up.len_at_least

pub returns-in-len1-up : goal.returns-in-len1-up
returns-in-len1-up c =
    whole c.args.words.now (rest c.as_slice-words.result.now) c.as_slice.result.now c.command_by.result
    (sym c.as_slice-words.ensures ∙ first_and_rest c.as_slice-words.result.now c.word-item.result c.as_slice.result.now c.in-len1-up.len_at_least c.as_slice.ensures c.word-item.is)
    (subst (All IsUtf8) c.as_slice-words.ensures (c.if-not-are_utf8.ensures.0 refl)) c.command_by.ensures
