use Rattle.std.proofs.Common.{◌≡◌, Some, find, sym, subst, rules}
use Rattle.std.specs.Str.{IsUtf8}
use Rattle.cp_words.specs.Words.{is_positional}
use Rattle.cp_words.proofs.Sorting.{found_has}
use Rattle.cp_words.proofs.positional.positional_of.Goals as goal

pub text_of-requires : goal.text_of-requires
text_of-requires c =
    let found : find is_positional c.args.words.now ≡ Some c.in-Some.word.now = search rules in
    subst IsUtf8 (sym c.as_slice.ensures) (found_has IsUtf8 is_positional c.args.words.now c.requires c.in-Some.word.now found)
