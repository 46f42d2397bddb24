use Rattle.std.proofs.Common.{rules}
use Rattle.cp_words.specs.Words.{is_of, is_flag}
use Rattle.cp_words.specs.Options.{row_of}
use Rattle.cp_words.proofs.Sorting.{list_any-map}
use Rattle.cp_words.proofs.option.is_known.Goals as goal

pub returns-then-is_option : goal.returns-then-is_option
returns-then-is_option c =
    let options = list_any-map (λ o. is_of o c.args.word.now) row_of c.args.options.now in
    search (rules, options)

pub returns-else-is_option : goal.returns-else-is_option
returns-else-is_option c =
    let options = list_any-map (λ o. is_of o c.args.word.now) row_of c.args.options.now in
    let flags = list_any-map (λ f. is_flag f c.args.word.now) (λ f. f.now) c.args.flags.now in
    search (rules, options, flags)
