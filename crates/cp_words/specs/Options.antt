-- An option of the code's table, as it is meant.
use Rattle.cp_words.specs.Words.{NumberOption}
use Rattle.cp_words.specs.declared.option.NumberOption.{NumberOption as InCode}

abbrev pub row_of : InCode → NumberOption
row_of o = record { beginning = o.beginning.now; least = o.least; most = o.most; default = o.default.now }
