-- The commands of `clap` that read the values, one for each command word, and the words that they read.
use Rattle.std.specs.Prelude.{ℕ, pos, List, Option, Some, option_and_then, codes}
use Rattle.clap.specs.Words.{App, Rule, Text, new_app, Row, new_rule, one_of, with_rule}
use Rattle.cp_words.specs.Words.{number_in}
use Rattle.clap.specs.declared.builder.value_parser.ValueParser.{ValueParser}
use Rattle.clap.specs.declared.builder.value_parser.ValueParser.TheVariants as vp

-- an argument `--name` of these values
abbrev pub option_rule : Text → ValueParser → Rule
option_rule name parser = record (new_rule name) { long = Some name; parser = Some parser }

-- a positional argument of these values
abbrev pub value_rule : Text → ValueParser → Rule
value_rule name parser = record (new_rule name) { parser = Some parser }

-- numbers from 1 on
abbrev pub from_one : ℕ → ValueParser
from_one most = vp.Signed (pos 1) (pos most)

abbrev pub check_app : App
check_app = with_rule (new_app (codes "check")) (new_rule (codes "file"))

-- `sim` with three options of these values
abbrev pub sim_app_of : (steps engines seed : ValueParser) → App
sim_app_of steps engines seed = with_rule (with_rule (with_rule (with_rule (new_app (codes "sim"))
    (option_rule (codes "steps") steps)) (option_rule (codes "engines") engines)) (option_rule (codes "seed") seed)) (new_rule (codes "file"))

abbrev pub sim_app : App
sim_app = sim_app_of (from_one 10000000) (from_one 32) (vp.Unsigned 0 18446744073709551615)

abbrev pub gen_app : App
gen_app = with_rule (new_app (codes "gen")) (value_rule (codes "items") (from_one 100000))

-- the number of an argument, of at most this size
abbrev pub number_at : ℕ → Text → List Row → Option ℕ
number_at most id rows = option_and_then (number_in 0 most) (one_of id rows)
