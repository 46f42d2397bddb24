-- The goals of the language with one argument that are neither control nor on terms alone, as tests of their names.
use Rattle.std.specs.Prelude.{ℕ, zero, suc, Bool, false, ◌||◌, List}
use Rattle.cp_code.specs.Bodies.{is}
use Rattle.cp_code.specs.Goals.{is_property_goal}

unfoldable pub is_property_word : List ℕ → Bool
is_property_word f = is_property_goal f

unfoldable pub is_fact_word : List ℕ → Bool
is_fact_word f =
    is f "current_fact" || is f "retract_fact" || is f "current_fact_nb" || is f "retract_fact_nb" || is f "asserta_fact" || is f "assertz_fact"
    || is f "retractall_fact" || is f "set_fact" || is f "close_predicate" || is f "open_predicate"

unfoldable pub is_unary_word : List ℕ → Bool
is_unary_word f = is f "write" || is f "writeq" || is f "eng_wait" || is_property_word f || is_fact_word f

abbrev pub is_other_word : List ℕ → ℕ → Bool
is_other_word f zero = is f "nl"
is_other_word f (suc zero) = is_unary_word f
is_other_word f (suc (suc (suc (suc zero)))) = is f "eng_call"
is_other_word f k = false
