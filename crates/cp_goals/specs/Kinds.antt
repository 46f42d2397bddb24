-- The goals of the language that are no control, as the definition of goals has them.
use Rattle.std.specs.Prelude.{◌≡◌, ℕ, List, Some}
use Rattle.cp_goal.specs.Names.{builtin_named}
use Rattle.cp_ops.specs.Text as text
use Rattle.cp_code.specs.Goals as goals
use Rattle.cp_request.specs.Asked as asked
use Rattle.cp_goals.specs.declared.style.Style.{Style}
use Rattle.cp_goals.specs.declared.style.Style.TheVariants as style
use Rattle.cp_goals.specs.declared.language_goal.LanguageGoal.{LanguageGoal}
use Rattle.cp_goals.specs.declared.language_goal.LanguageGoal.TheVariants as language

abbrev pub style_shown : Style → text.Style
style_shown style.Bare = text.bare
style_shown style.Quoting = text.quoting

-- the goal with this name
abbrev pub language_shown : List ℕ → LanguageGoal → goals.Builtin
language_shown name (language.OnTerms b) = goals.OnTerms b
language_shown name language.Property = goals.Property name
language_shown name (language.Write s) = goals.Write (style_shown s)
language_shown name language.NewLine = goals.NewLine
language_shown name (language.OnFacts f) = goals.OnFacts (asked.goal_shown f)
language_shown name language.Post = goals.Post
language_shown name language.Wait = goals.Wait

-- how many arguments it has
abbrev pub HasArity : List ℕ → ℕ → LanguageGoal → Type 0
HasArity name arity (language.OnTerms b) = builtin_named name arity ≡ Some b
HasArity name arity language.Property = arity ≡ 1
HasArity name arity (language.Write s) = arity ≡ 1
HasArity name arity language.NewLine = Unit {0}
HasArity name arity (language.OnFacts f) = arity ≡ 1
HasArity name arity language.Post = arity ≡ 4
HasArity name arity language.Wait = arity ≡ 1
