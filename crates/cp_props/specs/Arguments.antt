-- Properties of arguments that there are.
use Rattle.std.specs.Prelude.{ℕ, ◌<◌, List, All}
use Rattle.cp_code.specs.declared.assertion.Assertion.{Assertion}
use Rattle.cp_code.specs.Programs.{prop_of}
use Rattle.cp_code.specs.Properties.{Prop, Of, ListOf, Both, Either, Always}
use Rattle.cp_code.specs.Checks.{Check}

-- a goal has n arguments, and the property speaks of these alone
abbrev pub HasArguments : ℕ → Prop → Type 0
HasArguments n (Of name k) = k < n
HasArguments n (ListOf name k) = k < n
HasArguments n (Both p q) = HasArguments n p × HasArguments n q
HasArguments n (Either p q) = HasArguments n p × HasArguments n q
HasArguments n Always = Unit {0}

-- and so does each check
abbrev pub HaveArguments : ℕ → List Check → Type 0
HaveArguments n checks = All (λ (c : Check). HasArguments n c.before × HasArguments n c.after) checks

-- each assertion speaks of the arguments of its predicate alone
abbrev pub NameArguments : List Assertion → Type 0
NameArguments assertions = All (λ (a : Assertion). HasArguments a.pred.arity (prop_of a.before) × HasArguments a.pred.arity (prop_of a.after)) assertions
