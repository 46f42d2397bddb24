-- What a declaration `:- D` of a file says (Ciao manual: modules, concurrent predicates, assertions; ISO/IEC 13211-1, 7.4.2),
-- or that it is none that is accepted.
use Rattle.std.specs.Prelude.{ℕ, zero, suc, Bool, true, false, ◌||◌, ◌&&◌, if◌then◌else◌, List, [], ◌∷◌, map, Option, Some, None, pos}
use Rattle.std.specs.Option.{option_or, option_map}
use Rattle.cp_term.specs.declared.cell.Cell.{Cell}
use Rattle.cp_term.specs.declared.cell.Cell.TheVariants.{Var, Int, Atom, Func}
use Rattle.cp_term.specs.Preorder.{take_terms, drop_terms, split_terms}
use Rattle.cp_declaration.specs.declared.indicator.Indicator.{Indicator}
use Rattle.cp_declaration.specs.declared.declaration.Declaration.{Declaration}
use Rattle.cp_declaration.specs.declared.declaration.Declaration.TheVariants.{Module, UseModule, UseActiveModule, Shared, MetaPredicate, Operators, RegType, Assertion, Nothing}
use Rattle.cp_declaration.specs.Words.{is, is_library, is_status, is_kind}
use Rattle.cp_declaration.specs.Lists.{is_comma, indicators, joined, names, one_name, are_packages, is_one_package}

-- ---- headers

-- the module's name; a variable stands for the file's base name
abbrev pub module_name : List Cell → Option (Option (List ℕ))
module_name (Atom m ∷ []) = Some (Some m)
module_name (Var v ∷ []) = Some None
module_name cells = None

abbrev pub is_variable : List Cell → Bool
is_variable (Var v ∷ []) = true
is_variable cells = false

-- the predicates that it exports; a variable stands for each that it defines
abbrev pub exports : List Cell → Option (Option (List Indicator))
exports cells = if is_variable cells then Some None else option_map (λ preds. Some preds) (indicators cells)

abbrev pub header : Option (Option (List ℕ)) → Option (Option (List Indicator)) → Option Declaration
header (Some m) (Some preds) = Some (Module m preds)
header (Some m) None = None
header None preds = None

-- ---- imports

-- `use_module(F)`
abbrev pub use_module : List Cell → Option Declaration
use_module (Atom f ∷ []) = Some (UseModule f None)
use_module (Func f (suc zero) ∷ Atom l ∷ []) = if is f "library" && is_library l then Some Nothing else None
use_module cells = None

-- `use_module(F, [p/n, ..])`
abbrev pub use_of : List Cell → Option (List Indicator) → Option Declaration
use_of (Atom f ∷ []) (Some preds) = Some (UseModule f (Some preds))
use_of file preds = None

-- `use_active_module(M, [p/n, ..])`
abbrev pub use_active_module : List Cell → Option (List Indicator) → Option Declaration
use_active_module (Atom m ∷ []) (Some preds) = Some (UseActiveModule m preds)
use_active_module cells preds = None

-- `use_package(P)`
abbrev pub use_package : List Cell → Option Declaration
use_package cells = if is_one_package cells || are_packages cells then Some Nothing else None

-- ---- predicates

-- `concurrent` and `data`, of which the first makes callers wait for facts
abbrev pub shared : Bool → List Cell → Option Declaration
shared suspends cells = option_map (λ preds. Shared suspends preds) (option_or (indicators cells) (joined cells))

-- `goal`, `fact` and `pred(N)` mark a goal argument
abbrev pub is_goal_mark : List Cell → Bool
is_goal_mark (Atom a ∷ []) = is a "goal" || is a "fact"
is_goal_mark (Func f (suc zero) ∷ Int (pos n) ∷ []) = is f "pred"
is_goal_mark cells = false

-- `meta_predicate p(A, ..)`
abbrev pub meta_predicate : List Cell → Option Declaration
meta_predicate (Func p k ∷ args) = if is_comma (Func p k) then None else Some (MetaPredicate p (map is_goal_mark (split_terms k args)))
meta_predicate cells = None

-- `regtype t(X)` and `regtype t/1`
abbrev pub regtype : List Cell → Option Declaration
regtype (Func t (suc zero) ∷ Var v ∷ []) = Some (RegType t)
regtype (Func f (suc (suc zero)) ∷ Atom t ∷ Int (pos (suc zero)) ∷ []) = if is f "/" then Some (RegType t) else None
regtype cells = None

-- `op(P, K, Names)`
abbrev pub op : List Cell → List Cell → List Cell → Option Declaration
op (Int p ∷ []) (Atom k ∷ []) cells = option_map (λ ns. Operators p k ns) (option_or (names cells) (one_name cells))
op priority kind cells = None

-- ---- assertions

-- `Kind Body`
abbrev pub begins_with_kind : List Cell → Bool
begins_with_kind (Func k (suc zero) ∷ body) = is_kind k
begins_with_kind cells = false

-- `Kind Body` and `Status Kind Body`, by the word in front
abbrev pub is_assertion : List ℕ → List Cell → Bool
is_assertion f cells = is_kind f || (is_status f && begins_with_kind cells)

-- ---- declarations by their functor, whose arguments are given

abbrev pub of_assertions : List ℕ → List Cell → Option Declaration
of_assertions f a =
    if is f "regtype" then regtype a
    else if is f "prop" then Some Nothing
    else if is_assertion f a then Some Assertion
    else None

abbrev pub of_predicates : List ℕ → List Cell → Option Declaration
of_predicates f a =
    if is f "concurrent" then shared true a
    else if is f "data" then shared false a
    else if is f "meta_predicate" then meta_predicate a
    else of_assertions f a

abbrev pub of_one : List ℕ → List Cell → Option Declaration
of_one f a =
    if is f "use_module" then use_module a
    else if is f "use_package" then use_package a
    else of_predicates f a

abbrev pub of_two : List ℕ → List Cell → List Cell → Option Declaration
of_two f a b =
    if is f "module" then header (module_name a) (exports b)
    else if is f "use_module" then use_of a (indicators b)
    else if is f "use_active_module" then use_active_module a (indicators b)
    else None

abbrev pub of_three : List ℕ → List Cell → List Cell → List Cell → Option Declaration
of_three f a b c =
    if is f "module" then (if are_packages c then header (module_name a) (exports b) else None)
    else if is f "op" then op a b c
    else None

-- what D says
abbrev pub said : List Cell → Option Declaration
said (Func f (suc zero) ∷ cells) = of_one f cells
said (Func f (suc (suc zero)) ∷ cells) = of_two f (take_terms 1 cells) (drop_terms 1 cells)
said (Func f (suc (suc (suc zero))) ∷ cells) = of_three f (take_terms 1 cells) (take_terms 1 (drop_terms 1 cells)) (drop_terms 1 (drop_terms 1 cells))
said cells = None

-- a clause of the form `:- D`
abbrev pub is_declaration : List Cell → Bool
is_declaration (Func f (suc zero) ∷ cells) = is f ":-"
is_declaration cells = false

-- what a clause `:- D` says
abbrev pub declaration : List Cell → Option Declaration
declaration [] = None
declaration (c ∷ cells) = if is_declaration (c ∷ cells) then said cells else None
