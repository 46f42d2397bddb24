-- Instrumenting: a predicate with assertions becomes its tests and the call of the predicate as it was, under another name.
use Rattle.std.specs.Prelude.{ℕ, suc, List, [], ◌∷◌, map, get_or}
use Rattle.cp_code.specs.Code.{Code, Pred, Kind, Rules, Shared, Remote, Wrapped}
use Rattle.cp_code.specs.Tree.{Item, Goal, AskFrom, CutNow, Leave, Copy, Exit, Demands, Renamed}

-- A predicate without assertions stays as it is. One that is wrapped already keeps its tests, and wraps what it wrapped.
abbrev pub wrapped_kind : ℕ → Kind → Kind
wrapped_kind n (Rules [] rules) = Rules [] rules
wrapped_kind n (Rules (c ∷ cs) rules) = Wrapped (c ∷ cs) n
wrapped_kind n (Shared object suspends) = Shared object suspends
wrapped_kind n Remote = Remote
wrapped_kind n (Wrapped checks renamed) = Wrapped checks n

abbrev pub wrapped : ℕ → Pred → Pred
wrapped n p = record { name = p.name; goals = p.goals; kind = wrapped_kind n p.kind }

-- the predicates from number n on
abbrev pub wrapped_from : ℕ → List Pred → List Pred
wrapped_from n [] = []
wrapped_from n (p ∷ ps) = wrapped n p ∷ wrapped_from (suc n) ps

-- what a predicate was before it was instrumented: of one that is wrapped the predicate that it wraps, else itself
abbrev pub original_by : List Pred → Pred → Kind → Pred
original_by renamed p (Rules checks rules) = p
original_by renamed p (Shared object suspends) = p
original_by renamed p Remote = p
original_by renamed p (Wrapped checks n) = get_or renamed n p

abbrev pub original : List Pred → Pred → Pred
original renamed p = original_by renamed p p.kind

-- The predicate of number n, if it is wrapped, wraps the renamed one of number n.
abbrev pub instrument : Code → Code
instrument code = record {
  first = code.first;
  preds = wrapped_from 0 code.preds;
  renamed = map (original code.renamed) code.preds;
  sees = code.sees;
  types = code.types;
  ops = code.ops;
  budget = code.budget;
}

-- a predicate of a file
abbrev pub IsPlainKind : Kind → Type 0
IsPlainKind (Rules checks rules) = Unit {0}
IsPlainKind (Shared object suspends) = Unit {0}
IsPlainKind Remote = Unit {0}
IsPlainKind (Wrapped checks p) = ⊥

abbrev pub ArePlain : List Pred → Type 0
ArePlain [] = Unit {0}
ArePlain (p ∷ ps) = IsPlainKind p.kind × ArePlain ps

-- none of the goals is one that only instrumenting makes
abbrev pub HasNoTests : List Item → Type 0
HasNoTests [] = Unit {0}
HasNoTests (Goal b l ∷ rest) = HasNoTests rest
HasNoTests (AskFrom a place ∷ rest) = HasNoTests rest
HasNoTests (CutNow l ∷ rest) = HasNoTests rest
HasNoTests (Leave k ∷ rest) = HasNoTests rest
HasNoTests (Copy x ctx ∷ rest) = HasNoTests rest
HasNoTests (Exit p cs g ∷ rest) = HasNoTests rest
HasNoTests (Demands p cs g ∷ rest) = ⊥
HasNoTests (Renamed p cs g ∷ rest) = ⊥
