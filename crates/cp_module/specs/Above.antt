-- What the clauses above a clause say of predicates, as a table that is asked by name and number of arguments.
use Rattle.std.specs.Prelude.{◌≡◌, ℕ, ◌+◌, Bool, false, ◌||◌, nat_lt, min, if◌then◌else◌, List, [], ◌∷◌, length, Option, Some, None}
use Rattle.cp_declaration.specs.declared.indicator.Indicator.{Indicator}
use Rattle.cp_read.specs.declared.clause.ReadClause.{ReadClause}
use Rattle.cp_module.specs.declared.known.Known.{Known}
use Rattle.cp_module.specs.Causes.{same, is_in, is_shared, shares, clauses_of, is_clause_of}

-- a predicate, and how many clauses it has, counted up to the most, and whether it is declared to be shared
pub record Row : Type 0 where
  pub pred : Indicator
  pub known : Known

abbrev pub unknown : Known
unknown = record { clauses = 0; shared = false }

abbrev pub known_or : Option Known → Known
known_or (Some k) = k
known_or None = unknown

abbrev pub known_in : List Row → Indicator → Known
known_in [] p = unknown
known_in (r ∷ rows) p = if same p r.pred then r.known else known_in rows p

-- the table of these clauses
pub record Knows (rows : List Row) (done : List ReadClause) : Type 0 where
  pub clauses : (p : Indicator) → (known_in rows p).clauses ≡ min 4096 (length (clauses_of done p))
  pub shared : (p : Indicator) → (known_in rows p).shared ≡ is_shared done p

-- ---- one clause more

abbrev pub counted : ℕ → ℕ
counted n = if nat_lt n 4096 then n + 1 else n

abbrev pub with_clause : Known → Known
with_clause k = record { clauses = counted k.clauses; shared = k.shared }

abbrev pub with_sharing : Bool → Known → Known
with_sharing more k = record { clauses = k.clauses; shared = k.shared || more }

-- what is known of p behind the clause c, where this is known above it
abbrev pub known_behind : ReadClause → Indicator → Known → Known
known_behind c p k = with_sharing (is_in (shares c) p) (if is_clause_of p c then with_clause k else k)
