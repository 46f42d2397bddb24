-- What a term in the place of a goal means (ISO/IEC 13211-1, 7.6.2 and 7.8). A body is read once, when its clause is loaded
-- or when `call` and its kin run it: a variable that stands for a goal there is a `call` of it for good.
use Rattle.std.specs.Prelude.{ℕ, Bool, ◌&&◌, nat_le, if◌then◌else◌, List, [], ◌∷◌, map, slice_index_or, Option, Some, None, codes}
use Prim.Native.String.{String}
use Rattle.std.specs.List.{flat_map}
use Rattle.std.specs.Str.{bytes_eq}
use Rattle.cp_term.specs.declared.cell.Cell.{Cell}
use Rattle.cp_term.specs.declared.cell.Cell.TheVariants.{Var, Int, Atom, Func}
use Rattle.cp_term.specs.Numbering.{fresh}
use Rattle.cp_goal.specs.Folds.{of_terms}

-- the name is this word
abbrev pub is : List ℕ → String → Bool
is name word = bytes_eq name (codes word)

-- Goals, each with the module that sees it. The arguments of control are terms that are read when they are run.
pub data Body : Type 0 where
  Cut : Body
  True : Body
  Fail : Body
  Both : (first second : Body) → Body
  Either : (first second : Body) → Body
  Choose : (condition yes no : Body) → Body
  CallOf : (module_name : List ℕ) (goal : List Cell) (extra : List (List Cell)) → Body
  CatchOf : (module_name : List ℕ) (goal ball recovery : List Cell) → Body
  ThrowOf : (module_name : List ℕ) (ball : List Cell) → Body
  FindAll : (module_name : List ℕ) (template goal result : List Cell) → Body
  -- a goal that is no control: a builtin or a call of a predicate
  Plain : (module_name : List ℕ) (goal : List Cell) → Body

abbrev pub two_bodies : (Body → Body → Body) → Option Body → Option Body → Option Body
two_bodies f (Some a) (Some b) = Some (f a b)
two_bodies f a b = None

abbrev pub three_bodies : (Body → Body → Body → Body) → Option Body → Option Body → Option Body → Option Body
three_bodies f (Some a) (Some b) (Some c) = Some (f a b c)
three_bodies f a b c = None

-- what a term is as a body, by the module that sees it; and its condition and consequence, where it is `->`/2
abbrev pub Reads : Type 0
Reads = List ℕ → Option Body

pub data Arrow : Type 0 where
  NoArrow : Arrow
  IfThen : (condition consequence : Reads) → Arrow

pub record Read : Type 0 where
  pub cells : List Cell
  pub body : Reads
  pub arrow : Arrow

abbrev pub atom_body : List ℕ → Reads
atom_body a m =
    if is a "!" then Some Cut
    else if is a "true" then Some True
    else if is a "fail" then Some Fail
    else Some (Plain m (Atom a ∷ []))

-- `M:G` is G as module M sees it; where M is no atom it is no goal
abbrev pub within_module : List Cell → Reads → Option Body
within_module (Atom m ∷ []) body = body m
within_module cells body = None

abbrev pub either_body : Arrow → Reads → Reads → List ℕ → Option Body
either_body NoArrow a b m = two_bodies Either (a m) (b m)
either_body (IfThen c t) a e m = three_bodies Choose (c m) (t m) (e m)

abbrev pub unary_body : List ℕ → List Cell → Read → Reads
unary_body f cells a m =
    if is f "\\+" then three_bodies Choose (a.body m) (Some Fail) (Some True)
    else if is f "call" then Some (CallOf m a.cells [])
    else if is f "throw" then Some (ThrowOf m a.cells)
    else Some (Plain m cells)

abbrev pub binary_body : List ℕ → List Cell → Read → Read → Reads
binary_body f cells a b m =
    if is f "," then two_bodies Both (a.body m) (b.body m)
    else if is f ";" then either_body a.arrow a.body b.body m
    else if is f "->" then three_bodies Choose (a.body m) (b.body m) (Some Fail)
    else if is f ":" then within_module a.cells b.body
    else if is f "call" then Some (CallOf m a.cells (b.cells ∷ []))
    else Some (Plain m cells)

abbrev pub ternary_body : List ℕ → List Cell → Read → Read → Read → Reads
ternary_body f cells a b c m =
    if is f "catch" then Some (CatchOf m a.cells b.cells c.cells)
    else if is f "findall" then Some (FindAll m a.cells b.cells c.cells)
    else if is f "call" then Some (CallOf m a.cells (b.cells ∷ c.cells ∷ []))
    else Some (Plain m cells)

-- `call/4` to `call/8`
abbrev pub longer_body : List ℕ → (arity : ℕ) → List Cell → Read → List Read → Reads
longer_body f k cells a more m =
    if is f "call" && nat_le k 8 then Some (CallOf m a.cells (map (λ (r : Read). r.cells) more)) else Some (Plain m cells)

abbrev pub compound_body : List ℕ → (arity : ℕ) → List Cell → List Read → Reads
compound_body f k cells [] m = Some (Plain m cells)
compound_body f k cells (a ∷ []) m = unary_body f cells a m
compound_body f k cells (a ∷ b ∷ []) m = binary_body f cells a b m
compound_body f k cells (a ∷ b ∷ c ∷ []) m = ternary_body f cells a b c m
compound_body f k cells (a ∷ b ∷ c ∷ d ∷ more) m = longer_body f k cells a (b ∷ c ∷ d ∷ more) m

abbrev pub body_at : Cell → List Cell → List Read → Reads
body_at (Var v) cells parts m = Some (CallOf m (Var v ∷ []) [])
body_at (Int i) cells parts m = None
body_at (Atom a) cells parts m = atom_body a m
body_at (Func f k) cells parts m = compound_body f k cells parts m

abbrev pub arrow_of : List ℕ → List Read → Arrow
arrow_of f (a ∷ b ∷ []) = if is f "->" then IfThen a.body b.body else NoArrow
arrow_of f parts = NoArrow

abbrev pub arrow_at : Cell → List Read → Arrow
arrow_at (Var v) parts = NoArrow
arrow_at (Int i) parts = NoArrow
arrow_at (Atom a) parts = NoArrow
arrow_at (Func f k) parts = arrow_of f parts

abbrev pub cells_of : Cell → List Read → List Cell
cells_of c parts = c ∷ flat_map (λ (r : Read). r.cells) parts

abbrev pub read_of : Cell → List Read → Read
read_of c parts = record { cells = cells_of c parts; body = body_at c (cells_of c parts) parts; arrow = arrow_at c parts }

abbrev pub unread : Read
unread = record { cells = []; body = λ m. None; arrow = NoArrow }

-- the body that a term is as a module sees it, or none where it holds a term that is no goal
unfoldable pub body_of : List ℕ → List Cell → Option Body
body_of m cells = (slice_index_or (of_terms read_of cells) 0 unread).body m

-- the body with n added to each variable
unfoldable pub fresh_body : ℕ → Body → Body
fresh_body n Cut = Cut
fresh_body n True = True
fresh_body n Fail = Fail
fresh_body n (Both a b) = Both (fresh_body n a) (fresh_body n b)
fresh_body n (Either a b) = Either (fresh_body n a) (fresh_body n b)
fresh_body n (Choose c t e) = Choose (fresh_body n c) (fresh_body n t) (fresh_body n e)
fresh_body n (CallOf m g extra) = CallOf m (fresh n g) (map (fresh n) extra)
fresh_body n (CatchOf m g b r) = CatchOf m (fresh n g) (fresh n b) (fresh n r)
fresh_body n (ThrowOf m b) = ThrowOf m (fresh n b)
fresh_body n (FindAll m x g l) = FindAll m (fresh n x) (fresh n g) (fresh n l)
fresh_body n (Plain m g) = Plain m (fresh n g)

-- ---- modules in front of a goal

-- a goal, and the module that sees it
pub record Seen : Type 0 where
  pub seer : List ℕ
  pub goal : List Cell

-- a term without the modules in front of it: the inner one counts, and one that is no atom stays
pub record Peeled : Type 0 where
  pub cells : List Cell
  pub seen : List ℕ → Seen

abbrev pub as_it_is : List Cell → List ℕ → Seen
as_it_is cells m = record { seer = m; goal = cells }

abbrev pub seen_in : List Cell → List Cell → (List ℕ → Seen) → List ℕ → Seen
seen_in cells (Atom inner ∷ []) seen m = seen inner
seen_in cells other seen m = as_it_is cells m

abbrev pub peeled_pair : List ℕ → List Cell → List Peeled → List ℕ → Seen
peeled_pair f cells (a ∷ b ∷ []) m = if is f ":" then seen_in cells a.cells b.seen m else as_it_is cells m
peeled_pair f cells parts m = as_it_is cells m

abbrev pub peeled_at : Cell → List Cell → List Peeled → List ℕ → Seen
peeled_at (Var v) cells parts m = as_it_is cells m
peeled_at (Int i) cells parts m = as_it_is cells m
peeled_at (Atom a) cells parts m = as_it_is cells m
peeled_at (Func f k) cells parts m = peeled_pair f cells parts m

abbrev pub peeled_cells : Cell → List Peeled → List Cell
peeled_cells c parts = c ∷ flat_map (λ (p : Peeled). p.cells) parts

abbrev pub peeled_of : Cell → List Peeled → Peeled
peeled_of c parts = record { cells = peeled_cells c parts; seen = peeled_at c (peeled_cells c parts) parts }

unfoldable pub seen_from : List ℕ → List Cell → Seen
seen_from m cells = (slice_index_or (of_terms peeled_of cells) 0 (record { cells = cells; seen = as_it_is cells })).seen m
