-- Steps where a term has come and its construct goes on.
use Rattle.std.proofs.Common.{◌≡◌, ℕ, suc, ◌+◌, ◌*◌, ◌<◌, ◌≤◌, Bool, true, false, List, [], ◌∷◌, ◌++◌, length, refl, sym, ◌∙◌, ap, subst, Ok, Err, append_assoc, arith}
use Rattle.std.specs.Prelude.{Option, Some, None, Result, codes, reverse, drop, if◌then◌else◌}
use Rattle.cp_term.specs.declared.cell.Cell.{Cell}
use Rattle.cp_term.specs.declared.cell.Cell.TheVariants.{Func}
use Rattle.cp_ops.specs.Operators.{Ops}
use Rattle.cp_read.specs.declared.frame.Construct.{Construct}
use Rattle.cp_read.specs.declared.frame.Construct.TheVariants as constructs
use Rattle.cp_read.specs.declared.frame.Turn.{Turn}
use Rattle.cp_read.specs.declared.frame.Turn.TheVariants as turns
use Rattle.cp_read.specs.declared.frame.Stop as frame
use Rattle.cp_read.specs.declared.frame.Stop.TheVariants as stops
use Rattle.cp_lex.specs.declared.token.Token.{Token}
use Rattle.cp_read.specs.Lexemes.{Lexeme, lexemes, seen_behind}
use Rattle.cp_read.specs.Grammar.{Stop, stopped, Read, refused, behind_end, ended, primary, admitted, behind_close, behind_brace, behind_bracket}
use Rattle.cp_read.specs.Drafts.{cells_of}
use Rattle.cp_read.specs.Progress.{Progress}
use Rattle.cp_read.specs.SeenNames.{Knows}
use Rattle.cp_read.specs.Machine.{Open, operand_of, closed, max_of, State, has, meaning, weight}
use Rattle.cp_read.specs.Stands.{IsOpen, Stacked, Filled, IsClosing, IsEnding, Keeps, Steps, Refuses}
use Rattle.cp_read.proofs.lemmas.MachineLaws.{close_step, fault_step, end_step}

pub cells_of-append : (a b : List (List Cell)) → cells_of (a ++ b) ≡ cells_of a ++ cells_of b
cells_of-append [] b = refl
cells_of-append (p ∷ a) b = ap (λ c. p ++ c) (cells_of-append a b) ∙ sym (append_assoc p (cells_of a) (cells_of b))

pub lexemes-length : (list : List (List ℕ)) (ts : List Token) → length (lexemes list ts) ≡ length ts
lexemes-length list [] = refl
lexemes-length list (t ∷ ts) = ap suc (lexemes-length (seen_behind list (t.kind)) ts)

pub no_more : (list : List (List ℕ)) (ts : List Token) → length (lexemes list (drop 1 ts)) ≤ length (lexemes list ts)
no_more list [] = omega arith
no_more list (t ∷ ts) = omega (arith, lexemes-length list ts, lexemes-length (seen_behind list (t.kind)) ts)

pub filled_behind : (a b : List (List Cell)) → Filled b → Filled (a ++ b)
filled_behind [] b h = h
filled_behind (p ∷ a) b h = tt

-- a term has come that begins where the construct did
pub has_come : (ops : Ops) (s : State) (r : Progress) (start priority max : ℕ) (list : List (List ℕ)) (os : List Open) (before own : List (List Cell)) (cells : List Cell) (rest : List Lexeme) →
    Knows r.seen list → Stacked (reverse r.frames) before os → r.pieces ≡ before ++ own → length before ≡ start →
    cells ≡ cells_of own → rest ≡ lexemes list r.tokens → Filled own →
    meaning ops s ≡ meaning ops (has os max (record { cells = cells; priority = priority; rest = rest })) →
    3 * length (lexemes list r.tokens) + length os < weight s →
    Keeps ops s (turns.Has start priority max) r
has_come ops s r start priority max list os before own cells rest knows stack pieces begins same behind filled gives less = (
  has os max (record { cells = cells_of own; priority = priority; rest = lexemes list r.tokens }),
  (list, os, before, own, filled, knows, stack, pieces, begins, refl),
  gives ∙ ap (λ (c : List Cell). meaning ops (has os max (record { cells = c; priority = priority; rest = rest }))) same
      ∙ ap (λ (ls : List Lexeme). meaning ops (has os max (record { cells = cells_of own; priority = priority; rest = ls }))) behind,
  less,
)

pub close_operand : (ops : Ops) (p start outer : ℕ) (r : Progress) (s : State) → IsClosing ops (constructs.Operand p) start outer r s → Keeps ops s (turns.Has start p outer) r
close_operand ops p start outer r s (list, os, o, before, own, mine, max, priority, filled, knows, stack, pieces, begins, is_open, none, is) =
    let left : Read = record { cells = cells_of mine; priority = priority; rest = lexemes list r.tokens } in
    has_come ops s r start p outer list os before (own ++ mine) (cells_of own ++ cells_of mine) (lexemes list r.tokens) knows stack pieces begins (sym (cells_of-append own mine)) refl (filled_behind own mine filled)
    (ap (meaning ops) is ∙ ap (λ (o : Open). meaning ops (has (o ∷ os) max left)) is_open
    ∙ close_step ops (operand_of (cells_of own) p outer) os max left (record { cells = cells_of own ++ cells_of mine; priority = p; rest = lexemes list r.tokens }) none refl)
    (subst (λ (t : State). 3 * length (lexemes list r.tokens) + length os < weight t) (sym is) (omega arith))

-- the closing sign of the construct follows
close_with : (ops : Ops) (start outer : ℕ) (r : Progress) (s : State) (list : List (List ℕ)) (os : List Open) (o : Open) (before own mine : List (List Cell)) (max priority : ℕ) (cells : List Cell) →
    Filled mine → Knows r.seen list → Stacked (reverse r.frames) before os → r.pieces ≡ before ++ (own ++ mine) → length before ≡ start →
    (let left : Read = record { cells = cells_of mine; priority = priority; rest = lexemes list r.tokens } in
    (admitted ops max left ≡ None) × (s ≡ has (o ∷ os) max left) × (closed ops o left ≡ primary cells (lexemes list (drop 1 r.tokens)))) →
    max_of o ≡ outer → cells ≡ cells_of (own ++ mine) →
    Keeps ops s (turns.Has start 0 outer) (record r { tokens = drop 1 r.tokens })
close_with ops start outer r s list os o before own mine max priority cells filled knows stack pieces begins (none, is, gives) same joined =
    let left : Read = record { cells = cells_of mine; priority = priority; rest = lexemes list r.tokens } in
    let y : Read = record { cells = cells; priority = 0; rest = lexemes list (drop 1 r.tokens) } in
    has_come ops s (record r { tokens = drop 1 r.tokens }) start 0 outer list os before (own ++ mine) cells (lexemes list (drop 1 r.tokens)) knows stack pieces begins joined refl (filled_behind own mine filled)
    (ap (meaning ops) is ∙ close_step ops o os max left y none gives ∙ ap (λ (m : ℕ). meaning ops (has os m y)) same)
    (subst (λ (t : State). 3 * length (lexemes list (drop 1 r.tokens)) + length os < weight t) (sym is) (omega (arith, no_more list r.tokens)))

pub close_parentheses : (ops : Ops) (start outer : ℕ) (r : Progress) (s : State) → IsClosing ops constructs.Parentheses start outer r s → ((list : List (List ℕ)) → behind_close (lexemes list r.tokens) ≡ Some (lexemes list (drop 1 r.tokens))) →
    Keeps ops s (turns.Has start 0 outer) (record r { tokens = drop 1 r.tokens })
close_parentheses ops start outer r s (list, os, o, before, own, mine, max, priority, filled, knows, stack, pieces, begins, (empty, is_open), none, is) front =
    let cells = cells_of mine in
    close_with ops start outer r s list os o before own mine max priority cells filled knows stack pieces begins
    (none, is, ap (λ (p : Open). closed ops p (record { cells = cells; priority = priority; rest = lexemes list r.tokens })) is_open ∙ ap (λ (x : Option (List Lexeme)). ended ops x cells (lexemes list r.tokens)) (front list))
    (ap max_of is_open) (ap (λ (q : List (List Cell)). cells_of (q ++ mine)) (sym empty))

pub close_braces : (ops : Ops) (start outer : ℕ) (r : Progress) (s : State) → IsClosing ops constructs.Braces start outer r s → ((list : List (List ℕ)) → behind_brace (lexemes list r.tokens) ≡ Some (lexemes list (drop 1 r.tokens))) →
    Keeps ops s (turns.Has start 0 outer) (record r { tokens = drop 1 r.tokens })
close_braces ops start outer r s (list, os, o, before, own, mine, max, priority, filled, knows, stack, pieces, begins, (single, is_open), none, is) front =
    let cells = Func (codes "{}") 1 ∷ cells_of mine in
    close_with ops start outer r s list os o before own mine max priority cells filled knows stack pieces begins
    (none, is, ap (λ (p : Open). closed ops p (record { cells = cells_of mine; priority = priority; rest = lexemes list r.tokens })) is_open ∙ ap (λ (x : Option (List Lexeme)). ended ops x cells (lexemes list r.tokens)) (front list))
    (ap max_of is_open) (ap (λ (q : List (List Cell)). cells_of (q ++ mine)) (sym single))

pub close_tail : (ops : Ops) (start outer : ℕ) (r : Progress) (s : State) → IsClosing ops constructs.Tail start outer r s → ((list : List (List ℕ)) → behind_bracket (lexemes list r.tokens) ≡ Some (lexemes list (drop 1 r.tokens))) →
    Keeps ops s (turns.Has start 0 outer) (record r { tokens = drop 1 r.tokens })
close_tail ops start outer r s (list, os, o, before, own, mine, max, priority, filled, knows, stack, pieces, begins, is_open, none, is) front =
    let cells = cells_of own ++ cells_of mine in
    close_with ops start outer r s list os o before own mine max priority cells filled knows stack pieces begins
    (none, is, ap (λ (p : Open). closed ops p (record { cells = cells_of mine; priority = priority; rest = lexemes list r.tokens })) is_open ∙ ap (λ (x : Option (List Lexeme)). ended ops x cells (lexemes list r.tokens)) (front list))
    (ap max_of is_open) (sym (cells_of-append own mine))

-- ---- faults

steps_to : (ops : Ops) (s : State) (result : Result Turn frame.Stop) (turn : Turn) (r t : Progress) → result ≡ Ok turn → r ≡ t → Keeps ops s turn t → Steps ops s result r
steps_to ops s result turn r t e f k = subst (λ (p : Progress). Steps ops s result p) (sym f) (subst (λ (x : Result Turn frame.Stop). Steps ops s x t) (sym e) k)

pub refused_so : (ops : Ops) (s : State) (result : Result Turn frame.Stop) (r : Progress) (list : List (List ℕ)) (given : Result Read Stop) →
    Refuses result given (lexemes list r.tokens) → ((e : Stop) → given ≡ Err e → meaning ops s ≡ Err e) → Steps ops s result r
refused_so ops s (Ok turn) r list given h f = absurd h
refused_so ops s (Err (stops.Fault why)) r list given h f = (list, f (stopped why (lexemes list r.tokens)) h)
refused_so ops s (Err stops.NoMemory) r list given h f = tt

-- the construct cannot go on
pub closing_refused : (ops : Ops) (construct : Construct) (start outer : ℕ) (r t : Progress) (s : State) (result : Result Turn frame.Stop) → IsClosing ops construct start outer r s →
    ((list : List (List ℕ)) → Refuses result (refused ops (lexemes list r.tokens)) (lexemes list t.tokens)) →
    ((list : List (List ℕ)) (o : Open) (own mine : List (List Cell)) (priority : ℕ) → IsOpen construct outer own o →
    closed ops o (record { cells = cells_of mine; priority = priority; rest = lexemes list r.tokens }) ≡ refused ops (lexemes list r.tokens)) →
    Steps ops s result t
closing_refused ops construct start outer r t s result (list, os, o, before, own, mine, max, priority, filled, knows, stack, pieces, begins, is_open, none, is) fault gives =
    let left : Read = record { cells = cells_of mine; priority = priority; rest = lexemes list r.tokens } in
    refused_so ops s result t list (refused ops (lexemes list r.tokens)) (fault list)
    (λ e h. ap (meaning ops) is ∙ fault_step ops o os max left e none (gives list o own mine priority is_open ∙ h))

module _ (ops : Ops) (start outer : ℕ) (r t : Progress) (s : State) (result : Result Turn frame.Stop) where
  pub by_parentheses : (b : Bool) → IsClosing ops constructs.Parentheses start outer r s →
      ((list : List (List ℕ)) → behind_close (lexemes list r.tokens) ≡ (if b then Some (lexemes list (drop 1 r.tokens)) else None)) →
      (b ≡ true → (result ≡ Ok (turns.Has start 0 outer)) × (t ≡ record r { tokens = drop 1 r.tokens })) →
      ((list : List (List ℕ)) → b ≡ false → Refuses result (refused ops (lexemes list r.tokens)) (lexemes list t.tokens)) → Steps ops s result t
  by_parentheses true h front there missing = let y = there refl in steps_to ops s result (turns.Has start 0 outer) t (record r { tokens = drop 1 r.tokens }) (y.0) (y.1) (close_parentheses ops start outer r s h front)
  by_parentheses false h front there missing = closing_refused ops constructs.Parentheses start outer r t s result h (λ list. missing list refl) (λ list o own mine priority is.
      ap (λ (p : Open). closed ops p (record { cells = cells_of mine; priority = priority; rest = lexemes list r.tokens })) (is.1)
      ∙ ap (λ (x : Option (List Lexeme)). ended ops x (cells_of mine) (lexemes list r.tokens)) (front list))

  pub by_braces : (b : Bool) → IsClosing ops constructs.Braces start outer r s →
      ((list : List (List ℕ)) → behind_brace (lexemes list r.tokens) ≡ (if b then Some (lexemes list (drop 1 r.tokens)) else None)) →
      (b ≡ true → (result ≡ Ok (turns.Has start 0 outer)) × (t ≡ record r { tokens = drop 1 r.tokens })) →
      ((list : List (List ℕ)) → b ≡ false → Refuses result (refused ops (lexemes list r.tokens)) (lexemes list t.tokens)) → Steps ops s result t
  by_braces true h front there missing = let y = there refl in steps_to ops s result (turns.Has start 0 outer) t (record r { tokens = drop 1 r.tokens }) (y.0) (y.1) (close_braces ops start outer r s h front)
  by_braces false h front there missing = closing_refused ops constructs.Braces start outer r t s result h (λ list. missing list refl) (λ list o own mine priority is.
      ap (λ (p : Open). closed ops p (record { cells = cells_of mine; priority = priority; rest = lexemes list r.tokens })) (is.1)
      ∙ ap (λ (x : Option (List Lexeme)). ended ops x (Func (codes "{}") 1 ∷ cells_of mine) (lexemes list r.tokens)) (front list))

  pub by_tail : (b : Bool) → IsClosing ops constructs.Tail start outer r s →
      ((list : List (List ℕ)) → behind_bracket (lexemes list r.tokens) ≡ (if b then Some (lexemes list (drop 1 r.tokens)) else None)) →
      (b ≡ true → (result ≡ Ok (turns.Has start 0 outer)) × (t ≡ record r { tokens = drop 1 r.tokens })) →
      ((list : List (List ℕ)) → b ≡ false → Refuses result (refused ops (lexemes list r.tokens)) (lexemes list t.tokens)) → Steps ops s result t
  by_tail true h front there missing = let y = there refl in steps_to ops s result (turns.Has start 0 outer) t (record r { tokens = drop 1 r.tokens }) (y.0) (y.1) (close_tail ops start outer r s h front)
  by_tail false h front there missing = closing_refused ops constructs.Tail start outer r t s result h (λ list. missing list refl) (λ list o own mine priority is.
      ap (λ (p : Open). closed ops p (record { cells = cells_of mine; priority = priority; rest = lexemes list r.tokens })) is
      ∙ ap (λ (x : Option (List Lexeme)). ended ops x (cells_of own ++ cells_of mine) (lexemes list r.tokens)) (front list))

  -- the clause ends, or cannot
  pub by_end : (b : Bool) → IsEnding ops r s →
      ((list : List (List ℕ)) → behind_end (lexemes list r.tokens) ≡ (if b then Some (lexemes list (drop 1 r.tokens)) else None)) →
      (b ≡ true → (result ≡ Ok turns.Ended) × (t ≡ record r { tokens = drop 1 r.tokens })) →
      ((list : List (List ℕ)) → b ≡ false → Refuses result (refused ops (lexemes list r.tokens)) (lexemes list t.tokens)) → Steps ops s result t
  by_end true (list, max, priority, knows, none, is) front there missing =
      let y = there refl in
      let left : Read = record { cells = cells_of r.pieces; priority = priority; rest = lexemes list r.tokens } in
      steps_to ops s result turns.Ended t (record r { tokens = drop 1 r.tokens }) (y.0) (y.1)
      (list, ap (meaning ops) is ∙ end_step ops max left none ∙ ap (λ (x : Option (List Lexeme)). ended ops x (cells_of r.pieces) (lexemes list r.tokens)) (front list))
  by_end false (list, max, priority, knows, none, is) front there missing =
      let left : Read = record { cells = cells_of r.pieces; priority = priority; rest = lexemes list r.tokens } in
      refused_so ops s result t list (refused ops (lexemes list r.tokens)) (missing list refl)
      (λ e h. ap (meaning ops) is ∙ end_step ops max left none ∙ ap (λ (x : Option (List Lexeme)). ended ops x (cells_of r.pieces) (lexemes list r.tokens)) (front list) ∙ h)
