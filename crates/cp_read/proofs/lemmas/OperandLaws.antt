-- Steps where a term has to come.
use Rattle.std.proofs.Common.{◌≡◌, ℕ, suc, ◌+◌, ◌*◌, ◌-◌, ◌^◌, ◌<◌, ◌≤◌, Bool, true, false, ◌&&◌, List, [], ◌∷◌, ◌++◌, length, refl, sym, ◌∙◌, ap, subst, append_assoc, append-nil, arith, Ok}
use Rattle.std.proofs.lemmas.Bool.Decides.{Decides-ltb}
use Rattle.std.proofs.lemmas.Bool.{le-ltb}
use Rattle.std.specs.Prelude.{reverse, drop, slice_set, slice_index_or, if◌then◌else◌, Result, IfOk, IfErr, OnOk, Option, Some, None, codes, pos, ℤ}
use Rattle.std.specs.Borrow.{Bor}
use Rattle.std.specs.Str.{chars, is_utf8}
use Rattle.std.proofs.lemmas.List.{reverse-append}
use Rattle.std.specs.List.{flat_map}
use Rattle.cp_term.specs.declared.cell.Cell.{Cell}
use Rattle.cp_term.specs.declared.cell.Cell.TheVariants.{Var, Int, Atom, Func}
use Rattle.cp_lex.specs.declared.token.Token.{Token}
use Rattle.cp_lex.specs.declared.token.TokenKind.TheVariants as kinds
use Rattle.cp_ops.specs.Operators.{Ops, look_up}
use Rattle.cp_read.specs.declared.look.Look.{Look}
use Rattle.cp_read.specs.declared.look.Look.TheVariants as looks
use Rattle.cp_read.specs.declared.operators.Prefix as declared
use Rattle.cp_read.specs.declared.operators.Infix as declared_infix
use Rattle.cp_read.specs.declared.frame.Construct.{Construct}
use Rattle.cp_read.specs.declared.frame.Construct.TheVariants as constructs
use Rattle.cp_read.specs.declared.frame.Frame.{Frame}
use Rattle.cp_read.specs.declared.frame.Turn.{Turn}
use Rattle.cp_read.specs.declared.frame.Turn.TheVariants as turns
use Rattle.cp_read.specs.declared.frame.Stop as frame
use Rattle.cp_read.specs.declared.frame.Stop.TheVariants as stops
use Rattle.cp_read.specs.Look.{IsFront, IsNegative, signs, is_integer, prefix_seen, infix_seen}
use Rattle.cp_read.specs.Lexemes.{Lexeme, number, name, call_opens, list_opens, list_closes, braces_open, braces_close, lexemes, seen_behind, code_list}
use Rattle.cp_read.specs.Grammar.{Stop, ◌>>=◌, Read, primary, unexpected, Infix, admitted, admitted_by, infix_at, prefix_by, begins_operand, behind_bracket, behind_brace, is_call, operand, any_term, empty_list, list_cell}
use Rattle.cp_read.specs.Derivation.{is_plain}
use Rattle.cp_read.specs.Drafts.{cells_of, code_pieces}
use Rattle.cp_read.specs.Progress.{Progress}
use Rattle.cp_read.specs.SeenNames.{Knows, number_of, seen_with}
use Rattle.cp_read.specs.Machine.{Open, operand_of, parentheses, braces, arguments_of, elements_of, closed, max_of, State, expects, has, meaning, weight}
use Rattle.cp_read.specs.Stands.{IsState, IsPlain, IsEnded, IsEnding, IsClosing, IsOpen, Stacked, Filled, Keeps, Steps, Refuses}
use Rattle.cp_read.proofs.lemmas.Shrinks.{Leaves, Leaves-operand, FewerInfix, fewer_admitted}
use Rattle.cp_read.proofs.lemmas.MachineLaws.{any_takes, primary_step, no_operand_step, open_step, operator_step, opens_call, closes_list, closes_braces, opens_list, opens_braces, opens_operand, no_operand, no_prefix}
use Rattle.cp_read.proofs.lemmas.CloseLaws.{has_come, refused_so}
use Rattle.cp_read.proofs.lemmas.MoreLaws.{term_comes, set_behind, made}
use Rattle.cp_read.proofs.lemmas.KnowsLaws.{number-is, knows-behind}
use Rattle.cp_read.proofs.lemmas.Fronts.{front_variable, front_text, front_number, front_word, front_call, front_end, front_opens, front_closes, front_list_opens, front_list_closes, front_braces_open, front_braces_close, front_comma, front_bar}

operand_takes : (ops : Ops) (max : ℕ) (ls : List Lexeme) (x : Read) → operand ops (any_term ops) max ls ≡ Ok x → length (x.rest) < length ls
operand_takes ops max [] x e = absurd (let none : ⊥ = cc in none)
operand_takes ops max (l ∷ ls) x e =
    let h : length (x.rest) ≤ length (l ∷ ls) - 1 = subst (λ (y : Result Read Stop). Leaves (length (l ∷ ls) - 1) y) e (Leaves-operand ops (any_term ops) (any_takes ops) max (l ∷ ls)) in
    omega (arith, h)

-- the first operand has come
pub term_stands : (ops : Ops) (s : State) (r t : Progress) (max : ℕ) (cells : List Cell) (own : List (List Cell)) → IsState (turns.Expects max) r s →
    ((list : List (List ℕ)) → Knows r.seen list → (more : List (List ℕ)) × Knows t.seen more × (operand ops (any_term ops) max (lexemes list r.tokens) ≡ primary cells (lexemes more t.tokens))) →
    t.frames ≡ r.frames → t.pieces ≡ r.pieces ++ own → cells ≡ cells_of own → Filled own →
    Keeps ops s (turns.Has (length r.pieces) 0 max) t
term_stands ops s r t max cells own (list, os, knows, stack, is) reads frames pieces same filled =
    let step = reads list knows in
    let rest = lexemes (step.0) t.tokens in
    let left : Read = record { cells = cells; priority = 0; rest = rest } in
    let fewer : length rest < length (lexemes list r.tokens) = operand_takes ops max (lexemes list r.tokens) left (step.2) in
    has_come ops s t (length r.pieces) 0 max (step.0) os r.pieces own cells rest (step.1)
    (subst (λ (fs : List Frame). Stacked (reverse fs) r.pieces os) (sym frames) stack) pieces refl same refl filled
    (ap (meaning ops) is ∙ primary_step ops os max (lexemes list r.tokens) left (step.2))
    (subst (λ (u : State). 3 * length rest + length os < weight u) (sym is) (omega (arith, fewer)))

-- a term of one cell, after which the same variables are known
pub cell_stands : (ops : Ops) (s : State) (r : Progress) (ts : List Token) (max : ℕ) (cell : Cell) → IsState (turns.Expects max) r s →
    ((list : List (List ℕ)) → operand ops (any_term ops) max (lexemes list r.tokens) ≡ primary (cell ∷ []) (lexemes list ts)) →
    Keeps ops s (turns.Has (length r.pieces) 0 max) (record r { tokens = ts; pieces = r.pieces ++ (cell ∷ []) ∷ [] })
cell_stands ops s r ts max cell h reads =
    term_stands ops s r (record r { tokens = ts; pieces = r.pieces ++ (cell ∷ []) ∷ [] }) max (cell ∷ []) ((cell ∷ []) ∷ []) h (λ list knows. (list, knows, reads list)) refl refl refl tt

-- a construct begins
pub construct_opens : (ops : Ops) (s : State) (r : Progress) (ts : List Token) (max inner : ℕ) (o : Open) (own : List (List Cell)) (k : Construct) → IsState (turns.Expects max) r s →
    ((list : List (List ℕ)) → (operand ops (any_term ops) (max_of o) (lexemes list r.tokens) ≡ (any_term ops inner (lexemes list ts) >>= λ x. closed ops o x)) × (length (lexemes list ts) < length (lexemes list r.tokens))) →
    max_of o ≡ max → IsOpen k max own o →
    Keeps ops s (turns.Expects inner) (record r { tokens = ts; pieces = r.pieces ++ own; frames = r.frames ++ record { construct = k; start = length r.pieces; max = max } ∷ [] })
construct_opens ops s r ts max inner o own k (list, os, knows, stack, is) reads same is_open =
    let fewer = (reads list).1 in
    term_comes ops s (record r { tokens = ts; pieces = r.pieces ++ own }) (record { construct = k; start = length r.pieces; max = max }) inner list os o r.pieces own knows stack refl refl is_open
    (ap (meaning ops) is ∙ ap (λ (m : ℕ). meaning ops (expects os m (lexemes list r.tokens))) (sym same) ∙ open_step ops o os inner (lexemes list r.tokens) (lexemes list ts) ((reads list).0))
    (subst (λ (u : State). 3 * length (lexemes list ts) + suc (length os) + 1 < weight u) (sym is) (omega (arith, fewer)))

-- no term begins here
pub operand_refused : (ops : Ops) (s : State) (r : Progress) (result : Result Turn frame.Stop) (max : ℕ) → IsState (turns.Expects max) r s →
    ((list : List (List ℕ)) → operand ops (any_term ops) max (lexemes list r.tokens) ≡ unexpected (lexemes list r.tokens)) →
    ((list : List (List ℕ)) → Refuses result (unexpected (lexemes list r.tokens)) (lexemes list r.tokens)) → Steps ops s result r
operand_refused ops s r result max (list, os, knows, stack, is) reads fault =
    refused_so ops s result r list (unexpected (lexemes list r.tokens)) (fault list)
    (λ e h. ap (meaning ops) is ∙ no_operand_step ops os max (lexemes list r.tokens) e (reads list ∙ h))

-- a step that makes a term of one cell, unless memory runs out
pub cell_made : (ops : Ops) (s : State) (r t : Progress) (result : Result Turn frame.Stop) (max : ℕ) (rest ts : List Token) (made_cell cell : Cell) →
    IfOk result (λ x. x ≡ turns.Has (length r.pieces) 0 max) → OnOk result (t ≡ record r { tokens = rest; pieces = r.pieces ++ (made_cell ∷ []) ∷ [] }) → IfErr result (λ e. e ≡ stops.NoMemory) →
    rest ≡ ts → made_cell ≡ cell → Keeps ops s (turns.Has (length r.pieces) 0 max) (record r { tokens = ts; pieces = r.pieces ++ (cell ∷ []) ∷ [] }) → Steps ops s result t
cell_made ops s r t result max rest ts made_cell cell same now err tokens cells k =
    made ops s result (turns.Has (length r.pieces) 0 max) t (record r { tokens = rest; pieces = r.pieces ++ (made_cell ∷ []) ∷ [] }) same now err
    (subst (λ (us : List Token). Keeps ops s (turns.Has (length r.pieces) 0 max) (record r { tokens = us; pieces = r.pieces ++ (made_cell ∷ []) ∷ [] })) (sym tokens)
    (subst (λ (c : Cell). Keeps ops s (turns.Has (length r.pieces) 0 max) (record r { tokens = ts; pieces = r.pieces ++ (c ∷ []) ∷ [] })) (sym cells) k))

-- ---- one token

module _ (ops : Ops) (s : State) (r : Progress) (max : ℕ) where
  pub variable_comes : (called : Bor (List ℕ)) → IsFront (Some (looks.Variable called)) r.tokens → IsState (turns.Expects max) r s →
      Keeps ops s (turns.Has (length r.pieces) 0 max) (record { tokens = drop 1 r.tokens; seen = seen_with r.seen called.now; pieces = r.pieces ++ (Var (number_of r.seen called.now) ∷ []) ∷ []; frames = r.frames })
  variable_comes called front h =
      let cell = Var (number_of r.seen called.now) in
      term_stands ops s r (record { tokens = drop 1 r.tokens; seen = seen_with r.seen called.now; pieces = r.pieces ++ (cell ∷ []) ∷ []; frames = r.frames }) max (cell ∷ []) ((cell ∷ []) ∷ []) h
      (λ list knows. (
        seen_behind list (kinds.Variable called.now),
        knows-behind r.seen list called.now knows,
        ap (operand ops (any_term ops) max) (front_variable called list r.tokens front)
            ∙ ap (λ (n : ℕ). primary (Var n ∷ []) (lexemes (seen_behind list (kinds.Variable called.now)) (drop 1 r.tokens))) (sym (number-is r.seen list called.now knows)),
      )) refl refl refl tt

  pub number_comes : (n : ℕ) → n < 2 ^ 63 → IsFront (Some (looks.Number n)) r.tokens → IsState (turns.Expects max) r s →
      Keeps ops s (turns.Has (length r.pieces) 0 max) (record r { tokens = drop 1 r.tokens; pieces = r.pieces ++ (Int (pos n) ∷ []) ∷ [] })
  number_comes n small front h =
      cell_stands ops s r (drop 1 r.tokens) max (Int (pos n)) h (λ list.
      ap (operand ops (any_term ops) max) (front_number n list r.tokens front)
      ∙ ap (λ (b : Bool). if b then primary (Int (pos n) ∷ []) (lexemes list (drop 1 r.tokens)) else unexpected (number n ∷ lexemes list (drop 1 r.tokens))) ((Decides-ltb n (2 ^ 63)).1 small))

  pub number_refused : (n : ℕ) (result : Result Turn frame.Stop) → 2 ^ 63 ≤ n → IsFront (Some (looks.Number n)) r.tokens → IsState (turns.Expects max) r s →
      ((list : List (List ℕ)) → Refuses result (unexpected (lexemes list r.tokens)) (lexemes list r.tokens)) → Steps ops s result r
  number_refused n result large front h fault =
      operand_refused ops s r result max h (λ list.
      ap (operand ops (any_term ops) max) (front_number n list r.tokens front)
      ∙ ap (λ (b : Bool). if b then primary (Int (pos n) ∷ []) (lexemes list (drop 1 r.tokens)) else unexpected (number n ∷ lexemes list (drop 1 r.tokens))) (le-ltb n (2 ^ 63) large)
      ∙ sym (ap (λ (ls : List Lexeme). unexpected ls) (front_number n list r.tokens front))) fault

  codes-is : (cs : List ℕ) → flat_map (λ c. Func (codes ".") 2 ∷ Int (pos c) ∷ []) cs ++ empty_list ∷ [] ≡ cells_of (code_pieces cs ++ (empty_list ∷ []) ∷ [])
  codes-is [] = refl
  codes-is (c ∷ cs) = ap (λ (cells : List Cell). Func (codes ".") 2 ∷ Int (pos c) ∷ cells) (codes-is cs)

  filled_codes : (cs : List ℕ) → Filled (code_pieces cs ++ (empty_list ∷ []) ∷ [])
  filled_codes [] = tt
  filled_codes (c ∷ cs) = tt

  pub text_comes : (bytes : Bor (List ℕ)) → IsFront (Some (looks.Text bytes)) r.tokens → IsState (turns.Expects max) r s →
      Keeps ops s (turns.Has (length r.pieces) 0 max) (record r { tokens = drop 1 r.tokens; pieces = (r.pieces ++ code_pieces (chars bytes.now)) ++ (empty_list ∷ []) ∷ [] })
  text_comes bytes front h =
      let cs = chars bytes.now in
      term_stands ops s r (record r { tokens = drop 1 r.tokens; pieces = (r.pieces ++ code_pieces cs) ++ (empty_list ∷ []) ∷ [] }) max (code_list bytes.now) (code_pieces cs ++ (empty_list ∷ []) ∷ []) h
      (λ list knows. (list, knows, ap (operand ops (any_term ops) max) (front_text bytes list r.tokens front))) refl (append_assoc r.pieces (code_pieces cs) ((empty_list ∷ []) ∷ [])) (codes-is cs) (filled_codes cs)

  -- ---- constructs

  behind_front : (l : Lexeme) (list : List (List ℕ)) → lexemes list r.tokens ≡ l ∷ lexemes list (drop 1 r.tokens) → length (lexemes list (drop 1 r.tokens)) < length (lexemes list r.tokens)
  behind_front l list e = subst (λ (ls : List Lexeme). length (lexemes list (drop 1 r.tokens)) < length ls) (sym e) (omega arith)

  pub parentheses_open : IsFront (Some looks.Opens) r.tokens → IsState (turns.Expects max) r s →
      Keeps ops s (turns.Expects 1200) (record r { tokens = drop 1 r.tokens; frames = r.frames ++ record { construct = constructs.Parentheses; start = length r.pieces; max = max } ∷ [] })
  parentheses_open front h =
      subst (λ (pieces : List (List Cell)). Keeps ops s (turns.Expects 1200) (record r { tokens = drop 1 r.tokens; pieces = pieces; frames = r.frames ++ record { construct = constructs.Parentheses; start = length r.pieces; max = max } ∷ [] })) (append-nil r.pieces)
      (construct_opens ops s r (drop 1 r.tokens) max 1200 (parentheses max) [] constructs.Parentheses h (λ list. (
        ap (operand ops (any_term ops) max) (front_opens list r.tokens front),
        behind_front _ list (front_opens list r.tokens front),
      )) refl (refl, refl))

  pub call_parentheses_open : IsFront (Some looks.CallOpens) r.tokens → IsState (turns.Expects max) r s →
      Keeps ops s (turns.Expects 1200) (record r { tokens = drop 1 r.tokens; frames = r.frames ++ record { construct = constructs.Parentheses; start = length r.pieces; max = max } ∷ [] })
  call_parentheses_open front h =
      subst (λ (pieces : List (List Cell)). Keeps ops s (turns.Expects 1200) (record r { tokens = drop 1 r.tokens; pieces = pieces; frames = r.frames ++ record { construct = constructs.Parentheses; start = length r.pieces; max = max } ∷ [] })) (append-nil r.pieces)
      (construct_opens ops s r (drop 1 r.tokens) max 1200 (parentheses max) [] constructs.Parentheses h (λ list. (
        ap (operand ops (any_term ops) max) (front_call list r.tokens front),
        behind_front _ list (front_call list r.tokens front),
      )) refl (refl, refl))

  bracket-is : (ls rest : List Lexeme) → behind_bracket ls ≡ Some rest → ls ≡ list_closes ∷ rest
  bracket-is [] rest e = absurd (let none : ⊥ = cc in none)
  bracket-is (list_closes ∷ ls) rest e = ap (λ (l : List Lexeme). list_closes ∷ l) (let same : ls ≡ rest = cc in same)
  bracket-is (l ∷ ls) rest e = absurd (let none : ⊥ = cc in none)

  no_bracket : (ls : List Lexeme) → behind_bracket ls ≡ None → closes_list ls ≡ false
  no_bracket [] e = refl
  no_bracket (list_closes ∷ ls) e = absurd (let none : ⊥ = cc in none)
  no_bracket (l ∷ ls) e = refl

  brace-is : (ls rest : List Lexeme) → behind_brace ls ≡ Some rest → ls ≡ braces_close ∷ rest
  brace-is [] rest e = absurd (let none : ⊥ = cc in none)
  brace-is (braces_close ∷ ls) rest e = ap (λ (l : List Lexeme). braces_close ∷ l) (let same : ls ≡ rest = cc in same)
  brace-is (l ∷ ls) rest e = absurd (let none : ⊥ = cc in none)

  no_brace : (ls : List Lexeme) → behind_brace ls ≡ None → closes_braces ls ≡ false
  no_brace [] e = refl
  no_brace (braces_close ∷ ls) e = absurd (let none : ⊥ = cc in none)
  no_brace (l ∷ ls) e = refl

  pub empty_list_comes : IsFront (Some looks.ListOpens) r.tokens → ((list : List (List ℕ)) → behind_bracket (lexemes list (drop 1 r.tokens)) ≡ Some (lexemes list (drop 1 (drop 1 r.tokens)))) → IsState (turns.Expects max) r s →
      Keeps ops s (turns.Has (length r.pieces) 0 max) (record r { tokens = drop 1 (drop 1 r.tokens); pieces = r.pieces ++ (empty_list ∷ []) ∷ [] })
  empty_list_comes front closes h =
      cell_stands ops s r (drop 1 (drop 1 r.tokens)) max empty_list h (λ list.
      ap (operand ops (any_term ops) max) (front_list_opens list r.tokens front)
      ∙ ap (λ (ls : List Lexeme). operand ops (any_term ops) max (list_opens ∷ ls)) (bracket-is _ _ (closes list)))

  pub list_opens_here : IsFront (Some looks.ListOpens) r.tokens → ((list : List (List ℕ)) → behind_bracket (lexemes list (drop 1 r.tokens)) ≡ None) → IsState (turns.Expects max) r s →
      Keeps ops s (turns.Expects 999) (record r { tokens = drop 1 r.tokens; pieces = r.pieces ++ (list_cell ∷ []) ∷ []; frames = r.frames ++ record { construct = constructs.Elements; start = length r.pieces; max = max } ∷ [] })
  list_opens_here front closes h =
      construct_opens ops s r (drop 1 r.tokens) max 999 (elements_of [] max) ((list_cell ∷ []) ∷ []) constructs.Elements h (λ list. (
        ap (operand ops (any_term ops) max) (front_list_opens list r.tokens front) ∙ opens_list ops max (lexemes list (drop 1 r.tokens)) (no_bracket (lexemes list (drop 1 r.tokens)) (closes list)),
        behind_front _ list (front_list_opens list r.tokens front),
      )) refl ([], refl, refl)

  pub empty_braces_come : IsFront (Some looks.BracesOpen) r.tokens → ((list : List (List ℕ)) → behind_brace (lexemes list (drop 1 r.tokens)) ≡ Some (lexemes list (drop 1 (drop 1 r.tokens)))) → IsState (turns.Expects max) r s →
      Keeps ops s (turns.Has (length r.pieces) 0 max) (record r { tokens = drop 1 (drop 1 r.tokens); pieces = r.pieces ++ (Atom (codes "{}") ∷ []) ∷ [] })
  empty_braces_come front closes h =
      cell_stands ops s r (drop 1 (drop 1 r.tokens)) max (Atom (codes "{}")) h (λ list.
      ap (operand ops (any_term ops) max) (front_braces_open list r.tokens front)
      ∙ ap (λ (ls : List Lexeme). operand ops (any_term ops) max (braces_open ∷ ls)) (brace-is _ _ (closes list)))

  pub braces_open_here : IsFront (Some looks.BracesOpen) r.tokens → ((list : List (List ℕ)) → behind_brace (lexemes list (drop 1 r.tokens)) ≡ None) → IsState (turns.Expects max) r s →
      Keeps ops s (turns.Expects 1200) (record r { tokens = drop 1 r.tokens; pieces = r.pieces ++ (Func (codes "{}") 1 ∷ []) ∷ []; frames = r.frames ++ record { construct = constructs.Braces; start = length r.pieces; max = max } ∷ [] })
  braces_open_here front closes h =
      construct_opens ops s r (drop 1 r.tokens) max 1200 (braces max) ((Func (codes "{}") 1 ∷ []) ∷ []) constructs.Braces h (λ list. (
        ap (operand ops (any_term ops) max) (front_braces_open list r.tokens front) ∙ opens_braces ops max (lexemes list (drop 1 r.tokens)) (no_brace (lexemes list (drop 1 r.tokens)) (closes list)),
        behind_front _ list (front_braces_open list r.tokens front),
      )) refl (refl, refl)

  -- ---- words

  pub call_opens_here : (called : Bor (List ℕ)) → IsFront (Some (looks.Word called)) r.tokens → IsFront (Some looks.CallOpens) (drop 1 r.tokens) → IsState (turns.Expects max) r s →
      Keeps ops s (turns.Expects 999) (record r { tokens = drop 1 (drop 1 r.tokens); pieces = r.pieces ++ (Func called.now 0 ∷ []) ∷ []; frames = r.frames ++ record { construct = constructs.Arguments called 0; start = length r.pieces; max = max } ∷ [] })
  call_opens_here called front next h =
      construct_opens ops s r (drop 1 (drop 1 r.tokens)) max 999 (arguments_of called.now 0 [] max) ((Func called.now 0 ∷ []) ∷ []) (constructs.Arguments called 0) h (λ list.
      let two : lexemes list r.tokens ≡ name called.now (signs r.tokens) ∷ call_opens ∷ lexemes list (drop 1 (drop 1 r.tokens)) =
      front_word called list r.tokens front ∙ ap (λ (ls : List Lexeme). name called.now (signs r.tokens) ∷ ls) (front_call list (drop 1 r.tokens) next) in (
        ap (operand ops (any_term ops) max) two ∙ opens_call ops called.now (signs r.tokens) max (lexemes list (drop 1 (drop 1 r.tokens))),
        subst (λ (ls : List Lexeme). length (lexemes list (drop 1 (drop 1 r.tokens))) < length ls) (sym two) (omega arith),
      )) refl (0, [], refl, refl)

  pub negative_comes : (called : Bor (List ℕ)) (i : ℤ) → IsFront (Some (looks.Word called)) r.tokens → IsNegative (Some i) r.tokens → IsState (turns.Expects max) r s →
      Keeps ops s (turns.Has (length r.pieces) 0 max) (record r { tokens = drop 1 (drop 1 r.tokens); pieces = r.pieces ++ (Int i ∷ []) ∷ [] })
  negative_comes called i front (signed, n, is, next) h =
      cell_stands ops s r (drop 1 (drop 1 r.tokens)) max (Int i) h (λ list.
      ap (operand ops (any_term ops) max) (front_word called list r.tokens front)
      ∙ ap (λ (b : Bool). operand ops (any_term ops) max (name called.now b ∷ lexemes list (drop 1 r.tokens))) signed
      ∙ ap (λ (ls : List Lexeme). operand ops (any_term ops) max (name called.now true ∷ ls)) (front_number n list (drop 1 r.tokens) next)
      ∙ ap (λ (i : ℤ). primary (Int i ∷ []) (lexemes list (drop 1 (drop 1 r.tokens)))) (sym is))

  plain-is : (b : Bool) (ls : List Lexeme) → false ≡ is_call ls → (b && is_integer ls) ≡ false → is_plain b ls ≡ true
  plain-is b (call_opens ∷ ls) e f = absurd (let none : ⊥ = cc in none)
  plain-is true (number n ∷ ls) e f = absurd (let none : ⊥ = cc in none)
  plain-is true [] e f = refl
  plain-is false [] e f = refl
  plain-is false (l ∷ ls) e f = refl
  plain-is true (l ∷ ls) e f = refl

  pub plain_here : ((list : List (List ℕ)) → false ≡ is_call (lexemes list (drop 1 r.tokens))) → IsNegative None r.tokens → IsPlain r.tokens
  plain_here e f = λ list. plain-is (signs r.tokens) (lexemes list (drop 1 r.tokens)) (e list) (f list)

  atom_reads : (called : Bor (List ℕ)) → IsFront (Some (looks.Word called)) r.tokens → IsState (turns.Expects max) r s →
      ((list : List (List ℕ)) → operand ops (any_term ops) max (name called.now (signs r.tokens) ∷ lexemes list (drop 1 r.tokens)) ≡ primary (Atom called.now ∷ []) (lexemes list (drop 1 r.tokens))) →
      Keeps ops s (turns.Has (length r.pieces) 0 max) (record r { tokens = drop 1 r.tokens; pieces = r.pieces ++ (Atom called.now ∷ []) ∷ [] })
  atom_reads called front h reads =
      cell_stands ops s r (drop 1 r.tokens) max (Atom called.now) h (λ list. ap (operand ops (any_term ops) max) (front_word called list r.tokens front) ∙ reads list)

  pub atom_comes : (called : Bor (List ℕ)) → IsFront (Some (looks.Word called)) r.tokens → IsPlain r.tokens → None ≡ prefix_by max (look_up (ops.prefixes) called.now) → IsState (turns.Expects max) r s →
      Keeps ops s (turns.Has (length r.pieces) 0 max) (record r { tokens = drop 1 r.tokens; pieces = r.pieces ++ (Atom called.now ∷ []) ∷ [] })
  atom_comes called front plain none h = atom_reads called front h (λ list. no_prefix ops max called.now (signs r.tokens) (lexemes list (drop 1 r.tokens)) (plain list) (sym none))

  pub lone_prefix_comes : (called : Bor (List ℕ)) (op : declared.Prefix) → IsFront (Some (looks.Word called)) r.tokens → IsPlain r.tokens → Some (prefix_seen op) ≡ prefix_by max (look_up (ops.prefixes) called.now) →
      ((list : List (List ℕ)) → false ≡ begins_operand ops op.right (lexemes list (drop 1 r.tokens))) → IsState (turns.Expects max) r s →
      Keeps ops s (turns.Has (length r.pieces) 0 max) (record r { tokens = drop 1 r.tokens; pieces = r.pieces ++ (Atom called.now ∷ []) ∷ [] })
  lone_prefix_comes called op front plain some none h = atom_reads called front h (λ list. no_operand ops max called.now (signs r.tokens) (prefix_seen op) (lexemes list (drop 1 r.tokens)) (plain list) (sym some) (sym (none list)))

  pub prefix_opens : (called : Bor (List ℕ)) (op : declared.Prefix) → IsFront (Some (looks.Word called)) r.tokens → IsPlain r.tokens → Some (prefix_seen op) ≡ prefix_by max (look_up (ops.prefixes) called.now) →
      ((list : List (List ℕ)) → true ≡ begins_operand ops op.right (lexemes list (drop 1 r.tokens))) → IsState (turns.Expects max) r s →
      Keeps ops s (turns.Expects op.right) (record r { tokens = drop 1 r.tokens; pieces = r.pieces ++ (Func called.now 1 ∷ []) ∷ []; frames = r.frames ++ record { construct = constructs.Operand op.priority; start = length r.pieces; max = max } ∷ [] })
  prefix_opens called op front plain some begins h =
      construct_opens ops s r (drop 1 r.tokens) max op.right (operand_of (Func called.now 1 ∷ []) op.priority max) ((Func called.now 1 ∷ []) ∷ []) (constructs.Operand op.priority) h (λ list. (
        ap (operand ops (any_term ops) max) (front_word called list r.tokens front)
            ∙ opens_operand ops max called.now (signs r.tokens) (prefix_seen op) (lexemes list (drop 1 r.tokens)) (plain list) (sym some) (sym (begins list)),
        behind_front _ list (front_word called list r.tokens front),
      )) refl refl

-- ---- tokens that begin no term

abbrev pub begins_none : Look → Bool
begins_none looks.Closes = true
begins_none looks.ListCloses = true
begins_none looks.BracesClose = true
begins_none looks.Comma = true
begins_none looks.Bar = true
begins_none looks.ClauseEnds = true
begins_none looks.Stray = true
begins_none l = false

by_front : (ops : Ops) (max : ℕ) (l : Lexeme) (ls rest : List Lexeme) → ls ≡ l ∷ rest → operand ops (any_term ops) max (l ∷ rest) ≡ unexpected (l ∷ rest) → operand ops (any_term ops) max ls ≡ unexpected ls
by_front ops max l ls rest e h = ap (operand ops (any_term ops) max) e ∙ h ∙ sym (ap (λ (ls : List Lexeme). unexpected ls) e)

no_term : (ops : Ops) (max : ℕ) (l : Look) (list : List (List ℕ)) (ts : List Token) → begins_none l ≡ true → IsFront (Some l) ts → operand ops (any_term ops) max (lexemes list ts) ≡ unexpected (lexemes list ts)
no_term ops max looks.Closes list ts b front = by_front ops max _ (lexemes list ts) _ (front_closes list ts front) refl
no_term ops max looks.ListCloses list ts b front = by_front ops max _ (lexemes list ts) _ (front_list_closes list ts front) refl
no_term ops max looks.BracesClose list ts b front = by_front ops max _ (lexemes list ts) _ (front_braces_close list ts front) refl
no_term ops max looks.Comma list ts b front = by_front ops max _ (lexemes list ts) _ (front_comma list ts front) refl
no_term ops max looks.Bar list ts b front = by_front ops max _ (lexemes list ts) _ (front_bar list ts front) refl
no_term ops max looks.ClauseEnds list ts b front = by_front ops max _ (lexemes list ts) _ (front_end list ts front) refl
no_term ops max looks.Stray list [] b front = absurd front
no_term ops max looks.Stray list (t ∷ ts) b front = by_front ops max _ (lexemes list (t ∷ ts)) _ (ap (λ (l : Lexeme). l ∷ lexemes (seen_behind list (t.kind)) ts) (front list t ts)) refl
no_term ops max (looks.Variable called) list ts b front = absurd (let none : ⊥ = cc in none)
no_term ops max (looks.Text bytes) list ts b front = absurd (let none : ⊥ = cc in none)
no_term ops max (looks.Number n) list ts b front = absurd (let none : ⊥ = cc in none)
no_term ops max (looks.Word called) list ts b front = absurd (let none : ⊥ = cc in none)
no_term ops max looks.CallOpens list ts b front = absurd (let none : ⊥ = cc in none)
no_term ops max looks.Opens list ts b front = absurd (let none : ⊥ = cc in none)
no_term ops max looks.ListOpens list ts b front = absurd (let none : ⊥ = cc in none)
no_term ops max looks.BracesOpen list ts b front = absurd (let none : ⊥ = cc in none)

pub stands_refused : (ops : Ops) (s : State) (r : Progress) (max : ℕ) (l : Look) (result : Result Turn frame.Stop) → begins_none l ≡ true → IsFront (Some l) r.tokens → IsState (turns.Expects max) r s →
    ((list : List (List ℕ)) → Refuses result (unexpected (lexemes list r.tokens)) (lexemes list r.tokens)) → Steps ops s result r
stands_refused ops s r max l result b front h fault = operand_refused ops s r result max h (λ list. no_term ops max l list r.tokens b front) fault

no_tokens : (ops : Ops) (max : ℕ) (list : List (List ℕ)) (ts : List Token) → IsFront None ts → operand ops (any_term ops) max (lexemes list ts) ≡ unexpected (lexemes list ts)
no_tokens ops max list ts e = subst (λ (us : List Token). operand ops (any_term ops) max (lexemes list us) ≡ unexpected (lexemes list us)) (sym e) refl

pub nothing_stands : (ops : Ops) (s : State) (r : Progress) (max : ℕ) (result : Result Turn frame.Stop) → IsFront None r.tokens → IsState (turns.Expects max) r s →
    ((list : List (List ℕ)) → Refuses result (unexpected (lexemes list r.tokens)) (lexemes list r.tokens)) → Steps ops s result r
nothing_stands ops s r max result front h fault = operand_refused ops s r result max h (λ list. no_tokens ops max list r.tokens front) fault

pub text_is_utf8 : (bytes : Bor (List ℕ)) (ts : List Token) → IsFront (Some (looks.Text bytes)) ts → is_utf8 bytes.now ≡ true
text_is_utf8 bytes [] front = absurd front
text_is_utf8 bytes (t ∷ ts) front = front.1

-- ---- infix operators

index_behind : (before behind : List (List Cell)) (p : List Cell) → slice_index_or (before ++ p ∷ behind) (length before) [] ≡ p
index_behind [] behind p = refl
index_behind (b ∷ before) behind p = index_behind before behind p

pub infix_taken : (ops : Ops) (s : State) (r : Progress) (op : declared_infix.Infix) (start priority max : ℕ) → IsState (turns.Has start priority max) r s →
    ((list : List (List ℕ)) → Some (infix_seen (lexemes list (drop 1 r.tokens)) op) ≡ admitted_by ops max priority (infix_at ops (lexemes list r.tokens))) →
    Keeps ops s (turns.Expects op.right) (record r { tokens = drop 1 r.tokens; pieces = slice_set r.pieces start (Func op.name.now 2 ∷ slice_index_or r.pieces start []); frames = r.frames ++ record { construct = constructs.Operand op.priority; start = start; max = max } ∷ [] })
infix_taken ops s r op start priority max (list, os, before, [], filled, knows, stack, pieces, begins, is) front = absurd filled
infix_taken ops s r op start priority max (list, os, before, p ∷ others, filled, knows, stack, pieces, begins, is) front =
    let cell = Func op.name.now 2 in
    let left : Read = record { cells = cells_of (p ∷ others); priority = priority; rest = lexemes list r.tokens } in
    let rest = lexemes list (drop 1 r.tokens) in
    let fewer : length rest < length (lexemes list r.tokens) = subst (λ (o : Option Infix). FewerInfix (lexemes list r.tokens) o) (sym (front list)) (fewer_admitted ops max left) in
    term_comes ops s (record r { tokens = drop 1 r.tokens; pieces = slice_set r.pieces start (cell ∷ slice_index_or r.pieces start []) }) (record { construct = constructs.Operand op.priority; start = start; max = max }) op.right
    list os (operand_of (cell ∷ cells_of (p ∷ others)) op.priority max) before ((cell ∷ p) ∷ others) knows stack
    (ap (λ (n : ℕ). slice_set r.pieces n (cell ∷ slice_index_or r.pieces n [])) (sym begins)
    ∙ ap (λ (l : List (List Cell)). slice_set l (length before) (cell ∷ slice_index_or l (length before) [])) pieces
    ∙ ap (λ (q : List Cell). slice_set (before ++ p ∷ others) (length before) (cell ∷ q)) (index_behind before others p)
    ∙ set_behind before others p (cell ∷ p))
    begins refl
    (ap (meaning ops) is ∙ operator_step ops os max left (infix_seen rest op) (sym (front list)))
    (subst (λ (u : State). 3 * length rest + suc (length os) + 1 < weight u) (sym is) (omega (arith, fewer)))

-- no infix operator takes the term in
pub ended_here : (ops : Ops) (s : State) (r : Progress) (start priority max : ℕ) → IsState (turns.Has start priority max) r s →
    ((list : List (List ℕ)) → None ≡ admitted_by ops max priority (infix_at ops (lexemes list r.tokens))) → IsEnded ops r s
ended_here ops s r start priority max (list, os, before, own, filled, knows, stack, pieces, begins, is) none = (list, os, before, own, max, priority, filled, knows, stack, pieces, sym (none list), is)

-- no construct is open
pub ends_alone : (ops : Ops) (s : State) (r : Progress) → IsEnded ops r s → r.frames ≡ [] → IsEnding ops r s
ends_alone ops s r (list, [], before, own, max, priority, filled, knows, stack, pieces, none, is) empty =
    let alone : before ≡ [] = subst (λ (fs : List Frame). Stacked (reverse fs) before []) empty stack in
    let whole : cells_of own ≡ cells_of r.pieces = ap cells_of (sym (pieces ∙ ap (λ (b : List (List Cell)). b ++ own) alone)) in (
      list,
      max,
      priority,
      knows,
      subst (λ (cells : List Cell). admitted ops max (record { cells = cells; priority = priority; rest = lexemes list r.tokens }) ≡ None) whole none,
      is ∙ ap (λ (cells : List Cell). has [] max (record { cells = cells; priority = priority; rest = lexemes list r.tokens })) whole,
    )
ends_alone ops s r (list, o ∷ os, before, own, max, priority, filled, knows, stack, pieces, none, is) empty =
    absurd (subst (λ (fs : List Frame). Stacked (reverse fs) before (o ∷ os)) empty stack)

-- the innermost construct is this one
pub closes_innermost : (ops : Ops) (s : State) (r : Progress) (f : Frame) (fs : List Frame) → IsEnded ops r s → r.frames ≡ fs ++ f ∷ [] → IsClosing ops f.construct f.start f.max (record r { frames = fs }) s
closes_innermost ops s r f fs (list, [], before, own, max, priority, filled, knows, stack, pieces, none, is) popped =
    absurd (subst (λ (gs : List Frame). Stacked gs before []) (ap (λ (gs : List Frame). reverse gs) popped ∙ reverse-append fs (f ∷ [])) stack)
closes_innermost ops s r f fs (list, o ∷ os, before, own, max, priority, filled, knows, stack, pieces, none, is) popped =
    let deeper : Stacked (f ∷ reverse fs) before (o ∷ os) = subst (λ (gs : List Frame). Stacked gs before (o ∷ os)) (ap (λ (gs : List Frame). reverse gs) popped ∙ reverse-append fs (f ∷ [])) stack in (
      list,
      os,
      o,
      deeper.0,
      deeper.1,
      own,
      max,
      priority,
      filled,
      knows,
      deeper.5,
      pieces ∙ ap (λ (b : List (List Cell)). b ++ own) (deeper.2) ∙ append_assoc (deeper.0) (deeper.1) own,
      deeper.3,
      deeper.4,
      none,
      is,
    )
