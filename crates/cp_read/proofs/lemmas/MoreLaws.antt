-- Steps where a term has come and another comes in its construct, or a sign behind it ends a list or a compound.
use Rattle.std.proofs.Common.{◌≡◌, ℕ, suc, ◌+◌, ◌*◌, ◌<◌, List, [], ◌∷◌, ◌++◌, length, refl, sym, ◌∙◌, ap, subst, append_assoc, arith}
use Rattle.std.proofs.lemmas.List.{reverse-append}
use Rattle.std.specs.Prelude.{reverse, drop, slice_set, Result, Ok, Err, IfOk, IfErr, OnOk}
use Rattle.std.specs.Borrow.{Bor}
use Rattle.cp_term.specs.declared.cell.Cell.{Cell}
use Rattle.cp_term.specs.declared.cell.Cell.TheVariants.{Func}
use Rattle.cp_ops.specs.Operators.{Ops}
use Rattle.cp_read.specs.declared.frame.Construct.TheVariants as constructs
use Rattle.cp_read.specs.declared.frame.Frame.{Frame}
use Rattle.cp_read.specs.declared.frame.Turn.{Turn}
use Rattle.cp_read.specs.declared.frame.Turn.TheVariants as turns
use Rattle.cp_read.specs.declared.frame.Stop as frame
use Rattle.cp_read.specs.declared.frame.Stop.TheVariants as stops
use Rattle.cp_read.specs.Lexemes.{lexemes}
use Rattle.cp_read.specs.Grammar.{Read, Behind, closed_by, comma_and, bar_and, neither, refused, behind_argument, behind_element, list_cell, empty_list}
use Rattle.cp_read.specs.Drafts.{cells_of}
use Rattle.cp_read.specs.Progress.{Progress}
use Rattle.cp_read.specs.SeenNames.{Knows}
use Rattle.cp_read.specs.Machine.{Open, arguments_of, elements_of, tail_of, closed, behind_one, behind_item, State, expects, has, meaning, weight}
use Rattle.cp_read.specs.Stands.{IsOpen, Stacked, IsClosing, Keeps, Steps, Refuses}
use Rattle.cp_read.proofs.lemmas.MachineLaws.{close_step, more_step, next_argument, next_element, next_tail}
use Rattle.cp_read.proofs.lemmas.CloseLaws.{cells_of-append, has_come, closing_refused, no_more, filled_behind}
use Rattle.cp_read.proofs.lemmas.Shrinks.{FewerBehind, fewer_argument, fewer_element}

-- a construct is open, and a term comes inside
pub term_comes : (ops : Ops) (s : State) (r : Progress) (f : Frame) (inner : ℕ) (list : List (List ℕ)) (os : List Open) (o : Open) (before own : List (List Cell)) →
    Knows r.seen list → Stacked (reverse r.frames) before os → r.pieces ≡ before ++ own → length before ≡ f.start → IsOpen f.construct f.max own o →
    meaning ops s ≡ meaning ops (expects (o ∷ os) inner (lexemes list r.tokens)) →
    3 * length (lexemes list r.tokens) + length (o ∷ os) + 1 < weight s →
    Keeps ops s (turns.Expects inner) (record r { frames = r.frames ++ f ∷ [] })
term_comes ops s r f inner list os o before own knows stack pieces begins is_open gives less = (
  expects (o ∷ os) inner (lexemes list r.tokens),
  (
    list,
    o ∷ os,
    knows,
    subst (λ (fs : List Frame). Stacked fs r.pieces (o ∷ os)) (sym (reverse-append r.frames (f ∷ []))) (before, own, pieces, begins, is_open, stack),
    refl,
  ),
  gives,
  less,
)

-- a piece more
one_more : (before own mine : List (List Cell)) (pieces : List (List Cell)) (p : List Cell) → pieces ≡ before ++ (own ++ mine) → pieces ++ p ∷ [] ≡ before ++ (own ++ (mine ++ p ∷ []))
one_more before own mine pieces p e =
    ap (λ (l : List (List Cell)). l ++ p ∷ []) e ∙ append_assoc before (own ++ mine) (p ∷ []) ∙ ap (λ (l : List (List Cell)). before ++ l) (append_assoc own mine (p ∷ []))

-- the cells of a list so far, with one piece of a cell more
with_cell : (cells : List Cell) (own mine : List (List Cell)) (cell : Cell) → cells_of own ≡ cells ++ list_cell ∷ [] →
    cells_of (own ++ (mine ++ (cell ∷ []) ∷ [])) ≡ cells ++ (list_cell ∷ (cells_of mine ++ cell ∷ []))
with_cell cells own mine cell e =
    cells_of-append own (mine ++ (cell ∷ []) ∷ [])
    ∙ ap (λ (c : List Cell). cells_of own ++ c) (cells_of-append mine ((cell ∷ []) ∷ []))
    ∙ ap (λ (c : List Cell). c ++ (cells_of mine ++ cell ∷ [])) e
    ∙ append_assoc cells (list_cell ∷ []) (cells_of mine ++ cell ∷ [])

pub list_ends : (ops : Ops) (start outer : ℕ) (r : Progress) (s : State) → IsClosing ops constructs.Elements start outer r s →
    ((list : List (List ℕ)) → behind_element (lexemes list r.tokens) ≡ closed_by (lexemes list (drop 1 r.tokens))) →
    Keeps ops s (turns.Has start 0 outer) (record r { tokens = drop 1 r.tokens; pieces = r.pieces ++ (empty_list ∷ []) ∷ [] })
list_ends ops start outer r s (list, os, o, before, own, mine, max, priority, filled, knows, stack, pieces, begins, (cells, spelled, is_open), none, is) front =
    let left : Read = record { cells = cells_of mine; priority = priority; rest = lexemes list r.tokens } in
    let rest = lexemes list (drop 1 r.tokens) in
    let all = cells ++ list_cell ∷ cells_of mine ++ empty_list ∷ [] in
    let y : Read = record { cells = all; priority = 0; rest = rest } in
    has_come ops s (record r { tokens = drop 1 r.tokens; pieces = r.pieces ++ (empty_list ∷ []) ∷ [] }) start 0 outer list os before (own ++ (mine ++ (empty_list ∷ []) ∷ [])) all rest
    knows stack (one_more before own mine r.pieces (empty_list ∷ []) pieces) begins (append_assoc cells (list_cell ∷ cells_of mine) (empty_list ∷ []) ∙ sym (with_cell cells own mine empty_list spelled)) refl (filled_behind own (mine ++ (empty_list ∷ []) ∷ []) (filled_behind mine ((empty_list ∷ []) ∷ []) tt))
    (ap (meaning ops) is ∙ ap (λ (p : Open). meaning ops (has (p ∷ os) max left)) is_open
    ∙ close_step ops (elements_of cells outer) os max left y none (ap (λ (b : Behind). behind_item ops cells left b) (front list)))
    (subst (λ (t : State). 3 * length rest + length os < weight t) (sym is) (omega (arith, no_more list r.tokens)))

pub element_follows : (ops : Ops) (start outer : ℕ) (r : Progress) (s : State) → IsClosing ops constructs.Elements start outer r s →
    ((list : List (List ℕ)) → behind_element (lexemes list r.tokens) ≡ comma_and (lexemes list (drop 1 r.tokens))) →
    Keeps ops s (turns.Expects 999) (record r { tokens = drop 1 r.tokens; pieces = r.pieces ++ (list_cell ∷ []) ∷ []; frames = r.frames ++ record { construct = constructs.Elements; start = start; max = outer } ∷ [] })
element_follows ops start outer r s (list, os, o, before, own, mine, max, priority, filled, knows, stack, pieces, begins, (cells, spelled, is_open), none, is) front =
    let left : Read = record { cells = cells_of mine; priority = priority; rest = lexemes list r.tokens } in
    let rest = lexemes list (drop 1 r.tokens) in
    let more = cells ++ list_cell ∷ cells_of mine in
    term_comes ops s (record r { tokens = drop 1 r.tokens; pieces = r.pieces ++ (list_cell ∷ []) ∷ [] }) (record { construct = constructs.Elements; start = start; max = outer }) 999 list os (elements_of more outer)
    before (own ++ (mine ++ (list_cell ∷ []) ∷ [])) knows stack (one_more before own mine r.pieces (list_cell ∷ []) pieces) begins
    (more, with_cell cells own mine list_cell spelled ∙ sym (append_assoc cells (list_cell ∷ cells_of mine) (list_cell ∷ [])), refl)
    (ap (meaning ops) is ∙ ap (λ (p : Open). meaning ops (has (p ∷ os) max left)) is_open
    ∙ more_step ops (elements_of cells outer) (elements_of more outer) os max 999 left rest none (next_element ops cells outer left rest (front list)) refl)
    (let fewer : length rest < length (lexemes list r.tokens) = subst (FewerBehind (lexemes list r.tokens)) (front list) (fewer_element (lexemes list r.tokens)) in
    subst (λ (t : State). 3 * length rest + suc (length os) + 1 < weight t) (sym is) (omega (arith, fewer)))

pub tail_follows : (ops : Ops) (start outer : ℕ) (r : Progress) (s : State) → IsClosing ops constructs.Elements start outer r s →
    ((list : List (List ℕ)) → behind_element (lexemes list r.tokens) ≡ bar_and (lexemes list (drop 1 r.tokens))) →
    Keeps ops s (turns.Expects 999) (record r { tokens = drop 1 r.tokens; frames = r.frames ++ record { construct = constructs.Tail; start = start; max = outer } ∷ [] })
tail_follows ops start outer r s (list, os, o, before, own, mine, max, priority, filled, knows, stack, pieces, begins, (cells, spelled, is_open), none, is) front =
    let left : Read = record { cells = cells_of mine; priority = priority; rest = lexemes list r.tokens } in
    let rest = lexemes list (drop 1 r.tokens) in
    let more = cells ++ list_cell ∷ cells_of mine in
    let same : cells_of (own ++ mine) ≡ more = cells_of-append own mine ∙ ap (λ (c : List Cell). c ++ cells_of mine) spelled ∙ append_assoc cells (list_cell ∷ []) (cells_of mine) in
    term_comes ops s (record r { tokens = drop 1 r.tokens }) (record { construct = constructs.Tail; start = start; max = outer }) 999 list os (tail_of more outer)
    before (own ++ mine) knows stack pieces begins (ap (λ (c : List Cell). tail_of c outer) (sym same))
    (ap (meaning ops) is ∙ ap (λ (p : Open). meaning ops (has (p ∷ os) max left)) is_open
    ∙ more_step ops (elements_of cells outer) (tail_of more outer) os max 999 left rest none (next_tail ops cells outer left rest (front list)) refl)
    (let fewer : length rest < length (lexemes list r.tokens) = subst (FewerBehind (lexemes list r.tokens)) (front list) (fewer_element (lexemes list r.tokens)) in
    subst (λ (t : State). 3 * length rest + suc (length os) + 1 < weight t) (sym is) (omega (arith, fewer)))

-- ---- arguments

pub argument_follows : (ops : Ops) (called : Bor (List ℕ)) (count start outer : ℕ) (r : Progress) (s : State) → IsClosing ops (constructs.Arguments called count) start outer r s →
    ((list : List (List ℕ)) → behind_argument (lexemes list r.tokens) ≡ comma_and (lexemes list (drop 1 r.tokens))) →
    Keeps ops s (turns.Expects 999) (record r { tokens = drop 1 r.tokens; frames = r.frames ++ record { construct = constructs.Arguments called (suc count); start = start; max = outer } ∷ [] })
argument_follows ops called count start outer r s (list, os, o, before, own, mine, max, priority, filled, knows, stack, pieces, begins, (arity, others, spelled, is_open), none, is) front =
    let left : Read = record { cells = cells_of mine; priority = priority; rest = lexemes list r.tokens } in
    let rest = lexemes list (drop 1 r.tokens) in
    let more = cells_of others ++ cells_of mine in
    term_comes ops s (record r { tokens = drop 1 r.tokens }) (record { construct = constructs.Arguments called (suc count); start = start; max = outer }) 999 list os (arguments_of called.now (suc count) more outer)
    before (own ++ mine) knows stack pieces begins
    (arity, others ++ mine, ap (λ (l : List (List Cell)). l ++ mine) spelled, ap (λ (c : List Cell). arguments_of called.now (suc count) c outer) (sym (cells_of-append others mine)))
    (ap (meaning ops) is ∙ ap (λ (p : Open). meaning ops (has (p ∷ os) max left)) is_open
    ∙ more_step ops (arguments_of called.now count (cells_of others) outer) (arguments_of called.now (suc count) more outer) os max 999 left rest none (next_argument ops called.now count (cells_of others) outer left rest (front list)) refl)
    (let fewer : length rest < length (lexemes list r.tokens) = subst (FewerBehind (lexemes list r.tokens)) (front list) (fewer_argument (lexemes list r.tokens)) in
    subst (λ (t : State). 3 * length rest + suc (length os) + 1 < weight t) (sym is) (omega (arith, fewer)))

pub set_behind : (before behind : List (List Cell)) (p q : List Cell) → slice_set (before ++ p ∷ behind) (length before) q ≡ before ++ q ∷ behind
set_behind [] behind p q = refl
set_behind (b ∷ before) behind p q = ap (λ (l : List (List Cell)). b ∷ l) (set_behind before behind p q)

pub arguments_end : (ops : Ops) (called : Bor (List ℕ)) (count start outer : ℕ) (r : Progress) (s : State) → IsClosing ops (constructs.Arguments called count) start outer r s →
    ((list : List (List ℕ)) → behind_argument (lexemes list r.tokens) ≡ closed_by (lexemes list (drop 1 r.tokens))) →
    Keeps ops s (turns.Has start 0 outer) (record r { tokens = drop 1 r.tokens; pieces = slice_set r.pieces start (Func called.now (suc count) ∷ []) })
arguments_end ops called count start outer r s (list, os, o, before, own, mine, max, priority, filled, knows, stack, pieces, begins, (arity, others, spelled, is_open), none, is) front =
    let left : Read = record { cells = cells_of mine; priority = priority; rest = lexemes list r.tokens } in
    let rest = lexemes list (drop 1 r.tokens) in
    let all = Func called.now (suc count) ∷ cells_of others ++ cells_of mine in
    let y : Read = record { cells = all; priority = 0; rest = rest } in
    let now : List (List Cell) = (Func called.now (suc count) ∷ []) ∷ (others ++ mine) in
    has_come ops s (record r { tokens = drop 1 r.tokens; pieces = slice_set r.pieces start (Func called.now (suc count) ∷ []) }) start 0 outer list os before now all rest
    knows stack
    (ap (λ (n : ℕ). slice_set r.pieces n (Func called.now (suc count) ∷ [])) (sym begins)
    ∙ ap (λ (l : List (List Cell)). slice_set l (length before) (Func called.now (suc count) ∷ [])) (pieces ∙ ap (λ (l : List (List Cell)). before ++ (l ++ mine)) spelled)
    ∙ set_behind before (others ++ mine) (Func called.now arity ∷ []) (Func called.now (suc count) ∷ []))
    begins (ap (λ (c : List Cell). Func called.now (suc count) ∷ c) (sym (cells_of-append others mine))) refl tt
    (ap (meaning ops) is ∙ ap (λ (p : Open). meaning ops (has (p ∷ os) max left)) is_open
    ∙ close_step ops (arguments_of called.now count (cells_of others) outer) os max left y none (ap (λ (b : Behind). behind_one ops called.now count (cells_of others) left b) (front list)))
    (subst (λ (t : State). 3 * length rest + length os < weight t) (sym is) (omega (arith, no_more list r.tokens)))

-- a step that is made, unless memory runs out
pub made : (ops : Ops) (s : State) (result : Result Turn frame.Stop) (turn : Turn) (r t : Progress) → IfOk result (λ x. x ≡ turn) → OnOk result (r ≡ t) → IfErr result (λ e. e ≡ stops.NoMemory) →
    Keeps ops s turn t → Steps ops s result r
made ops s (Ok x) turn r t same now err k = subst (λ (p : Progress). Keeps ops s x p) (sym now) (subst (λ (y : Turn). Keeps ops s y t) (sym same) k)
made ops s (Err (stops.Fault why)) turn r t same now err k = absurd (let none : ⊥ = cc in none)
made ops s (Err stops.NoMemory) turn r t same now err k = tt

pub element_refused : (ops : Ops) (start outer : ℕ) (r : Progress) (s : State) (result : Result Turn frame.Stop) → IsClosing ops constructs.Elements start outer r s →
    ((list : List (List ℕ)) → behind_element (lexemes list r.tokens) ≡ neither) →
    ((list : List (List ℕ)) → Refuses result (refused ops (lexemes list r.tokens)) (lexemes list r.tokens)) → Steps ops s result r
element_refused ops start outer r s result h front fault =
    closing_refused ops constructs.Elements start outer r r s result h fault (λ list o own mine priority is.
    let left : Read = record { cells = cells_of mine; priority = priority; rest = lexemes list r.tokens } in
    ap (λ (p : Open). closed ops p left) (is.2) ∙ ap (λ (b : Behind). behind_item ops (is.0) left b) (front list))

pub argument_refused : (ops : Ops) (called : Bor (List ℕ)) (count start outer : ℕ) (r : Progress) (s : State) (result : Result Turn frame.Stop) → IsClosing ops (constructs.Arguments called count) start outer r s →
    ((list : List (List ℕ)) (name : List ℕ) (cells : List Cell) (x : Read) → x.rest ≡ lexemes list r.tokens → behind_one ops name count cells x (behind_argument (lexemes list r.tokens)) ≡ refused ops (x.rest)) →
    ((list : List (List ℕ)) → Refuses result (refused ops (lexemes list r.tokens)) (lexemes list r.tokens)) → Steps ops s result r
argument_refused ops called count start outer r s result h other fault =
    closing_refused ops (constructs.Arguments called count) start outer r r s result h fault (λ list o own mine priority is.
    let left : Read = record { cells = cells_of mine; priority = priority; rest = lexemes list r.tokens } in
    ap (λ (p : Open). closed ops p left) (is.3) ∙ other list called.now (cells_of (is.1)) left refl)
