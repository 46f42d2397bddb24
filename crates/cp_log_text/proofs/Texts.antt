-- How a log grows by its lines.
use Rattle.std.proofs.Common.{◌≡◌, ℕ, List, [], ◌∷◌, ◌++◌, map, sym, ap, ◌∙◌, append_assoc}
use Rattle.std.proofs.lemmas.List.{append-nil}
use Rattle.std.proofs.lemmas.Grind.{flat_map-append}
use Rattle.std.specs.List.{flat_map}
use Rattle.cp_term.specs.declared.cell.Cell.{Cell}
use Rattle.cp_ops.specs.Operators.{Ops}
use Rattle.cp_ops.specs.Standard.{standard}
use Rattle.cp_ops.specs.Text.{text_of, quoting}
use Rattle.cp_log_text.specs.Line.{atom, line_text, lines_text}

lines_snoc : {X : Type 0} (f : X → List Cell) (xs : List X) (x : X) → lines_text (map f xs) ++ line_text (f x) ≡ lines_text (map f (xs ++ x ∷ []))
lines_snoc f [] x = sym (append-nil (line_text (f x)))
lines_snoc f (y ∷ ys) x =
    append_assoc (line_text (f y)) (lines_text (map f ys)) (line_text (f x)) ∙ ap (λ (t : List ℕ). line_text (f y) ++ t) (lines_snoc f ys x)

-- one line more
pub more_lines : {X : Type 0} (f : X → List Cell) (text : List ℕ) (xs : List X) (x : X)
    → (text ++ lines_text (map f xs)) ++ line_text (f x) ≡ text ++ lines_text (map f (xs ++ x ∷ []))
more_lines f text xs x = append_assoc text (lines_text (map f xs)) (line_text (f x)) ∙ ap (λ (t : List ℕ). text ++ t) (lines_snoc f xs x)

pub lines_text-append : (xs ys : List (List Cell)) → lines_text (xs ++ ys) ≡ lines_text xs ++ lines_text ys
lines_text-append xs ys = flat_map-append line_text xs ys

blocks_snoc : {X : Type 0} (f : X → List (List Cell)) (xs : List X) (x : X)
    → lines_text (flat_map f xs) ++ lines_text (f x) ≡ lines_text (flat_map f (xs ++ x ∷ []))
blocks_snoc f [] x = ap lines_text (sym (append-nil (f x)))
blocks_snoc f (y ∷ ys) x =
    ap (λ (t : List ℕ). t ++ lines_text (f x)) (lines_text-append (f y) (flat_map f ys))
    ∙ append_assoc (lines_text (f y)) (lines_text (flat_map f ys)) (lines_text (f x))
    ∙ ap (λ (t : List ℕ). lines_text (f y) ++ t) (blocks_snoc f ys x)
    ∙ sym (lines_text-append (f y) (flat_map f (ys ++ x ∷ [])))

-- the lines of one item more
pub more_blocks : {X : Type 0} (f : X → List (List Cell)) (text : List ℕ) (xs : List X) (x : X)
    → (text ++ lines_text (flat_map f xs)) ++ lines_text (f x) ≡ text ++ lines_text (flat_map f (xs ++ x ∷ []))
more_blocks f text xs x =
    append_assoc text (lines_text (flat_map f xs)) (lines_text (f x)) ∙ ap (λ (t : List ℕ). text ++ t) (blocks_snoc f xs x)

-- lines behind others, a line before them, and a line behind them
step : (text : List ℕ) (xs ys : List (List Cell)) → (text ++ lines_text xs) ++ lines_text ys ≡ text ++ lines_text (xs ++ ys)
step text xs ys = append_assoc text (lines_text xs) (lines_text ys) ∙ ap (λ (t : List ℕ). text ++ t) (sym (lines_text-append xs ys))

pub head : (text : List ℕ) (line : List Cell) (lines : List (List Cell)) → (text ++ line_text line) ++ lines_text lines ≡ text ++ lines_text (line ∷ lines)
head text line lines = append_assoc text (line_text line) (lines_text lines)

-- a line that is an atom, and lines behind it
pub head_word : (old a b name : List ℕ) (line : List Cell) (lines : List (List Cell))
    → a ≡ old ++ line_text (atom name) → atom name ≡ line → b ≡ a ++ lines_text lines → b ≡ old ++ lines_text (line ∷ lines)
head_word old a b name line lines p e q =
    q ∙ ap (λ (t : List ℕ). t ++ lines_text lines) (p ∙ ap (λ (cells : List Cell). old ++ line_text cells) e) ∙ head old line lines

last : (text : List ℕ) (lines : List (List Cell)) (line : List Cell) → (text ++ lines_text lines) ++ line_text line ≡ text ++ lines_text (lines ++ line ∷ [])
last text lines line =
    ap (λ (t : List ℕ). (text ++ lines_text lines) ++ t) (sym (append-nil (line_text line))) ∙ step text lines (line ∷ [])

-- the lines of an engine, one after another
pub engine_text : (old a b c : List ℕ) (first : List Cell) (lines : List (List Cell)) (end : List Cell)
    → a ≡ old ++ line_text first → b ≡ a ++ lines_text lines → c ≡ b ++ line_text end → c ≡ old ++ lines_text (first ∷ lines ++ end ∷ [])
engine_text old a b c first lines end p q r =
    r ∙ ap (λ (t : List ℕ). t ++ line_text end) (q ∙ ap (λ (t : List ℕ). t ++ lines_text lines) p ∙ head old first lines) ∙ last old (first ∷ lines) end

-- the lines of a log, one after another
pub outcome_text : (old a b c d e name : List ℕ) (first : List Cell) (objects port engines : List (List Cell)) (end : List Cell)
    → a ≡ old ++ line_text first → b ≡ a ++ lines_text objects → c ≡ b ++ lines_text port → d ≡ c ++ lines_text engines → e ≡ d ++ line_text (atom name) → atom name ≡ end
    → e ≡ old ++ lines_text (first ∷ objects ++ port ++ engines ++ end ∷ [])
outcome_text old a b c d e name first objects port engines end p q r s t n =
    t
    ∙ ap (λ (cells : List Cell). d ++ line_text cells) n
    ∙ ap
    (λ (text : List ℕ). text ++ line_text end)
    (s
    ∙ ap
    (λ (text : List ℕ). text ++ lines_text engines)
    (r ∙ ap (λ (text : List ℕ). text ++ lines_text port) (q ∙ ap (λ (text : List ℕ). text ++ lines_text objects) p ∙ head old first objects) ∙ step old (first ∷ objects) port)
    ∙ step old (first ∷ objects ++ port) engines)
    ∙ last old (first ∷ objects ++ port ++ engines) end

-- a line by its term's text
pub put_line : (old text a b : List ℕ) (ops : Ops) (cells term : List Cell)
    → a ≡ old ++ text → b ≡ a ++ 46 ∷ 10 ∷ [] → text ≡ text_of quoting ops term → ops ≡ standard → term ≡ cells → b ≡ old ++ line_text cells
unfolding line_text
put_line old text a b ops cells term p q t o e =
    q
    ∙ ap (λ (x : List ℕ). x ++ 46 ∷ 10 ∷ []) (p ∙ ap (λ (x : List ℕ). old ++ x) (t ∙ (λ i. text_of quoting (o i) (e i))))
    ∙ append_assoc old (text_of quoting standard cells) (46 ∷ 10 ∷ [])
