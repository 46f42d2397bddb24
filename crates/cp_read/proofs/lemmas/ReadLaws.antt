-- From a run to the next clause.
use Rattle.std.proofs.Common.{◌≡◌, ◌≤◌, ◌-◌, ℕ, Bool, true, false, List, [], ◌∷◌, ◌++◌, length, refl, sym, ◌∙◌, ap, subst, arith}
use Rattle.std.proofs.lemmas.List.{drop-drop, length-drop}
use Rattle.std.specs.Prelude.{◌==◌, if◌then◌else◌, drop, Result, Ok, Err, Option, Some}
use Rattle.cp_term.specs.declared.cell.Cell.{Cell}
use Rattle.cp_lex.specs.declared.token.Token.{Token}
use Rattle.cp_ops.specs.Operators.{Ops}
use Rattle.cp_read.specs.declared.bounds.Bounds.{Bounds}
use Rattle.cp_read.specs.declared.error.SyntaxWhy.{SyntaxWhy}
use Rattle.cp_read.specs.declared.error.SyntaxWhy.TheVariants.{TooLarge}
use Rattle.cp_read.specs.declared.error.ReadError.{ReadError}
use Rattle.cp_read.specs.declared.error.ReadError.TheVariants.{Syntax, NoMemory}
use Rattle.cp_read.specs.Lexemes.{Lexeme, lexemes}
use Rattle.cp_read.specs.Grammar.{Stop, stopped, Read, primary, behind_end, any_term, clause}
use Rattle.cp_read.specs.Clauses.{Clause, Fault, line_of, last_line, fault_line, fits, clause_by, clause_of, next_clause}
use Rattle.cp_read.specs.Drafts.{cells_of}
use Rattle.cp_read.specs.Progress.{Progress}
use Rattle.cp_read.specs.Reading.{Reading, ReadsNext, Finds, Finishes, refusal_of}
use Rattle.cp_read.specs.declared.frame.Stop as frame
use Rattle.cp_read.specs.declared.frame.Stop.TheVariants as stops
use Rattle.cp_read.specs.Stands.{Gives}
use Rattle.cp_read.proofs.lemmas.Shrinks.{Leaves, Leaves-bind, Leaves-ended, fewer_end}
use Rattle.cp_read.proofs.lemmas.MachineLaws.{any_takes}
use Rattle.cp_read.proofs.lemmas.CloseLaws.{lexemes-length}

clause-leaves : (ops : Ops) (ls : List Lexeme) → Leaves (length ls) (clause ops ls)
clause-leaves ops ls = Leaves-bind (length ls - 1) (length ls) (any_term ops 1200 ls) _ (any_takes ops 1200 ls) (λ x h. Leaves-ended (length ls) ops (behind_end (x.rest)) (x.cells) (x.rest) (omega (arith, h)) (fewer_end (x.rest)))

leaves-is : (n : ℕ) (r : Result Read Stop) (cells : List Cell) (ls : List Lexeme) → r ≡ primary cells ls → Leaves n r → length ls ≤ n
leaves-is n r cells ls e h = subst (λ (x : Result Read Stop). Leaves n x) e h

clause-is : (bounds : Bounds) (ops : Ops) (ts us : List Token) (list : List (List ℕ)) (cells : List Cell) → clause ops (lexemes [] ts) ≡ primary cells (lexemes list us) →
    clause_of bounds ops ts ≡ (if fits bounds cells then Ok (record { cells = cells; line = line_of ts; rest = drop (length ts - length us) ts }) else Err (record { line = line_of ts; why = TooLarge }))
clause-is bounds ops ts us list cells e =
    ap (clause_by bounds ts) e
    ∙ ap (λ (n : ℕ). let y : Result Clause Fault = (if fits bounds cells then Ok (record { cells = cells; line = line_of ts; rest = drop (length ts - n) ts }) else Err (record { line = line_of ts; why = TooLarge })) in y) (lexemes-length list us)

pub finds : (bounds : Bounds) (ops : Ops) (ts us : List Token) (list : List (List ℕ)) (cells : List Cell) (result : Result (List Cell × ℕ) ReadError) → clause ops (lexemes [] ts) ≡ primary cells (lexemes list us) →
    Finishes result cells (length us) ts bounds → Finds result ts bounds ops
finds bounds ops ts us list cells (Ok found) e (same, left, fit) =
    let within : length (lexemes list us) ≤ length (lexemes [] ts) = leaves-is (length (lexemes [] ts)) (clause ops (lexemes [] ts)) cells (lexemes list us) e (clause-leaves ops (lexemes [] ts)) in (
      omega (arith, within, left, lexemes-length list us, lexemes-length [] ts),
      clause-is bounds ops ts us list cells e
          ∙ ap (λ (b : Bool). let y : Result Clause Fault = (if b then Ok (record { cells = cells; line = line_of ts; rest = drop (length ts - length us) ts }) else Err (record { line = line_of ts; why = TooLarge })) in y) fit
          ∙ ap (λ (c : List Cell). let y : Result Clause Fault = Ok (record { cells = c; line = line_of ts; rest = drop (length ts - length us) ts }) in y) (sym same)
          ∙ ap (λ (n : ℕ). let y : Result Clause Fault = Ok (record { cells = found.0; line = line_of ts; rest = drop (length ts - n) ts }) in y) (sym left),
    )
finds bounds ops ts us list cells (Err (Syntax line why)) e (at, because, large) =
    clause-is bounds ops ts us list cells e
    ∙ ap (λ (b : Bool). let y : Result Clause Fault = (if b then Ok (record { cells = cells; line = line_of ts; rest = drop (length ts - length us) ts }) else Err (record { line = line_of ts; why = TooLarge })) in y) large
    ∙ ap (λ (n : ℕ). let y : Result Clause Fault = Err (record { line = n; why = TooLarge }) in y) (sym at)
    ∙ ap (λ (w : SyntaxWhy). let y : Result Clause Fault = Err (record { line = line; why = w }) in y) (sym because)
finds bounds ops ts us list cells (Err NoMemory) e h = tt

pub faults : (bounds : Bounds) (ops : Ops) (ts us : List Token) (list : List (List ℕ)) (why : SyntaxWhy) → clause ops (lexemes [] ts) ≡ Err (stopped why (lexemes list us)) →
    clause_of bounds ops ts ≡ Err (record { line = fault_line ts (drop (length ts - length us) ts); why = why })
faults bounds ops ts us list why e =
    ap (clause_by bounds ts) e
    ∙ ap (λ (n : ℕ). let y : Result Clause Fault = Err (record { line = fault_line ts (drop (length ts - n) ts); why = why }) in y) (lexemes-length list us)

pub last_line-is : (ts : List Token) (t : Token) → last_line (ts ++ t ∷ []) ≡ t.line
last_line-is [] t = refl
last_line-is (u ∷ []) t = refl
last_line-is (u ∷ v ∷ ts) t = last_line-is (v ∷ ts) t

-- the next clause, where there is a token
pub next-is : (bounds : Bounds) (ops : Ops) (ts : List Token) (c : Clause) → (ts ≡ [] → ⊥) → clause_of bounds ops ts ≡ Ok c → next_clause bounds ops ts ≡ Ok (Some c)
next-is bounds ops [] c some e = absurd (some refl)
next-is bounds ops (t ∷ ts) c some e = ap (λ (r : Result Clause Fault). let y : Result (Option Clause) Fault = elim r [ Ok c ↦ Ok (Some c) | Err e ↦ Err e ] in y) e

pub next-fault : (bounds : Bounds) (ops : Ops) (ts : List Token) (f : Fault) → (ts ≡ [] → ⊥) → clause_of bounds ops ts ≡ Err f → next_clause bounds ops ts ≡ Err f
next-fault bounds ops [] f some e = absurd (some refl)
next-fault bounds ops (t ∷ ts) f some e = ap (λ (r : Result Clause Fault). let y : Result (Option Clause) Fault = elim r [ Ok c ↦ Ok (Some c) | Err e ↦ Err e ] in y) e

pub find-ok : (bounds : Bounds) (ops : Ops) (ts : List Token) (m r : Progress) (pieces : List (List Cell)) (left : ℕ) (result : Result (List Cell × ℕ) ReadError) →
    m.tokens ≡ ts → (list : List (List ℕ)) × (clause ops (lexemes [] m.tokens) ≡ primary (cells_of r.pieces) (lexemes list r.tokens)) → pieces ≡ r.pieces → left ≡ length r.tokens →
    Finishes result (cells_of pieces) left ts bounds → Finds result ts bounds ops
find-ok bounds ops ts m r pieces left result begins (list, e) same so_many h =
    finds bounds ops ts r.tokens list (cells_of r.pieces) result (subst (λ (us : List Token). clause ops (lexemes [] us) ≡ primary (cells_of r.pieces) (lexemes list r.tokens)) begins e)
    (subst (λ (n : ℕ). Finishes result (cells_of r.pieces) n ts bounds) so_many (subst (λ (ps : List (List Cell)). Finishes result (cells_of ps) left ts bounds) same h))

pub find-fault : (bounds : Bounds) (ops : Ops) (ts : List Token) (m r : Progress) (line left : ℕ) (why : SyntaxWhy) →
    m.tokens ≡ ts → (list : List (List ℕ)) × (clause ops (lexemes [] m.tokens) ≡ Err (stopped why (lexemes list r.tokens))) → left ≡ length r.tokens → line ≡ fault_line ts (drop (length ts - left) ts) →
    clause_of bounds ops ts ≡ Err (record { line = line; why = why })
find-fault bounds ops ts m r line left why begins (list, e) so_many at =
    faults bounds ops ts r.tokens list why (subst (λ (us : List Token). clause ops (lexemes [] us) ≡ Err (stopped why (lexemes list r.tokens))) begins e)
    ∙ ap (λ (n : ℕ). let y : Result Clause Fault = Err (record { line = n; why = why }) in y) (sym (at ∙ ap (λ (n : ℕ). fault_line ts (drop (length ts - n) ts)) so_many))

some_token : (ts : List Token) (b : Bool) → b ≡ (length ts == 0) → b ≡ false → ts ≡ [] → ⊥
some_token ts b e f none =
    let zero : (length ts == 0) ≡ true = ap (λ (us : List Token). length us == 0) none in
    let both : true ≡ false = sym zero ∙ sym e ∙ f in
    let none : ⊥ = cc in none

drop-rest : (tokens : List Token) (at left len : ℕ) (ts : List Token) → at ≤ length tokens → ts ≡ drop at tokens → left ≤ length ts → len ≡ length tokens → drop (length ts - left) ts ≡ drop (len - left) tokens
drop-rest tokens at left len ts within is fewer so_many =
    let size : length ts ≡ length tokens - at = ap (λ (l : List Token). length l) is ∙ length-drop at tokens in
    ap (λ (l : List Token). drop (length ts - left) l) is ∙ drop-drop (length ts - left) at tokens
    ∙ ap (λ (n : ℕ). drop n tokens) (omega (arith, size, fewer, within, so_many))

pub read-ok : (bounds : Bounds) (ops : Ops) (tokens : List Token) (at len line : ℕ) (ts : List Token) (b : Bool) (found : List Cell × ℕ) → at ≤ length tokens → ts ≡ drop at tokens → b ≡ (length ts == 0) → b ≡ false →
    Finds (Ok found) ts bounds ops → line ≡ line_of ts → len ≡ length tokens →
    next_clause bounds ops (drop at tokens) ≡ Ok (Some (record { cells = found.0; line = line; rest = drop (len - found.1) tokens }))
read-ok bounds ops tokens at len line ts b found within is e f (fewer, h) first so_many =
    subst (λ (us : List Token). next_clause bounds ops us ≡ Ok (Some (record { cells = found.0; line = line; rest = drop (len - found.1) tokens }))) is
    (next-is bounds ops ts _ (some_token ts b e f) (h
    ∙ ap (λ (n : ℕ). let y : Result Clause Fault = Ok (record { cells = found.0; line = n; rest = drop (length ts - found.1) ts }) in y) (sym first)
    ∙ ap (λ (us : List Token). let y : Result Clause Fault = Ok (record { cells = found.0; line = line; rest = us }) in y) (drop-rest tokens at (found.1) len ts within is fewer so_many)))

pub read-refusal : (ops : Ops) (old : Reading) (tokens : List Token) (at : ℕ) (ts : List Token) (b : Bool) (refusal : ReadError) → ts ≡ old.rest → b ≡ (length ts == 0) → b ≡ false →
    Finds (Err refusal) ts old.bounds ops → ReadsNext (Err refusal) old old ops
read-refusal ops old tokens at ts b (Syntax line why) is e f h =
    (subst (λ (us : List Token). next_clause old.bounds ops us ≡ Err (record { line = line; why = why })) is (next-fault old.bounds ops ts (record { line = line; why = why }) (some_token ts b e f) h), refl)
read-refusal ops old tokens at ts b NoMemory is e f h = tt

pub find-err : (bounds : Bounds) (ops : Ops) (ts : List Token) (m r : Progress) (left : ℕ) (stop : frame.Stop) (refusal : ReadError) →
    m.tokens ≡ ts → Gives ops m.tokens (Err stop) r → left ≡ length r.tokens → refusal ≡ refusal_of stop left ts → Finds (Err refusal) ts bounds ops
find-err bounds ops ts m r left (stops.Fault why) refusal begins h so_many is =
    subst (λ (e : ReadError). Finds (Err e) ts bounds ops) (sym is) (find-fault bounds ops ts m r (fault_line ts (drop (length ts - left) ts)) left why begins h so_many refl)
find-err bounds ops ts m r left stops.NoMemory refusal begins h so_many is = subst (λ (e : ReadError). Finds (Err e) ts bounds ops) (sym is) tt
