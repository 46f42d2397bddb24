-- Walks along terms with a stack of places.
use Rattle.std.proofs.Common.{◌≡◌, ℕ, zero, suc, ◌+◌, ◌-◌, ◌<◌, ◌≤◌, true, List, [], ◌∷◌, ◌++◌, length, take, drop, get_or, refl, sym, ◌∙◌, ap, subst, append_assoc, append-nil, arith, length-append, length-drop}
use Rattle.std.specs.Prelude.{cond, not, Ok, Err}
use Rattle.std.specs.List.{flat_map}
use Rattle.std.proofs.lemmas.Bool.{false≢true}
use Rattle.std.proofs.lemmas.List.{get_or-drop}
use Rattle.std.proofs.lemmas.List.Concat.{flat_map-append}
use Rattle.std.proofs.Math.Seq.{take-suc}
use Rattle.cp_term.specs.declared.cell.Cell.{Cell}
use Rattle.cp_term.specs.declared.cell.Cell.TheVariants.{Int, Func, Atom as AtomCell}
use Rattle.cp_term.specs.Preorder.{is_terms}
use Rattle.cp_term.specs.Numbering.{renamed, place, seen_after, canon_from, canon, is_numbered_from, is_variable}
use Rattle.cp_term.specs.TermOf.{term_of}
use Rattle.cp_term.specs.declared.term.TermError.TheVariants.{NotOneTerm, BadNumbering}
use Rattle.cp_term.specs.Substitution.{apply}
use Rattle.cp_term.proofs.lemmas.SubstitutionLaws.{apply-append, apply-nil, apply-Int, apply-Atom, apply-Func}
use Rattle.cp_term.proofs.lemmas.NumberingLaws.{length-canon_from, canon-IsNumbered}
use Rattle.cp_heap.specs.declared.word.Word.{Word}
use Rattle.cp_heap.specs.declared.word.Word.TheVariants.{Variable, Integer, Atom, Compound}
use Rattle.cp_heap.specs.State.{State, term, substitution, IsEnd, instance_at, is_value}
use Rattle.cp_heap.specs.Layout.{word_term, IsPlaced}
use Rattle.cp_heap.specs.Walk.{waiting, AreLive, places_from, is_word_of, is_free_word, first_cell, argument_places}
use Rattle.cp_heap.proofs.TrailLaws.{unbound}

-- a stack in two parts
pub waiting-append : (h : State) (xs ys : List ℕ) → waiting h (xs ++ ys) ≡ waiting h ys ++ waiting h xs
waiting-append h [] ys = sym (append-nil (waiting h ys))
waiting-append h (x ∷ xs) ys = ap (λ cs. cs ++ instance_at h x) (waiting-append h xs ys) ∙ append_assoc (waiting h ys) (waiting h xs) (instance_at h x)

pub live-append : (h : State) (xs ys : List ℕ) → AreLive h xs → AreLive h ys → AreLive h (xs ++ ys)
live-append h [] ys a b = b
live-append h (x ∷ xs) ys a b = (a.0, live-append h xs ys a.1 b)

pub live-parts : (h : State) (xs ys : List ℕ) → AreLive h (xs ++ ys) → AreLive h xs × AreLive h ys
live-parts h [] ys ok = (tt, ok)
live-parts h (x ∷ xs) ys ok = let rest = live-parts h xs ys ok.1 in ((ok.0, rest.0), rest.1)

-- the top of a stack
pub top_live : (h : State) (stack rest : List ℕ) (at : ℕ) → stack ≡ rest ++ at ∷ [] → AreLive h stack → AreLive h rest × (at < length h.terms)
top_live h stack rest at top ok = let both = live-parts h rest (at ∷ []) (subst (AreLive h) top ok) in (both.0, both.1.0)

pub top_waiting : (h : State) (stack rest : List ℕ) (at : ℕ) → stack ≡ rest ++ at ∷ [] → waiting h stack ≡ instance_at h at ++ waiting h rest
top_waiting h stack rest at top = ap (waiting h) top ∙ waiting-append h rest (at ∷ [])

-- the arguments of a compound
pub live-places : (h : State) (first k : ℕ) → first + k ≤ length h.terms → AreLive h (places_from first k)
live-places h first zero le = tt
live-places h first (suc k) le = (omega arith, live-places h first k (omega arith))

pub waiting-places : (h : State) (first k : ℕ) → first + k ≤ length h.terms → waiting h (places_from first k) ≡ apply (substitution h) (flat_map (λ t. t) (take k (drop first h.terms)))
waiting-places h first zero le = sym (apply-nil (substitution h))
waiting-places h first (suc k) le =
    let ts = take k (drop first h.terms) in
    let t = term h (first + k) in
    let one : take (suc k) (drop first h.terms) ≡ ts ++ t ∷ [] =
    take-suc (drop first h.terms) k [] (simp length-drop (omega arith)) ∙ ap (λ u. ts ++ u ∷ []) (get_or-drop first h.terms k []) in
    let joined : flat_map (λ u. u) (take (suc k) (drop first h.terms)) ≡ flat_map (λ u. u) ts ++ t =
    ap (flat_map (λ u. u)) one ∙ flat_map-append (λ u. u) ts (t ∷ []) ∙ ap (λ cs. flat_map (λ u. u) ts ++ cs) (append-nil t) in
    ap (λ cs. cs ++ instance_at h (first + k)) (waiting-places h first k (omega arith))
    ∙ sym (apply-append (substitution h) (flat_map (λ u. u) ts) t)
    ∙ ap (apply (substitution h)) (sym joined)

pub places_step : (first left : ℕ) → 0 < left → places_from first left ≡ (first + (left - 1)) ∷ places_from first (left - 1)
places_step first zero some = absurd (omega arith)
places_step first (suc k) some = let e : k ≡ suc k - 1 = omega arith in ap (λ n. (first + n) ∷ places_from first n) e

-- what stands at the end of a chain begins an instance
pub end_instance : (s : State) (n m at end : ℕ) (w : Word) → term s end ≡ word_term s.names s.terms w → IsEnd s end → IsPlaced n m at w → at ≤ length s.terms → instance_at s end ≡ first_cell s.names w ∷ waiting s (argument_places w)
end_instance s n m at end (Variable v) e is_end placed le = ap (apply (substitution s)) e ∙ unbound s.terms s.trail v (is_end v e)
end_instance s n m at end (Integer i) e is_end placed le = ap (apply (substitution s)) e ∙ apply-Int (substitution s) i [] ∙ ap (λ cs. Int i ∷ cs) (apply-nil (substitution s))
end_instance s n m at end (Atom a) e is_end placed le =
    ap (apply (substitution s)) e ∙ apply-Atom (substitution s) (get_or s.names a []) [] ∙ ap (λ cs. AtomCell (get_or s.names a []) ∷ cs) (apply-nil (substitution s))
end_instance s n m at end (Compound k f first) e is_end placed le =
    ap (apply (substitution s)) e ∙ apply-Func (substitution s) (get_or s.names f []) k (flat_map (λ t. t) (take k (drop first s.terms)))
    ∙ ap (λ cs. Func (get_or s.names f []) k ∷ cs) (sym (waiting-places s first k (omega arith)))

pub argument_live : (s : State) (n m at : ℕ) (w : Word) → IsPlaced n m at w → at ≤ length s.terms → AreLive s (argument_places w)
argument_live s n m at (Variable v) placed le = tt
argument_live s n m at (Integer i) placed le = tt
argument_live s n m at (Atom a) placed le = tt
argument_live s n m at (Compound k f first) placed le = live-places s first k (omega arith)

-- what waits begins with the first cell of the term at the top
pub popped : (s : State) (stack rest : List ℕ) (at end : ℕ) (w : Word) → stack ≡ rest ++ at ∷ [] → instance_at s end ≡ instance_at s at → instance_at s end ≡ first_cell s.names w ∷ waiting s (argument_places w)
    → waiting s stack ≡ first_cell s.names w ∷ waiting s (rest ++ argument_places w)
popped s stack rest at end w top same shown =
    top_waiting s stack rest at top
    ∙ ap (λ cs. cs ++ waiting s rest) (sym same ∙ shown)
    ∙ ap (λ cs. first_cell s.names w ∷ cs) (sym (waiting-append s rest (argument_places w)))

pub is_word : (names : List (List ℕ)) (v : ℕ) (w : Word) → is_word_of v w ≡ is_variable v (first_cell names w)
is_word names v (Variable u) = refl
is_word names v (Integer i) = refl
is_word names v (Atom a) = refl
is_word names v (Compound k f first) = refl

pub is_free : (names : List (List ℕ)) (w : Word) → is_value (first_cell names w) ≡ not (is_free_word w)
is_free names (Variable u) = refl
is_free names (Integer i) = refl
is_free names (Atom a) = refl
is_free names (Compound k f first) = refl

-- one cell more is put out
pub put_one : (s : State) (old new : List Cell) (seen seen2 stack stack2 : List ℕ) (at end : ℕ) (w : Word) (c : Cell) → new ≡ old ++ c ∷ [] → c ≡ renamed (place seen) (first_cell s.names w)
    → seen2 ≡ seen_after seen (first_cell s.names w) → stack2 ≡ stack ++ argument_places w → instance_at s end ≡ instance_at s at
    → instance_at s end ≡ first_cell s.names w ∷ waiting s (argument_places w) → new ++ canon_from seen2 (waiting s stack2) ≡ old ++ canon_from seen (instance_at s at ++ waiting s stack)
put_one s old new seen seen2 stack stack2 at end w c pushed cell seen_is top same shown =
    let d = first_cell s.names w in
    let below : waiting s stack2 ≡ waiting s (argument_places w) ++ waiting s stack = ap (waiting s) top ∙ waiting-append s stack (argument_places w) in
    (λ i. pushed i ++ canon_from (seen_is i) (below i))
    ∙ append_assoc old (c ∷ []) (canon_from (seen_after seen d) (waiting s (argument_places w) ++ waiting s stack))
    ∙ (λ i. old ++ cell i ∷ canon_from (seen_after seen d) (waiting s (argument_places w) ++ waiting s stack))
    ∙ ap (λ cs. old ++ canon_from seen (cs ++ waiting s stack)) (sym shown ∙ same)

-- a term is not empty
pub some_cells : (t : List Cell) → is_terms 1 t ≡ true → 0 < length t
some_cells [] one = absurd (false≢true one)
some_cells (c ∷ cells) one = omega arith

-- more cells wait than there is room for
pub longer : (most : ℕ) (cells waits t : List Cell) (seen : List ℕ) → cells ++ canon_from seen waits ≡ canon t → most ≤ length cells → 0 < length waits → most < length t
longer most cells waits t seen e full some =
    let n = ap length e in
    omega (arith, length-append cells (canon_from seen waits), length-canon_from seen waits, length-canon_from [] t)

-- nothing waits any more
pub all_out : (s : State) (cells : List Cell) (seen stack : List ℕ) (t : List Cell) → cells ++ canon_from seen (waiting s stack) ≡ canon t → stack ≡ [] → cells ≡ canon t
all_out s cells seen stack t e empty = sym (append-nil cells) ∙ ap (λ ats. cells ++ canon_from seen (waiting s ats)) (sym empty) ∙ e

-- the cells are a term
pub is_numbered : (cells t : List Cell) → cells ≡ canon t → is_numbered_from 0 cells ≡ true
is_numbered cells t e = subst (λ cs. is_numbered_from 0 cs ≡ true) (sym e) (canon-IsNumbered t)

pub as_long : (cells t : List Cell) → cells ≡ canon t → length cells ≡ length t
as_long cells t e = ap length e ∙ length-canon_from [] t

-- the same without renaming
pub put_first : (s : State) (old new : List Cell) (stack stack2 : List ℕ) (at end : ℕ) (w : Word) (c : Cell) → new ≡ old ++ c ∷ [] → c ≡ first_cell s.names w → stack2 ≡ stack ++ argument_places w
    → instance_at s end ≡ instance_at s at → instance_at s end ≡ first_cell s.names w ∷ waiting s (argument_places w) → new ++ waiting s stack2 ≡ old ++ (instance_at s at ++ waiting s stack)
put_first s old new stack stack2 at end w c pushed cell top same shown =
    let below : waiting s stack2 ≡ waiting s (argument_places w) ++ waiting s stack = ap (waiting s) top ∙ waiting-append s stack (argument_places w) in
    (λ i. pushed i ++ below i)
    ∙ append_assoc old (c ∷ []) (waiting s (argument_places w) ++ waiting s stack)
    ∙ (λ i. old ++ cell i ∷ (waiting s (argument_places w) ++ waiting s stack))
    ∙ ap (λ cs. old ++ (cs ++ waiting s stack)) (sym shown ∙ same)

pub all_put : (s : State) (cells : List Cell) (stack : List ℕ) (t : List Cell) → cells ++ waiting s stack ≡ t → stack ≡ [] → cells ≡ t
all_put s cells stack t e empty = sym (append-nil cells) ∙ ap (λ ats. cells ++ waiting s ats) (sym empty) ∙ e
