-- A text that is cut character by character.
use Rattle.std.proofs.Common.{◌≡◌, ℕ, ◌+◌, ◌<◌, ◌≤◌, Bool, true, false, cond, List, [], ◌∷◌, ◌++◌, map, length, refl, sym, ap, subst, ◌∙◌, append_assoc}
use Rattle.std.proofs.lemmas.List.{append-nil, map-append}
use Rattle.std.proofs.lemmas.Grind.{flat_map-append}
use Rattle.std.proofs.lemmas.Bool.{le-leb, lt-leb}
use Rattle.std.specs.Prelude.{encode_utf8}
use Rattle.std.specs.Char.{len_utf8}
use Rattle.std.specs.Str.{is_utf8, IsUtf8}
use Rattle.std.proofs.lemmas.Str.{IsUtf8-from_is_utf8, is_utf8-from_IsUtf8}
use Rattle.cp_term.specs.declared.cell.Cell.{Cell}
use Rattle.cp_log_text.specs.declared.line.Line.{Line}
use Rattle.cp_log_text.specs.Line.{functor, word, atom, number, element_parts, list_parts}
use Rattle.cp_log_text.specs.Port.{fits, cut_from, piece_parts, bytes_parts, cut}
use Rattle.cp_log_text.specs.Building.{Gains, ended_by, kept_before}
use Rattle.cp_log_text.proofs.Parts.{both, nothing}

-- the piece that a character is then in
abbrev begun_with : List ℕ → ℕ → List ℕ
begun_with piece c = kept_before piece c ++ encode_utf8 c

-- the pieces that have ended after these characters, and the one that is begun
abbrev pub ended : List ℕ → List ℕ → List (List ℕ)
ended piece [] = []
ended piece (c ∷ cs) = ended_by piece c ++ ended (kept_before piece c ++ encode_utf8 c) cs

abbrev pub begun : List ℕ → List ℕ → List ℕ
begun piece [] = piece
begun piece (c ∷ cs) = begun (kept_before piece c ++ encode_utf8 c) cs

ended-more : (piece cs : List ℕ) (c : ℕ) → ended piece cs ++ ended_by (begun piece cs) c ≡ ended piece (cs ++ c ∷ [])
ended-more piece [] c = sym (append-nil (ended_by piece c))
ended-more piece (d ∷ cs) c =
    append_assoc (ended_by piece d) (ended (begun_with piece d) cs) (ended_by (begun (begun_with piece d) cs) c)
    ∙ ap (λ (ps : List (List ℕ)). ended_by piece d ++ ps) (ended-more (begun_with piece d) cs c)

pub begun-more : (piece cs : List ℕ) (c : ℕ) → kept_before (begun piece cs) c ++ encode_utf8 c ≡ begun piece (cs ++ c ∷ [])
begun-more piece [] c = refl
begun-more piece (d ∷ cs) c = begun-more (begun_with piece d) cs c

cut_by : (piece cs : List ℕ) (c : ℕ) (b : Bool)
    → ((piece : List ℕ) → cut_from piece cs ≡ ended piece cs ++ begun piece cs ∷ [])
    → cond b (cut_from (piece ++ encode_utf8 c) cs) (piece ∷ cut_from (encode_utf8 c) cs)
    ≡ (cond b [] (piece ∷ []) ++ ended (cond b piece [] ++ encode_utf8 c) cs) ++ begun (cond b piece [] ++ encode_utf8 c) cs ∷ []
cut_by piece cs c true h = h (piece ++ encode_utf8 c)
cut_by piece cs c false h = ap (λ (ps : List (List ℕ)). piece ∷ ps) (h (encode_utf8 c))

cut-is : (cs piece : List ℕ) → cut_from piece cs ≡ ended piece cs ++ begun piece cs ∷ []
cut-is [] piece = refl
cut-is (c ∷ cs) piece = cut_by piece cs c (fits (length piece + len_utf8 c)) (cut-is cs)

-- ---- the parts of a line

atoms-append : (ps qs : List (List ℕ)) → element_parts (map atom ps) ++ element_parts (map atom qs) ≡ element_parts (map atom (ps ++ qs))
atoms-append ps qs =
    sym (flat_map-append (λ (t : List Cell). functor "." 2 ∷ t ∷ []) (map atom ps) (map atom qs))
    ∙ ap element_parts (sym (map-append atom ps qs))

-- one character more
pub more_characters : {a b c : Line} (cs : List ℕ) (piece : List ℕ) (character : ℕ)
    → piece ≡ begun [] cs → Gains a b (element_parts (map atom (ended [] cs))) → Gains b c (element_parts (map atom (ended_by piece character)))
    → Gains a c (element_parts (map atom (ended [] (cs ++ character ∷ []))))
more_characters {a} {b} {c} cs piece character e g h =
    subst
    (λ (ps : List (List Cell)). Gains a c ps)
    (atoms-append (ended [] cs) (ended_by piece character)
    ∙ ap (λ (ps : List (List ℕ)). element_parts (map atom ps)) (ap (λ (p : List ℕ). ended [] cs ++ ended_by p character) e ∙ ended-more [] cs character))
    (both g h)

pub more_begun : (cs piece new : List ℕ) (character : ℕ) → piece ≡ begun [] cs → new ≡ kept_before piece character ++ encode_utf8 character → new ≡ begun [] (cs ++ character ∷ [])
more_begun cs piece new character e n = n ∙ ap (λ (p : List ℕ). kept_before p character ++ encode_utf8 character) e ∙ begun-more [] cs character

-- all characters, and the last piece
pub cut_whole : {a b c d : Line} (cs : List ℕ) (piece : List ℕ)
    → piece ≡ begun [] cs → Gains a b (element_parts (map atom (ended [] cs))) → Gains b c (functor "." 2 ∷ atom piece ∷ []) → Gains c d (word "[]" ∷ [])
    → Gains a d (list_parts (map atom (cut_from [] cs)))
cut_whole {a} {b} {c} {d} cs piece e g h k =
    subst
    (λ (ps : List (List Cell)). Gains a d (ps ++ word "[]" ∷ []))
    (atoms-append (ended [] cs) (piece ∷ [])
    ∙ ap (λ (ps : List (List ℕ)). element_parts (map atom ps)) (ap (λ (p : List ℕ). ended [] cs ++ p ∷ []) e ∙ sym (cut-is cs [])))
    (both (both g h) k)

-- ---- whether a character has room

pub kept : (a : Line) (piece : List ℕ) (c : ℕ) → length piece + len_utf8 c ≤ 1024 → Gains a a (element_parts (map atom (ended_by piece c)))
kept a piece c h =
    subst (λ (b : Bool). Gains a a (element_parts (map atom (cond b [] (piece ∷ []))))) (sym (le-leb (length piece + len_utf8 c) 1024 h)) (nothing a)

pub kept_piece : (piece : List ℕ) (c : ℕ) → length piece + len_utf8 c ≤ 1024 → piece ≡ kept_before piece c
kept_piece piece c h = ap (λ (b : Bool). cond b piece []) (sym (le-leb (length piece + len_utf8 c) 1024 h))

pub ends : {a b : Line} (piece : List ℕ) (c : ℕ) → 1024 < length piece + len_utf8 c → Gains a b (functor "." 2 ∷ atom piece ∷ []) → Gains a b (element_parts (map atom (ended_by piece c)))
ends {a} {b} piece c h g =
    subst (λ (t : Bool). Gains a b (element_parts (map atom (cond t [] (piece ∷ []))))) (sym (lt-leb (length piece + len_utf8 c) 1024 h)) g

pub ends_piece : (piece new : List ℕ) (c : ℕ) → 1024 < length piece + len_utf8 c → new ≡ [] → new ≡ kept_before piece c
ends_piece piece new c h e = e ∙ ap (λ (b : Bool). cond b piece []) (sym (lt-leb (length piece + len_utf8 c) 1024 h))

-- ---- whether a text fits into an atom

pub one_atom : {a b : Line} (text : List ℕ) → length text ≤ 1024 → Gains a b (atom text ∷ []) → Gains a b (piece_parts text)
one_atom {a} {b} text h g =
    subst (λ (t : Bool). Gains a b (cond t (atom text ∷ []) (list_parts (map atom (cut text))))) (sym (le-leb (length text) 1024 h)) g

pub several_atoms : {a b : Line} (text : List ℕ) → 1024 < length text → Gains a b (list_parts (map atom (cut text))) → Gains a b (piece_parts text)
several_atoms {a} {b} text h g =
    subst (λ (t : Bool). Gains a b (cond t (atom text ∷ []) (list_parts (map atom (cut text))))) (sym (lt-leb (length text) 1024 h)) g

-- ---- whether bytes are a text

pub a_text : {a b : Line} (bytes : List ℕ) → IsUtf8 bytes → Gains a b (piece_parts bytes) → Gains a b (bytes_parts bytes)
a_text {a} {b} bytes h g =
    subst (λ (t : Bool). Gains a b (cond t (piece_parts bytes) (list_parts (map number bytes)))) (sym (is_utf8-from_IsUtf8 bytes h)) g

by_test : {X : Type 0} (b : Bool) → (b ≡ true → X) → (X → ⊥) → b ≡ false
by_test true f h = absurd (h (f refl))
by_test false f h = refl

no_test : (bytes : List ℕ) → (IsUtf8 bytes → ⊥) → is_utf8 bytes ≡ false
no_test bytes h = by_test (is_utf8 bytes) (IsUtf8-from_is_utf8 bytes) h

pub no_text : {a b : Line} (bytes : List ℕ) → (IsUtf8 bytes → ⊥) → Gains a b (list_parts (map number bytes)) → Gains a b (bytes_parts bytes)
no_text {a} {b} bytes h g =
    subst (λ (t : Bool). Gains a b (cond t (piece_parts bytes) (list_parts (map number bytes)))) (sym (no_test bytes h)) g
