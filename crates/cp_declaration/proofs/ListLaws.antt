-- What is read as a list is just the list of what is read.
use Rattle.std.proofs.Common.{◌≡◌, ◌↔◌, Bool, true, List, [], ◌∷◌, ◌++◌, map, refl, ◌∙◌, ap, subst, if◌then◌else◌}
use Rattle.std.specs.Prelude.{ℕ, Some, None, codes}
use Rattle.std.proofs.lemmas.Bool.{lt-ltb}
use Rattle.cp_term.specs.declared.cell.Cell.{Cell}
use Rattle.cp_term.specs.declared.cell.Cell.TheVariants.{Func}
use Rattle.cp_declaration.specs.declared.indicator.Indicator.{Indicator}
use Rattle.cp_declaration.specs.Lists.{before, at_end, is_dot, indicator, indicators, name, names}
use Rattle.cp_declaration.specs.Grammar.{indicator_cells, name_cells, list_cells, HaveArities}
use Rattle.cp_declaration.proofs.Cases.{if-some, before-some, is_dot-true, indicator-some, name-some, at_end-some}

-- the cells are the list of these predicates
IsList : List Cell → List Indicator → Type 0
IsList cells ps = HaveArities ps × (cells ≡ list_cells (map indicator_cells ps))

by_end : (cells : List Cell) (ps : List Indicator) → at_end cells ≡ Some ps → IsList cells ps
unfolding IsList
by_end cells ps h =
    let parts = at_end-some cells ps h in
    subst (λ qs. HaveArities qs × (cells ≡ list_cells (map indicator_cells qs))) parts.0 (tt, parts.1)

one_more : (dot c d e : Cell) (rest : List Cell) (p : Indicator) (ps : List Indicator) → is_dot dot ≡ true → indicator c d e ≡ Some p → IsList rest ps → IsList (dot ∷ c ∷ d ∷ e ∷ rest) (p ∷ ps)
unfolding IsList
one_more dot c d e rest p ps hd hp i =
    let one = indicator-some c d e p hp in (
      (one.0, i.0),
      ap (λ x. x ∷ c ∷ d ∷ e ∷ rest) (is_dot-true dot hd)
          ∙ ap (λ (t : List Cell). Func (codes ".") 2 ∷ t ++ rest) one.1
          ∙ ap (λ cells. Func (codes ".") 2 ∷ indicator_cells p ++ cells) i.1,
    )

sound : (cells : List Cell) (ps : List Indicator) → indicators cells ≡ Some ps → IsList cells ps
sound [] ps h = by_end [] ps h
sound (a ∷ []) ps h = by_end (a ∷ []) ps h
sound (a ∷ b ∷ []) ps h = by_end (a ∷ b ∷ []) ps h
sound (a ∷ b ∷ c ∷ []) ps h = by_end (a ∷ b ∷ c ∷ []) ps h
sound (dot ∷ c ∷ d ∷ e ∷ rest) ps h =
    let tested = if-some (is_dot dot) (before (indicator c d e) (indicators rest)) ps h in
    let parts = before-some (indicator c d e) (indicators rest) ps tested.1 in
    subst (IsList (dot ∷ c ∷ d ∷ e ∷ rest)) parts.4 (one_more dot c d e rest parts.0 parts.1 tested.0 parts.2 (sound rest parts.1 parts.3))

complete : (ps : List Indicator) → HaveArities ps → indicators (list_cells (map indicator_cells ps)) ≡ Some ps
complete [] h = refl
complete (p ∷ ps) h =
    let rest = indicators (list_cells (map indicator_cells ps)) in
    ap (λ (b : Bool). before (if b then Some p else None) rest) (lt-ltb p.arity 256 h.0) ∙ ap (before (Some p)) (complete ps h.1)

pub lists-exact : (cells : List Cell) (ps : List Indicator) → (indicators cells ≡ Some ps) ↔ (HaveArities ps × (cells ≡ list_cells (map indicator_cells ps)))
unfolding IsList
lists-exact cells ps = (sound cells ps, λ i. ap indicators i.1 ∙ complete ps i.0)

-- ---- names

names_by_end : (cells : List Cell) (ns : List (List ℕ)) → at_end cells ≡ Some ns → cells ≡ list_cells (map name_cells ns)
names_by_end cells ns h =
    let parts = at_end-some cells ns h in
    subst (λ ms. cells ≡ list_cells (map name_cells ms)) parts.0 parts.1

names-sound : (cells : List Cell) (ns : List (List ℕ)) → names cells ≡ Some ns → cells ≡ list_cells (map name_cells ns)
names-sound [] ns h = names_by_end [] ns h
names-sound (a ∷ []) ns h = names_by_end (a ∷ []) ns h
names-sound (dot ∷ c ∷ rest) ns h =
    let tested = if-some (is_dot dot) (before (name c) (names rest)) ns h in
    let parts = before-some (name c) (names rest) ns tested.1 in
    subst (λ ms. dot ∷ c ∷ rest ≡ list_cells (map name_cells ms)) parts.4
    (ap (λ x. x ∷ c ∷ rest) (is_dot-true dot tested.0)
    ∙ ap (λ (t : List Cell). Func (codes ".") 2 ∷ t ++ rest) (name-some c parts.0 parts.2)
    ∙ ap (λ cells. Func (codes ".") 2 ∷ name_cells parts.0 ++ cells) (names-sound rest parts.1 parts.3))

names-complete : (ns : List (List ℕ)) → names (list_cells (map name_cells ns)) ≡ Some ns
names-complete [] = refl
names-complete (a ∷ ns) = ap (before (Some a)) (names-complete ns)

pub names-exact : (cells : List Cell) (ns : List (List ℕ)) → (names cells ≡ Some ns) ↔ (cells ≡ list_cells (map name_cells ns))
names-exact cells ns = (names-sound cells ns, λ e. ap names e ∙ names-complete ns)
