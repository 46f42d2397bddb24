-- The objects come out from behind their turnstiles, the last first.
use Rattle.std.proofs.Common.{◌≡◌, ◌≢◌, ℕ, zero, suc, ◌+◌, ◌-◌, ◌<◌, List, [], ◌∷◌, ◌++◌, append_assoc, append-nil, length, length-append, take, refl, sym, ◌∙◌, ap, subst, None, inl, inr, arith}
use Rattle.std.proofs.lemmas.Bool.Decides.{eqb_tells}
use Rattle.std.specs.Prelude.{map, All, slice_index_or}
use Rattle.std.proofs.lemmas.List.{take-take, length_push, length-take-le, take_all, get_or-map, length-map, nil_from_length, get_or_push, get_or_default, get_or_append_left}
use Rattle.std.proofs.lemmas.List.Elements.{All-map, All-head, All-tail}
use Rattle.cp_call.specs.declared.call.Entry.{Entry}
use Rattle.cp_call.specs.Sound.{Object, own_entries}
use Rattle.cp_call.specs.History.{Legal}
use Rattle.cp_list.specs.Lists.{IsPrefix, own}
use Rattle.cp_turn.specs.Passes.{PassView, TurnstileView, IsOutside, ExtendsSeen}
use Rattle.cp_hall.specs.declared.hall.HallRow.{HallRow}
use Rattle.cp_hall.specs.Hall.{HallObject, hall_object, with_entries, objects_of, history_at, AreLegal}
use Rattle.cp_turn_hall.specs.declared.pass.ObjectPass.{ObjectPass}
use Rattle.cp_turn_hall.specs.Behind.{HallPassView, hall_at_start, IsPlaceOf, Serves, IsPassOf, IsSeenIn, at_place}
use Rattle.cp_turn_hall.specs.Grown.{GrownView}
use Rattle.cp_turn_hall.specs.Closing.{last_pass, last_seen, without_last, IsTakenOut}
use Rattle.cp_turn_hall.proofs.Places.{serves_length, place_past}
use Rattle.cp_turn_hall.proofs.Turning.{own_append, prefix_behind}

abbrev Turnstiles : Type 0
Turnstiles = List (TurnstileView HallRow)

-- the last place of a caller is that of the last turnstile
last_split : (n : ℕ) (ts : Turnstiles) (t : TurnstileView HallRow) (ps : List ObjectPass) → Serves n (ts ++ t ∷ []) ps
    → (front : List ObjectPass) × (x : ObjectPass) × (ps ≡ front ++ x ∷ []) × Serves n ts front × IsPlaceOf n t x
last_split n [] t [] s = absurd s
last_split n [] t (x ∷ []) s = ([], x, refl, tt, s.0)
last_split n [] t (x ∷ (y ∷ ps)) s = absurd s.1
last_split n (u ∷ ts) t [] s = absurd s
last_split n (u ∷ ts) t (x ∷ ps) s =
    let r : (front : List ObjectPass) × (y : ObjectPass) × (ps ≡ front ++ y ∷ []) × Serves n ts front × IsPlaceOf n t y = last_split n ts t ps s.1 in
    (x ∷ r.0, r.1, ap (λ (l : List ObjectPass). x ∷ l) r.2, (s.0, r.3), r.4)

module _ {A : Type 0} (f : ObjectPass → A) (none : A) where
  at_end : (front : List ObjectPass) (x : ObjectPass) → at_place f none (front ++ x ∷ []) (length front) ≡ f x
  at_end [] x = refl
  at_end (y ∷ front) x = at_end front x

  last_at : (front : List ObjectPass) (x : ObjectPass) → at_place f none (front ++ x ∷ []) (length (front ++ x ∷ []) - 1) ≡ f x
  last_at front x =
      let e : length (front ++ x ∷ []) - 1 ≡ length front = omega (arith, length_push front x) in
      ap (at_place f none (front ++ x ∷ [])) e ∙ at_end front x

  -- what the first places tell
  in_front : (q at : ℕ) (ps : List ObjectPass) → at < q → at_place f none (take q ps) at ≡ at_place f none ps at
  in_front zero at ps h = absurd (let z : ⊥ = omega arith in z)
  in_front (suc q) at [] h = refl
  in_front (suc q) zero (x ∷ ps) h = refl
  in_front (suc q) (suc at) (x ∷ ps) h = in_front q at ps (omega arith)

  last_of_first : (q : ℕ) (ps : List ObjectPass) → q < length ps → at_place f none (take (q + 1) ps) (length (take (q + 1) ps) - 1) ≡ at_place f none ps q
  last_of_first q ps h =
      let e : length (take (q + 1) ps) - 1 ≡ q = omega (arith, length-take-le (q + 1) ps (omega arith)) in
      ap (at_place f none (take (q + 1) ps)) e ∙ in_front (q + 1) q ps (omega arith)

pub last_pass_is : (none : PassView Entry HallRow) (d : HallPassView) (front : List ObjectPass) (x : ObjectPass) → d.places ≡ front ++ x ∷ [] → x.pass ≡ last_pass none d
last_pass_is none d front x e = sym (ap (λ (ps : List ObjectPass). at_place (λ x. x.pass) none ps (length ps - 1)) e ∙ last_at (λ x. x.pass) none front x)

-- one pass more of those that are collected
pub one_collected : (olds : List HallPassView) (out : List (PassView Entry HallRow)) (i : ℕ) (x : PassView Entry HallRow) (e : HallPassView) → length out ≡ i → i < length olds
    → ((k : ℕ) (d : HallPassView) (none : PassView Entry HallRow) → k < i → slice_index_or out k none ≡ last_pass none (slice_index_or olds k d))
    → ((none : PassView Entry HallRow) → x ≡ last_pass none (slice_index_or olds i e))
    → (k : ℕ) (d : HallPassView) (none : PassView Entry HallRow) → k < i + 1 → slice_index_or (out ++ x ∷ []) k none ≡ last_pass none (slice_index_or olds k d)
one_collected olds out i x e long within each is k d none less = elim (eqb_tells k i) [
  | inl s ↦ subst (λ (j : ℕ). slice_index_or (out ++ x ∷ []) j none ≡ last_pass none (slice_index_or olds j d)) (sym s.1)
      (get_or_push out x none i long ∙ is none ∙ ap (last_pass none) (get_or_default olds i e d within))
  | inr o ↦ get_or_append_left out (x ∷ []) none k (omega (arith, o.1)) ∙ each k d none (omega (arith, o.1))
]

pub some_places : (ts : Turnstiles) (t : TurnstileView HallRow) (ds : List HallPassView) → All (IsPassOf (ts ++ t ∷ [])) ds → All (λ d. 0 < length d.places) ds
some_places ts t ds all k d h = omega (arith, serves_length (slice_index_or ds k d).number (ts ++ t ∷ []) (slice_index_or ds k d).places (all k d h), length_push ts t)

-- what the last pass of a caller tells
abbrev IsLast : TurnstileView HallRow → HallPassView → PassView Entry HallRow → Type 0
IsLast t d p = IsOutside t p × (p.number ≡ d.number) × (p.mine ≡ own_entries d.number (last_seen d)) × (p.seen ≡ last_seen d)

last_is : (none : PassView Entry HallRow) (ts : Turnstiles) (t : TurnstileView HallRow) (d : HallPassView) → IsPassOf (ts ++ t ∷ []) d → IsLast t d (last_pass none d)
last_is none ts t d s =
    let r : (front : List ObjectPass) × (x : ObjectPass) × (d.places ≡ front ++ x ∷ []) × Serves d.number ts front × IsPlaceOf d.number t x = last_split d.number ts t d.places s in
    let pass : last_pass none d ≡ r.1.pass = ap (λ (ps : List ObjectPass). at_place (λ x. x.pass) none ps (length ps - 1)) r.2 ∙ last_at (λ x. x.pass) none r.0 r.1 in
    let seen : last_seen d ≡ r.1.pass.seen = ap (λ (ps : List ObjectPass). at_place (λ x. x.pass.seen) [] ps (length ps - 1)) r.2 ∙ last_at (λ x. x.pass.seen) [] r.0 r.1 in
    subst (IsLast t d) (sym pass) (r.4.outside, r.4.number, r.4.mine ∙ ap (own_entries d.number) (sym seen), sym seen)

module _ (ts : Turnstiles) (t : TurnstileView HallRow) (ds : List HallPassView) (v : List (PassView Entry HallRow)) (long : length v ≡ length ds)
    (each : (k : ℕ) (d : HallPassView) (none : PassView Entry HallRow) → k < length ds → slice_index_or v k none ≡ last_pass none (slice_index_or ds k d)) (all : All (IsPassOf (ts ++ t ∷ [])) ds) where
  each_is : (k : ℕ) (d : HallPassView) (none : PassView Entry HallRow) → k < length ds → IsLast t (slice_index_or ds k d) (slice_index_or v k none)
  each_is k d none h = subst (IsLast t (slice_index_or ds k d)) (sym (each k d none h)) (last_is none ts t (slice_index_or ds k d) (all k d h))

  pub all_outside : All (IsOutside t) v
  all_outside k none h = (each_is k (record { number = 0; places = [] }) none (omega arith)).0

  pub is_taken_out : (g : GrownView) (row : HallRow) → g.start ≡ t.base → All (ExtendsSeen (λ (e : Entry). e.caller) g.entries) v → ((n : ℕ) → All (λ p. p.number ≢ n) v → own (λ (e : Entry). e.caller) n g.entries ≡ [])
      → hall_object row ≡ with_entries g.entries (hall_object g.start) → Legal row.pred.kind row.pred.opening row.pred.history → IsTakenOut t row ds
  is_taken_out g row base extends others is legal = record {
    list = g.entries;
    row_is = is ∙ ap (λ (r : HallRow). with_entries g.entries (hall_object r)) base;
    legal = legal;
    seen = λ k d h.
        let none : PassView Entry HallRow = record { table = t.table; number = 0; mine = []; seen = []; turns = 0; found = None; base = None } in
        let i : IsLast t (slice_index_or ds k d) (slice_index_or v k none) = each_is k d none h in
        let e : ExtendsSeen (λ (e : Entry). e.caller) g.entries (slice_index_or v k none) = extends k none (omega arith) in
        (subst (λ (l : List Entry). IsPrefix l g.entries) i.3 e.0, ap (λ (n : ℕ). own_entries n g.entries) (sym i.1) ∙ e.1 ∙ i.2);
    others = λ n nobody. others n (λ k none h.
        let d : HallPassView = record { number = 0; places = [] } in
        let i : IsLast t (slice_index_or ds k d) (slice_index_or v k none) = each_is k d none (omega arith) in
        λ e. nobody k d (omega arith) (sym i.1 ∙ e));
  }

-- the first places of a caller
abbrev pub first_places : ℕ → HallPassView → HallPassView
first_places q d = record { number = d.number; places = take q d.places }

-- An object with the number q has come out, as the passes of that object say.
pub record IsOut (q : ℕ) (t : TurnstileView HallRow) (row : HallRow) (ds : List HallPassView) : Type 0 where
  pub list : List Entry
  pub row_is : hall_object row ≡ with_entries list (hall_object t.base)
  pub legal : Legal row.pred.kind row.pred.opening row.pred.history
  pub seen : All (λ d. IsPrefix (at_place (λ x. x.pass.seen) [] d.places q) list × (own_entries d.number list ≡ own_entries d.number (at_place (λ x. x.pass.seen) [] d.places q))) ds
  pub others : (n : ℕ) → All (λ d. d.number ≢ n) ds → own_entries n list ≡ []

-- the objects from the number q on have come out
abbrev pub AreOut : ℕ → Turnstiles → List HallRow → List HallPassView → Type 0
AreOut q [] [] ds = Unit {0}
AreOut q [] (r ∷ rs) ds = ⊥
AreOut q (t ∷ ts) [] ds = ⊥
AreOut q (t ∷ ts) (r ∷ rs) ds = IsOut q t r ds × AreOut (q + 1) ts rs ds

serves_first : (n : ℕ) (ts us : Turnstiles) (ps : List ObjectPass) → Serves n (ts ++ us) ps → Serves n ts (take (length ts) ps)
serves_first n [] us ps s = tt
serves_first n (t ∷ ts) us [] s = absurd s
serves_first n (t ∷ ts) us (p ∷ ps) s = (s.0, serves_first n ts us ps s.1)

all_first : (ts us : Turnstiles) (ds : List HallPassView) → All (IsPassOf (ts ++ us)) ds → All (IsPassOf ts) (map (first_places (length ts)) ds)
all_first ts us ds all = All-map (IsPassOf ts) (first_places (length ts)) ds (λ k d h. serves_first (slice_index_or ds k d).number ts us (slice_index_or ds k d).places (all k d h))

-- a caller has a place of the turnstile t
has_place : (ts : Turnstiles) (t : TurnstileView HallRow) (us : Turnstiles) (d : HallPassView) → IsPassOf (ts ++ (t ∷ us)) d → length ts < length d.places
has_place ts t us d s =
    let h : length d.places ≡ length (ts ++ (t ∷ us)) = serves_length d.number (ts ++ (t ∷ us)) d.places s in
    omega (arith, h, length-append ts (t ∷ us))

without_is : (q : ℕ) (d : HallPassView) → q < length d.places → without_last (first_places (q + 1) d) ≡ first_places q d
without_is q d h =
    let e : length (take (q + 1) d.places) - 1 ≡ q = omega (arith, length-take-le (q + 1) d.places (omega arith)) in
    ap (λ (ps : List ObjectPass). record { number = d.number; places = ps })
    (ap (λ (k : ℕ). take k (take (q + 1) d.places)) e ∙ take-take q (q + 1) d.places (omega arith))

without_are : (ts : Turnstiles) (t : TurnstileView HallRow) (us : Turnstiles) (ds : List HallPassView) → All (IsPassOf (ts ++ (t ∷ us))) ds
    → map without_last (map (first_places (length ts + 1)) ds) ≡ map (first_places (length ts)) ds
without_are ts t us [] all = refl
without_are ts t us (d ∷ ds) all =
    ap (λ (x : HallPassView). x ∷ map without_last (map (first_places (length ts + 1)) ds)) (without_is (length ts) d (has_place ts t us d (All-head (IsPassOf (ts ++ (t ∷ us))) d ds all)))
    ∙ ap (λ (l : List HallPassView). first_places (length ts) d ∷ l) (without_are ts t us ds (All-tail (IsPassOf (ts ++ (t ∷ us))) d ds all))

all_places : (ts : Turnstiles) (ds : List HallPassView) → All (IsPassOf ts) ds → ds ≡ map (first_places (length ts)) ds
all_places ts [] all = refl
all_places ts (d ∷ ds) all =
    let long : length d.places ≡ length ts = serves_length d.number ts d.places (All-head (IsPassOf ts) d ds all) in
    ap (λ (ps : List ObjectPass). record { number = d.number; places = ps } ∷ ds) (sym (take_all (length ts) d.places (omega arith)))
    ∙ ap (λ (l : List HallPassView). first_places (length ts) d ∷ l) (all_places ts ds (All-tail (IsPassOf ts) d ds all))

-- what the last passes tell of an object, the passes of its number tell
is_out : (ts : Turnstiles) (t : TurnstileView HallRow) (us : Turnstiles) (row : HallRow) (ds : List HallPassView) → All (IsPassOf (ts ++ (t ∷ us))) ds
    → IsTakenOut t row (map (first_places (length ts + 1)) ds) → IsOut (length ts) t row ds
is_out ts t us row ds all out =
    let q : ℕ = length ts in record {
      list = out.list;
      row_is = out.row_is;
      legal = out.legal;
      seen = λ k d h.
          let o : HallPassView = slice_index_or ds k d in
          let e : slice_index_or (map (first_places (q + 1)) ds) k (first_places (q + 1) d) ≡ first_places (q + 1) o = get_or-map (first_places (q + 1)) ds k d (first_places (q + 1) d) h in
          let last : last_seen (first_places (q + 1) o) ≡ at_place (λ x. x.pass.seen) [] o.places q = last_of_first (λ x. x.pass.seen) [] q o.places (has_place ts t us o (all k d h)) in
          subst (λ (l : List Entry). IsPrefix l out.list × (own_entries o.number out.list ≡ own_entries o.number l)) last
          (subst (λ (x : HallPassView). IsPrefix (last_seen x) out.list × (own_entries x.number out.list ≡ own_entries x.number (last_seen x))) e
          (out.seen k (first_places (q + 1) d) (omega (arith, length-map ds (first_places (q + 1))))));
      others = λ n nobody. out.others n (All-map (λ (d : HallPassView). d.number ≢ n) (first_places (q + 1)) ds nobody);
    }

-- The objects behind the first turnstiles are still there, and the others have come out.
abbrev pub IsMidway : Turnstiles → List HallPassView → Turnstiles → List HallRow → List HallPassView → Type 0
IsMidway all ds front rows now = (back : Turnstiles) × (all ≡ front ++ back) × AreOut (length front) back rows ds × (now ≡ map (first_places (length front)) ds)

pub starts : (all : Turnstiles) (ds : List HallPassView) → All (IsPassOf all) ds → IsMidway all ds all [] ds
starts all ds h = ([], sym (append-nil all), tt, all_places all ds h)

front_is : (front ts back : Turnstiles) (t : TurnstileView HallRow) → front ≡ ts ++ t ∷ [] → front ++ back ≡ ts ++ (t ∷ back)
front_is front ts back t e = ap (λ (l : Turnstiles). l ++ back) e ∙ append_assoc ts (t ∷ []) back

all_mid : (P : TurnstileView HallRow → Type 0) (ts : Turnstiles) (t : TurnstileView HallRow) (us : Turnstiles) → All P (ts ++ (t ∷ us)) → P t
all_mid P [] t us h = All-head P t us h
all_mid P (x ∷ ts) t us h = all_mid P ts t us (All-tail P x (ts ++ (t ∷ us)) h)

pub finished : (all : Turnstiles) (ds : List HallPassView) (front : Turnstiles) (rows : List HallRow) (now : List HallPassView) → IsMidway all ds front rows now → length front ≡ 0 → AreOut 0 all rows ds
finished all ds front rows now i e =
    let none : front ≡ [] = nil_from_length front e in
    let whole : all ≡ i.0 = i.1 ∙ ap (λ (l : Turnstiles). l ++ i.0) none in
    subst (λ (l : Turnstiles). AreOut 0 l rows ds) (sym whole) (subst (λ (q : ℕ). AreOut q i.0 rows ds) e i.2)

module _ (all : Turnstiles) (ds : List HallPassView) (front : Turnstiles) (rows : List HallRow) (now : List HallPassView) (h : All (IsPassOf all) ds) (i : IsMidway all ds front rows now)
    (ts : Turnstiles) (t : TurnstileView HallRow) (pop : front ≡ ts ++ t ∷ []) where
  whole : all ≡ ts ++ (t ∷ i.0)
  whole = i.1 ∙ front_is front ts i.0 t pop

  all_whole : All (IsPassOf (ts ++ (t ∷ i.0))) ds
  all_whole = subst (λ (l : Turnstiles). All (IsPassOf l) ds) whole h

  one_more : length front ≡ length ts + 1
  one_more = ap length pop ∙ length_push ts t

  now_is : now ≡ map (first_places (length ts + 1)) ds
  now_is = i.3 ∙ ap (λ (q : ℕ). map (first_places q) ds) one_more

  -- each caller has still a pass of the last turnstile, which is one of all callers
  pub callers_are : All (λ t. t.callers ≡ length ds) all → t.callers ≡ length now
  callers_are each =
      all_mid (λ (t : TurnstileView HallRow). t.callers ≡ length ds) ts t i.0 (subst (All (λ (t : TurnstileView HallRow). t.callers ≡ length ds)) whole each)
      ∙ sym (ap length i.3 ∙ length-map ds (first_places (length front)))

  pub are_of : All (IsPassOf (ts ++ t ∷ [])) now
  are_of = subst (λ (l : Turnstiles). All (IsPassOf l) now) pop
      (subst (All (IsPassOf front)) (sym i.3) (all_first front i.0 ds (subst (λ (l : Turnstiles). All (IsPassOf l) ds) i.1 h)))

  pub goes_on : (row : HallRow) (next : List HallPassView) → IsTakenOut t row now → next ≡ map without_last now → IsMidway all ds ts (row ∷ rows) next
  goes_on row next out rest = (
    t ∷ i.0,
    whole,
    (is_out ts t i.0 row ds all_whole (subst (IsTakenOut t row) now_is out), subst (λ (q : ℕ). AreOut q i.0 rows ds) one_more i.2),
    rest ∙ ap (map without_last) now_is ∙ without_are ts t i.0 ds all_whole,
  )

module _ (ds : List HallPassView) where
  pub objects_out : (q : ℕ) (ts : Turnstiles) (rows : List HallRow) → AreOut q ts rows ds → objects_of (map hall_object rows) ≡ objects_of (hall_at_start ts)
  objects_out q [] [] h = refl
  objects_out q [] (r ∷ rows) h = absurd h
  objects_out q (t ∷ ts) [] h = absurd h
  objects_out q (t ∷ ts) (r ∷ rows) h =
      ap (λ (o : HallObject). o.object ∷ objects_of (map hall_object rows)) h.0.row_is
      ∙ ap (λ (l : List Object). (hall_object t.base).object ∷ l) (objects_out (q + 1) ts rows h.1)

  pub legal_out : (q : ℕ) (ts : Turnstiles) (rows : List HallRow) → AreOut q ts rows ds → AreLegal (map hall_object rows)
  legal_out q [] [] h = tt
  legal_out q [] (r ∷ rows) h = absurd h
  legal_out q (t ∷ ts) [] h = absurd h
  legal_out q (t ∷ ts) (r ∷ rows) h = (h.0.legal, legal_out (q + 1) ts rows h.1)

  history_out : (q : ℕ) (t : TurnstileView HallRow) (r : HallRow) (o : IsOut q t r ds) → r.pred.history ≡ t.base.pred.history ++ o.list
  history_out q t r o = ap (λ (x : HallObject). x.history) o.row_is

  pub grown_out : (q : ℕ) (ts : Turnstiles) (rows : List HallRow) → AreOut q ts rows ds → (p : ℕ) → IsPrefix (history_at (hall_at_start ts) p) (history_at (map hall_object rows) p)
  grown_out q [] [] h p = ([], refl)
  grown_out q [] (r ∷ rows) h p = absurd h
  grown_out q (t ∷ ts) [] h p = absurd h
  grown_out q (t ∷ ts) (r ∷ rows) h zero = (h.0.list, history_out q t r h.0)
  grown_out q (t ∷ ts) (r ∷ rows) h (suc p) = grown_out (q + 1) ts rows h.1 p

  pub others_out : (q : ℕ) (ts : Turnstiles) (rows : List HallRow) → AreOut q ts rows ds → (n p : ℕ) → All (λ d. d.number ≢ n) ds
      → own_entries n (history_at (map hall_object rows) p) ≡ own_entries n (history_at (hall_at_start ts) p)
  others_out q [] [] h n p nobody = refl
  others_out q [] (r ∷ rows) h n p nobody = absurd h
  others_out q (t ∷ ts) [] h n p nobody = absurd h
  others_out q (t ∷ ts) (r ∷ rows) h n zero nobody =
      ap (own_entries n) (history_out q t r h.0) ∙ own_append n t.base.pred.history h.0.list
      ∙ ap (λ (l : List Entry). own_entries n t.base.pred.history ++ l) (h.0.others n nobody) ∙ append-nil (own_entries n t.base.pred.history)
  others_out q (t ∷ ts) (r ∷ rows) h n (suc p) nobody = others_out (q + 1) ts rows h.1 n p nobody

  -- a history has what a caller has seen of it
  abbrev Has : ℕ → List Entry → List Entry → Type 0
  Has n seen history = IsPrefix seen history × (own_entries n history ≡ own_entries n seen)

  module _ (k : ℕ) (e : HallPassView) (less : k < length ds) where
    abbrev one : HallPassView
    one = slice_index_or ds k e

    abbrev told : ℕ → List Entry
    told at = at_place (λ x. x.pass.seen) [] one.places at

    has_out : (q : ℕ) (ts : Turnstiles) (rows : List HallRow) → AreOut q ts rows ds → length one.places ≡ q + length ts → (p at : ℕ) → at ≡ q + p
        → Has one.number (history_at (hall_at_start ts) p ++ told at) (history_at (map hall_object rows) p)
    has_out q [] [] h long p at is =
        let none : told at ≡ [] = place_past (λ x. x.pass.seen) [] one.places at (omega arith) in
        subst (λ (l : List Entry). Has one.number l []) (sym none) (([], refl), refl)
    has_out q [] (r ∷ rows) h long p at is = absurd h
    has_out q (t ∷ ts) [] h long p at is = absurd h
    has_out q (t ∷ ts) (r ∷ rows) h long zero at is =
        let o : IsOut q t r ds = h.0 in
        let here : at ≡ q = omega arith in
        let s : Has one.number (told at) o.list = subst (λ (x : ℕ). Has one.number (told x) o.list) (sym here) (o.seen k e less) in
        subst (Has one.number (t.base.pred.history ++ told at)) (sym (history_out q t r o)) (
          prefix_behind t.base.pred.history (told at) o.list s.0,
          own_append one.number t.base.pred.history o.list ∙ ap (λ (l : List Entry). own_entries one.number t.base.pred.history ++ l) s.1 ∙ sym (own_append one.number t.base.pred.history (told at)),
        )
    has_out q (t ∷ ts) (r ∷ rows) h long (suc p) at is = has_out (q + 1) ts rows h.1 (omega arith) p at (omega arith)

  pub seen_out : (ts : Turnstiles) (rows : List HallRow) → AreOut 0 ts rows ds → All (IsPassOf ts) ds → All (IsSeenIn (map hall_object rows) ts) ds
  seen_out ts rows h all k e less p =
      let long : length (one k e less).places ≡ length ts = serves_length (one k e less).number ts (one k e less).places (all k e less) in
      has_out k e less 0 ts rows h (omega arith) p p (omega arith)
