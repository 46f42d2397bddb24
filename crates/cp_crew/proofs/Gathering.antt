-- Workers are seated from the last to the first.
use Rattle.std.proofs.Common.{◌≡◌, ℕ, suc, ◌+◌, List, [], ◌∷◌, ◌++◌, append_assoc, append-nil, length, refl, sym, ◌∙◌, ap, arith}
use Rattle.std.specs.Prelude.{All, map}
use mathlib.Core.List.{reverse}
use Rattle.std.proofs.lemmas.List.Elements.{All-nil, All-cons, All-head, All-tail}
use Rattle.std.proofs.lemmas.List.{reverse-append, length_push}
use Rattle.cp_call.specs.declared.outcome.OutEntry.{OutEntry}
use Rattle.cp_call.specs.Life.{Rule}
use Rattle.cp_shell.specs.Shell.{ShellView}
use Rattle.cp_hall.specs.declared.hall.HallRow.{HallRow}
use Rattle.cp_out.specs.Port.{PortView}
use Rattle.cp_turn.specs.Passes.{PassView, TurnstileView}
use Rattle.cp_turn_hall.specs.Behind.{HallPassView}
use Rattle.cp_crew.specs.Staff.{SeatedView, IsSeated, hall_pass, seated, all_seated}

pub All-middle : {X : Type 0} (P : X → Type 0) (xs : List X) (x : X) (ys : List X) → All P (xs ++ x ∷ ys) → P x
All-middle P [] x ys all = All-head P x ys all
All-middle P (z ∷ xs) x ys all = All-middle P xs x ys (All-tail P z (xs ++ x ∷ ys) all)

module _ {M S C : Type 0} (ts : List (TurnstileView HallRow)) (g : TurnstileView (PortView S)) where
  pub seated_length : (ss : List (ShellView M)) (hs : List HallPassView) (ps : List (PassView OutEntry (PortView S))) (cs : List C)
      → length hs ≡ length ss → length ps ≡ length ss → length cs ≡ length ss → length (all_seated ts g ss hs ps cs) ≡ length ss
  seated_length [] hs ps cs lh lp lc = refl
  seated_length (s ∷ ss) [] ps cs lh lp lc = absurd (let z : ⊥ = omega arith in z)
  seated_length (s ∷ ss) (h ∷ hs) [] cs lh lp lc = absurd (let z : ⊥ = omega arith in z)
  seated_length (s ∷ ss) (h ∷ hs) (p ∷ ps) [] lh lp lc = absurd (let z : ⊥ = omega arith in z)
  seated_length (s ∷ ss) (h ∷ hs) (p ∷ ps) (c ∷ cs) lh lp lc = ap suc (seated_length ss hs ps cs (omega arith) (omega arith) (omega arith))

  -- one more at the end of each list
  seated_last : (ss : List (ShellView M)) (hs : List HallPassView) (ps : List (PassView OutEntry (PortView S))) (cs : List C) (s : ShellView M) (h : HallPassView) (p : PassView OutEntry (PortView S)) (c : C)
      → length hs ≡ length ss → length ps ≡ length ss → length cs ≡ length ss
      → all_seated ts g (ss ++ s ∷ []) (hs ++ h ∷ []) (ps ++ p ∷ []) (cs ++ c ∷ []) ≡ all_seated ts g ss hs ps cs ++ seated ts g s h p c ∷ []
  seated_last [] [] [] [] s h p c lh lp lc = refl
  seated_last [] (y ∷ hs) ps cs s h p c lh lp lc = absurd (let z : ⊥ = omega arith in z)
  seated_last [] [] (y ∷ ps) cs s h p c lh lp lc = absurd (let z : ⊥ = omega arith in z)
  seated_last [] [] [] (y ∷ cs) s h p c lh lp lc = absurd (let z : ⊥ = omega arith in z)
  seated_last (x ∷ ss) [] ps cs s h p c lh lp lc = absurd (let z : ⊥ = omega arith in z)
  seated_last (x ∷ ss) (y ∷ hs) [] cs s h p c lh lp lc = absurd (let z : ⊥ = omega arith in z)
  seated_last (x ∷ ss) (y ∷ hs) (q ∷ ps) [] s h p c lh lp lc = absurd (let z : ⊥ = omega arith in z)
  seated_last (x ∷ ss) (y ∷ hs) (q ∷ ps) (b ∷ cs) s h p c lh lp lc = ap (λ ws. seated ts g x y q b ∷ ws) (seated_last ss hs ps cs s h p c (omega arith) (omega arith) (omega arith))

  -- Some workers are seated, from the last on, and what the others are made of is at hand.
  pub record IsSeating (all : List (SeatedView M S C)) (ss : List (ShellView M)) (hs : List HallPassView) (ps : List (PassView OutEntry (PortView S))) (cs : List C) (ws : List (SeatedView M S C)) : Type 0 where
    pub hall_passes : length hs ≡ length ss
    pub port_passes : length ps ≡ length ss
    pub callers : length cs ≡ length ss
    pub rest : all_seated ts g ss hs ps cs ++ reverse ws ≡ all

  -- one of them is next
  pub next_is : (all : List (SeatedView M S C)) (ss : List (ShellView M)) (hs : List HallPassView) (ps : List (PassView OutEntry (PortView S))) (cs : List C) (ws : List (SeatedView M S C))
      → (ss' : List (ShellView M)) (hs' : List HallPassView) (ps' : List (PassView OutEntry (PortView S))) (cs' : List C) (s : ShellView M) (h : HallPassView) (p : PassView OutEntry (PortView S)) (c : C)
      → ss ≡ ss' ++ s ∷ [] → hs ≡ hs' ++ h ∷ [] → ps ≡ ps' ++ p ∷ [] → cs ≡ cs' ++ c ∷ []
      → IsSeating all ss hs ps cs ws
      → (length hs' ≡ length ss') × (length ps' ≡ length ss') × (length cs' ≡ length ss') × (all_seated ts g ss' hs' ps' cs' ++ seated ts g s h p c ∷ reverse ws ≡ all)
  next_is all ss hs ps cs ws ss' hs' ps' cs' s h p c es eh ep ec is = (
    lh,
    lp,
    lc,
    sym (append_assoc (all_seated ts g ss' hs' ps' cs') (seated ts g s h p c ∷ []) (reverse ws))
        ∙ (ap (λ l. l ++ reverse ws) (sym (seated_last ss' hs' ps' cs' s h p c lh lp lc))
        ∙ (ap (λ l. all_seated ts g l (hs' ++ h ∷ []) (ps' ++ p ∷ []) (cs' ++ c ∷ []) ++ reverse ws) (sym es)
        ∙ (ap (λ l. all_seated ts g ss l (ps' ++ p ∷ []) (cs' ++ c ∷ []) ++ reverse ws) (sym eh)
        ∙ (ap (λ l. all_seated ts g ss hs l (cs' ++ c ∷ []) ++ reverse ws) (sym ep)
        ∙ (ap (λ l. all_seated ts g ss hs ps l ++ reverse ws) (sym ec)
        ∙ is.rest))))),
  )
    where
      ls : length ss ≡ length ss' + 1
      ls = ap length es ∙ length_push ss' s

      lh : length hs' ≡ length ss'
      lh = omega (arith, ls, ap length eh ∙ length_push hs' h, is.hall_passes)

      lp : length ps' ≡ length ss'
      lp = omega (arith, ls, ap length ep ∙ length_push ps' p, is.port_passes)

      lc : length cs' ≡ length ss'
      lc = omega (arith, ls, ap length ec ∙ length_push cs' c, is.callers)

  -- it is seated
  pub seats_next : (all : List (SeatedView M S C)) (ws ws' : List (SeatedView M S C)) (ss' : List (ShellView M)) (hs' : List HallPassView) (ps' : List (PassView OutEntry (PortView S))) (cs' : List C) (w : SeatedView M S C)
      → (length hs' ≡ length ss') × (length ps' ≡ length ss') × (length cs' ≡ length ss') × (all_seated ts g ss' hs' ps' cs' ++ w ∷ reverse ws ≡ all)
      → ws' ≡ ws ++ w ∷ [] → IsSeating all ss' hs' ps' cs' ws'
  seats_next all ws ws' ss' hs' ps' cs' w n e = record {
    hall_passes = n.0;
    port_passes = n.1;
    callers = n.2;
    rest = ap (λ l. all_seated ts g ss' hs' ps' cs' ++ l) (ap reverse e ∙ reverse-append ws (w ∷ [])) ∙ n.3;
  }

  pub all_are_seated : (all : List (SeatedView M S C)) (ss : List (ShellView M)) (hs : List HallPassView) (ps : List (PassView OutEntry (PortView S))) (cs : List C) (ws : List (SeatedView M S C))
      → IsSeating all ss hs ps cs ws → length ss ≡ 0 → reverse ws ≡ all
  all_are_seated all [] hs ps cs ws is e = is.rest
  all_are_seated all (s ∷ ss) hs ps cs ws is e = absurd (let z : ⊥ = omega arith in z)

-- Workers are taken apart, from the last to the first: those that are gone, and what they were made of, the last first.
pub record IsDismissing {M S C Code : Type 0} (code : M → Code) (asks : Code → Rule) (count : Code → ℕ) (all rest : List (SeatedView M S C)) (ss : List (ShellView M)) (hs : List HallPassView) (ps : List (PassView OutEntry (PortView S))) (cs : List C) : Type 0 where
  pub gone : List (SeatedView M S C)
  pub whole : all ≡ rest ++ gone
  pub shells : reverse ss ≡ map (λ (w : SeatedView M S C). w.shell) gone
  pub hall_passes : reverse hs ≡ map hall_pass gone
  pub port_passes : reverse ps ≡ map (λ (w : SeatedView M S C). w.port.pass) gone
  pub callers : reverse cs ≡ map (λ (w : SeatedView M S C). w.caller) gone
  pub seated : All (IsSeated code asks count) gone

more_gone : {A B : Type 0} (f : A → B) (xs ys : List B) (w : A) (gone : List A) (x : B) → x ≡ f w → ys ≡ xs ++ x ∷ [] → reverse xs ≡ map f gone → reverse ys ≡ map f (w ∷ gone)
more_gone f xs ys w gone x is e h = ap reverse e ∙ (reverse-append xs (x ∷ []) ∙ (ap (λ l. x ∷ l) h ∙ ap (λ z. z ∷ map f gone) is))

module _ {M S C Code : Type 0} (code : M → Code) (asks : Code → Rule) (count : Code → ℕ) where
  pub none_gone : (all : List (SeatedView M S C)) (ss : List (ShellView M)) (hs : List HallPassView) (ps : List (PassView OutEntry (PortView S))) (cs : List C)
      → ss ≡ [] → hs ≡ [] → ps ≡ [] → cs ≡ [] → IsDismissing code asks count all all ss hs ps cs
  none_gone all ss hs ps cs es eh ep ec = record {
    gone = [];
    whole = sym (append-nil all);
    shells = ap reverse es;
    hall_passes = ap reverse eh;
    port_passes = ap reverse ep;
    callers = ap reverse ec;
    seated = All-nil (IsSeated code asks count);
  }

  pub one_gone : (all rest rest' : List (SeatedView M S C)) (w : SeatedView M S C) (ss ss' : List (ShellView M)) (hs hs' : List HallPassView) (ps ps' : List (PassView OutEntry (PortView S))) (cs cs' : List C)
      → rest ≡ rest' ++ w ∷ [] → IsDismissing code asks count all rest ss hs ps cs → IsSeated code asks count w
      → ss' ≡ ss ++ w.shell ∷ [] → hs' ≡ hs ++ hall_pass w ∷ [] → ps' ≡ ps ++ w.port.pass ∷ [] → cs' ≡ cs ++ w.caller ∷ []
      → IsDismissing code asks count all rest' ss' hs' ps' cs'
  one_gone all rest rest' w ss ss' hs hs' ps ps' cs cs' last d is es eh ep ec = record {
    gone = w ∷ d.gone;
    whole = d.whole ∙ (ap (λ l. l ++ d.gone) last ∙ append_assoc rest' (w ∷ []) d.gone);
    shells = more_gone (λ (v : SeatedView M S C). v.shell) ss ss' w d.gone w.shell refl es d.shells;
    hall_passes = more_gone hall_pass hs hs' w d.gone (hall_pass w) refl eh d.hall_passes;
    port_passes = more_gone (λ (v : SeatedView M S C). v.port.pass) ps ps' w d.gone w.port.pass refl ep d.port_passes;
    callers = more_gone (λ (v : SeatedView M S C). v.caller) cs cs' w d.gone w.caller refl ec d.callers;
    seated = All-cons (IsSeated code asks count) w d.gone is d.seated;
  }

  pub all_gone : (all rest : List (SeatedView M S C)) (ss : List (ShellView M)) (hs : List HallPassView) (ps : List (PassView OutEntry (PortView S))) (cs : List C)
      → (d : IsDismissing code asks count all rest ss hs ps cs) → length rest ≡ 0 → d.gone ≡ all
  all_gone all [] ss hs ps cs d none = sym d.whole
  all_gone all (x ∷ rest) ss hs ps cs d none = absurd (let z : ⊥ = omega arith in z)
