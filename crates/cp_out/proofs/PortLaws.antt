-- One more write on the port, and what the pieces of a port say of what its sink holds.
use Rattle.std.proofs.Common.{◌≡◌, ℕ, ◌+◌, ◌≤◌, Bool, true, false, ◌||◌, ◌&&◌, Option, Some, None, List, [], ◌∷◌, ◌++◌, length, take, drop, refl, sym, ◌∙◌, ap, subst, append_assoc, arith}
use Rattle.std.specs.Prelude.{cond, IsSomeAnd}
use Rattle.std.specs.List.{list_any, list_all}
use Rattle.std.proofs.lemmas.List.{take-append-drop}
use Rattle.std.proofs.lemmas.Grind.{common_steps}
use Rattle.cp_io.specs.Cause.{Rose}
use Rattle.cp_list.specs.Lists.{IsPrefix}
use Rattle.cp_call.specs.declared.item.PutReply.{PutReply}
use Rattle.cp_call.specs.declared.item.PutReply.TheVariants.{Wrote, Failed}
use Rattle.cp_call.specs.declared.outcome.OutEntry.{OutEntry}
use Rattle.cp_call.specs.Sound.{has_failed, stays_failed}
use Rattle.cp_out.specs.Port.{any_failed, pieces, written, broken_piece, HasGrown, GrewTo, GrewBy, IsCaused, Records, is_failure}

-- while none has failed, the pieces that were written are those of all writes
pub written-after_whole : (port more : List OutEntry) → any_failed port ≡ false → written (port ++ more) ≡ written port ++ written more
written-after_whole [] more h = refl
written-after_whole (w ∷ port) more h =
    elim (has_failed w) as (λ b. (b || any_failed port) ≡ false → cond b [] (w.bytes ++ written (port ++ more)) ≡ cond b [] (w.bytes ++ written port) ++ written more) [
      | true ↦ λ e. absurd cc
      | false ↦ λ e. ap (λ rest. w.bytes ++ rest) (written-after_whole port more e) ∙ sym (append_assoc w.bytes (written port) (written more))
    ] h

pub broken-after_whole : (port more : List OutEntry) → any_failed port ≡ false → broken_piece (port ++ more) ≡ broken_piece more
broken-after_whole [] more h = refl
broken-after_whole (w ∷ port) more h =
    elim (has_failed w) as (λ b. (b || any_failed port) ≡ false → cond b w.bytes (broken_piece (port ++ more)) ≡ broken_piece more)
    [ true ↦ λ e. absurd cc | false ↦ λ e. broken-after_whole port more e ] h

pub broken-none : (port : List OutEntry) → any_failed port ≡ false → broken_piece port ≡ []
broken-none [] h = refl
broken-none (w ∷ port) h =
    elim (has_failed w) as (λ b. (b || any_failed port) ≡ false → cond b w.bytes (broken_piece port) ≡ [])
    [ true ↦ λ e. absurd cc | false ↦ λ e. broken-none port e ] h

-- once one has failed, later writes add nothing
pub written-after_failure : (port more : List OutEntry) → any_failed port ≡ true → written (port ++ more) ≡ written port
written-after_failure [] more h = absurd cc
written-after_failure (w ∷ port) more h =
    elim (has_failed w) as (λ b. (b || any_failed port) ≡ true → cond b [] (w.bytes ++ written (port ++ more)) ≡ cond b [] (w.bytes ++ written port))
    [ true ↦ λ e. refl | false ↦ λ e. ap (λ rest. w.bytes ++ rest) (written-after_failure port more e) ] h

pub broken-after_failure : (port more : List OutEntry) → any_failed port ≡ true → broken_piece (port ++ more) ≡ broken_piece port
broken-after_failure [] more h = absurd cc
broken-after_failure (w ∷ port) more h =
    elim (has_failed w) as (λ b. (b || any_failed port) ≡ true → cond b w.bytes (broken_piece (port ++ more)) ≡ cond b w.bytes (broken_piece port))
    [ true ↦ λ e. refl | false ↦ λ e. broken-after_failure port more e ] h

pub any_failed-more : (port : List OutEntry) (w : OutEntry) → any_failed (port ++ w ∷ []) ≡ (any_failed port || has_failed w)
any_failed-more [] w = elim (has_failed w) as (λ b. (b || false) ≡ b) [ true ↦ refl | false ↦ refl ]
any_failed-more (v ∷ port) w =
    elim (has_failed v) as (λ b. (b || any_failed (port ++ w ∷ [])) ≡ ((b || any_failed port) || has_failed w))
    [ true ↦ refl | false ↦ any_failed-more port w ]

-- a choice by a reply
abbrev whole_after : PutReply → Bool → Bool → Bool
whole_after r a b = elim r [ Wrote ↦ a | Failed ↦ b ]

-- one more write, which has failed where an earlier one has
pub stays_failed-whole : (port : List OutEntry) (w : OutEntry) → any_failed port ≡ false → stays_failed (port ++ w ∷ []) ≡ true
stays_failed-whole [] w h = elim w.reply as (λ r. whole_after r true true ≡ true) [ Wrote ↦ refl | Failed ↦ refl ]
stays_failed-whole (v ∷ port) w h =
    elim v.reply as (λ r. (whole_after r false true || any_failed port) ≡ false → whole_after r (stays_failed (port ++ w ∷ [])) (list_all has_failed (port ++ w ∷ [])) ≡ true)
    [ Wrote ↦ λ e. stays_failed-whole port w e | Failed ↦ λ e. absurd cc ] h

all_failed-more : (port : List OutEntry) (w : OutEntry) → list_all has_failed port ≡ true → has_failed w ≡ true → list_all has_failed (port ++ w ∷ []) ≡ true
all_failed-more [] w h e = rw e refl
all_failed-more (v ∷ port) w h e =
    elim (has_failed v) as (λ b. (b && list_all has_failed port) ≡ true → (b && list_all has_failed (port ++ w ∷ [])) ≡ true)
    [ true ↦ λ k. all_failed-more port w k e | false ↦ λ k. k ] h

pub stays_failed-more : (port : List OutEntry) (w : OutEntry) → stays_failed port ≡ true → has_failed w ≡ true → stays_failed (port ++ w ∷ []) ≡ true
stays_failed-more [] w h e = elim w.reply as (λ r. whole_after r true true ≡ true) [ Wrote ↦ refl | Failed ↦ refl ]
stays_failed-more (v ∷ port) w h e =
    elim v.reply as (λ r. whole_after r (stays_failed port) (list_all has_failed port) ≡ true → whole_after r (stays_failed (port ++ w ∷ [])) (list_all has_failed (port ++ w ∷ [])) ≡ true)
    [ Wrote ↦ λ k. stays_failed-more port w k e | Failed ↦ λ k. all_failed-more port w k e ] h

-- what is held while none has failed
pub held-whole : (first : List ℕ) (port : List OutEntry) (now : List ℕ) → any_failed port ≡ false → HasGrown first port now → now ≡ first ++ written port
held-whole first port now h g =
    let e : now ≡ (first ++ written port) ++ take g.part [] = rw (broken-none port h) at g.grown in
    grind (arith, common_steps)

-- one write more, where none has failed
grown-wrote : (first : List ℕ) (port : List OutEntry) (held : List ℕ) (w : OutEntry) → any_failed port ≡ false → w.reply ≡ Wrote → HasGrown first port held → HasGrown first (port ++ w ∷ []) (held ++ w.bytes)
grown-wrote first port held w h r g = record {
  part = 0;
  within = omega arith;
  grown =
      let e : written (w ∷ []) ≡ w.bytes ++ [] = rw r refl in
      rw (held-whole first port held h g, written-after_whole port (w ∷ []) h, e) (grind (arith, common_steps));
}

grown-failed : (first : List ℕ) (port : List OutEntry) (held : List ℕ) (w : OutEntry) (n : ℕ) → any_failed port ≡ false → w.reply ≡ Failed → n ≤ length w.bytes → HasGrown first port held → HasGrown first (port ++ w ∷ []) (held ++ take n w.bytes)
grown-failed first port held w n h r le g =
    let b : broken_piece (w ∷ []) ≡ w.bytes = rw r refl in
    let e : written (w ∷ []) ≡ [] = rw r refl in
    record {
      part = n;
      within = rw (broken-after_whole port (w ∷ []) h, b) le;
      grown = rw (held-whole first port held h g, written-after_whole port (w ∷ []) h, broken-after_whole port (w ∷ []) h, e, b) (grind (arith, common_steps));
    }

grew-by : (first held : List ℕ) (new : Option (List ℕ)) (port : List OutEntry) (w : OutEntry) (r : PutReply) → w.reply ≡ r → any_failed port ≡ false → HasGrown first port held → GrewBy (Some held) w.bytes r new → GrewTo (Some first) (port ++ w ∷ []) new
grew-by first held new port w Wrote e h g k =
    subst (λ (now : Option (List ℕ)). IsSomeAnd now (HasGrown first (port ++ w ∷ []))) (sym k) (grown-wrote first port held w h e g)
grew-by first held new port w Failed e h g k =
    subst (λ (now : Option (List ℕ)). IsSomeAnd now (HasGrown first (port ++ w ∷ []))) (sym k.2) (grown-failed first port held w k.0 h e k.1 g)

pub grew-once : (first old new : Option (List ℕ)) (port : List OutEntry) (w : OutEntry) → any_failed port ≡ false → GrewTo first port old → GrewBy old w.bytes w.reply new → GrewTo first (port ++ w ∷ []) new
grew-once None None new port w h g k = k
grew-once None (Some held) new port w h g k = absurd cc
grew-once (Some first) None new port w h g k = absurd g
grew-once (Some first) (Some held) new port w h g k = grew-by first held new port w w.reply refl h g k

-- once one has failed, an entry more says the same
pub grew-nothing : (first now : Option (List ℕ)) (port : List OutEntry) (w : OutEntry) → any_failed port ≡ true → GrewTo first port now → GrewTo first (port ++ w ∷ []) now
grew-nothing None now port w h g = g
grew-nothing (Some first) None port w h g = g
grew-nothing (Some first) (Some now) port w h g = record {
  part = g.part;
  within = rw (broken-after_failure port (w ∷ []) h) g.within;
  grown = rw (broken-after_failure port (w ∷ []) h, written-after_failure port (w ∷ []) h) g.grown;
}

-- what a reply says of the count
caused-by : (before now : ℕ) (r : PutReply) → IsCaused before now r → (is_failure r ≡ true → Rose before now) × (is_failure r ≡ false → now ≡ before)
caused-by before now Wrote k = (λ e. absurd cc, λ e. k)
caused-by before now Failed k = (λ e. k, λ e. absurd cc)

any_failed-last : (port : List OutEntry) (w : OutEntry) → any_failed port ≡ false → any_failed (port ++ w ∷ []) ≡ is_failure w.reply
any_failed-last port w h = any_failed-more port w ∙ rw h refl

-- one write more, on a sink that is called only where none has failed
pub records-more : {S : Type 0} (held : S → Option (List ℕ)) (faults : S → ℕ) (first : S) (port : List OutEntry) (old new : S) (w : OutEntry) (failed : Bool) → failed ≡ any_failed port → Records held faults first port old → (failed ≡ true → w.reply ≡ Failed) → (failed ≡ true → new ≡ old) → (failed ≡ false → GrewBy (held old) w.bytes w.reply (held new)) → (failed ≡ false → IsCaused (faults old) (faults new) w.reply) → Records held faults first (port ++ w ∷ []) new
records-more held faults first port old new w true flag r fails same grew caused =
    let e : new ≡ old = same refl in
    let m : any_failed (port ++ w ∷ []) ≡ true = any_failed-more port w ∙ rw (← flag) refl in
    record {
      grew = rw e (grew-nothing (held first) (held old) port w (sym flag) r.grew);
      stays_failed = stays_failed-more port w r.stays_failed (rw (fails refl) refl);
      caused = λ _. rw e (r.caused (sym flag));
      kept = λ q. absurd cc;
    }
records-more held faults first port old new w false flag r fails same grew caused =
    let by = caused-by (faults old) (faults new) w.reply (caused refl) in
    let m = any_failed-last port w (sym flag) in
    let k : faults old ≡ faults first = r.kept (sym flag) in
    record {
      grew = grew-once (held first) (held old) (held new) port w (sym flag) r.grew (grew refl);
      stays_failed = stays_failed-whole port w (sym flag);
      caused = λ q. rw (← k) (by.0 (sym m ∙ q));
      kept = λ q. by.1 (sym m ∙ q) ∙ k;
    }

-- the flag after one write more
pub failed-more : (port : List OutEntry) (w : OutEntry) (failed : Bool) → failed ≡ any_failed port → (failed ≡ true → w.reply ≡ Failed) → is_failure w.reply ≡ any_failed (port ++ w ∷ [])
failed-more port w true flag fails =
    let e : is_failure w.reply ≡ true = rw (fails refl) refl in
    e ∙ sym (any_failed-more port w ∙ rw (← flag) refl)
failed-more port w false flag fails = sym (any_failed-last port w (sym flag))

-- while none has failed, all pieces were written
pub written-all : (port : List OutEntry) → any_failed port ≡ false → written port ≡ pieces port
written-all [] h = refl
written-all (w ∷ port) h =
    elim (has_failed w) as (λ b. (b || any_failed port) ≡ false → cond b [] (w.bytes ++ written port) ≡ w.bytes ++ pieces port)
    [ true ↦ λ e. absurd cc | false ↦ λ e. ap (λ rest. w.bytes ++ rest) (written-all port e) ] h

-- a sink has grown by all pieces where none has failed
pub grown-all : (first : List ℕ) (port : List OutEntry) (now : List ℕ) → any_failed port ≡ false → HasGrown first port now → now ≡ first ++ pieces port
grown-all first port now h g = held-whole first port now h g ∙ ap (λ more. first ++ more) (written-all port h)

-- what was written is the beginning of all pieces
pub written-prefix : (port : List OutEntry) (n : ℕ) → IsPrefix (written port ++ take n (broken_piece port)) (pieces port)
written-prefix [] n = ([], grind (arith, common_steps))
written-prefix (w ∷ port) n =
    elim (has_failed w) as (λ b. IsPrefix (cond b [] (w.bytes ++ written port) ++ take n (cond b w.bytes (broken_piece port))) (w.bytes ++ pieces port)) [
      | true ↦ (drop n w.bytes ++ pieces port, ap (λ piece. piece ++ pieces port) (sym (take-append-drop n w.bytes)) ∙ append_assoc (take n w.bytes) (drop n w.bytes) (pieces port))
      | false ↦ let more = written-prefix port n in (more.0, rw more.1 (grind (arith, common_steps)))
    ]

-- and so a sink has grown by a beginning of them
pub grown-prefix : (first : List ℕ) (port : List OutEntry) (now : List ℕ) → HasGrown first port now → IsPrefix now (first ++ pieces port)
grown-prefix first port now g =
    let more = written-prefix port g.part in
    (more.0, rw (more.1, g.grown) (grind (arith, common_steps)))

none-failed-by : (failed : Bool) (before now : ℕ) → (failed ≡ true → Rose before now) → now ≡ 0 → failed ≡ false
none-failed-by true before now rose h = let r = rose refl in absurd (omega arith)
none-failed-by false before now rose h = refl

-- none has failed while the count of the sink is 0
pub none-failed : {S : Type 0} (held : S → Option (List ℕ)) (faults : S → ℕ) (first : S) (port : List OutEntry) (sink : S) → Records held faults first port sink → faults sink ≡ 0 → any_failed port ≡ false
none-failed held faults first port sink r h = none-failed-by (any_failed port) (faults first) (faults sink) r.caused h
