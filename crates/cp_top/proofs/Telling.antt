-- What was written, by what the port and the last line wrote.
use Rattle.std.proofs.Common.{◌≡◌, ◌⊎◌, inl, inr, ℕ, zero, suc, ◌+◌, ◌<◌, ◌≤◌, List, [], ◌∷◌, ◌++◌, length, take, refl, sym, ◌∙◌, ap, subst, append_assoc, Bool, true, false, Option, Some, None, arith}
use Rattle.std.specs.Prelude.{min, ◌^◌, ◌-◌}
use Rattle.std.proofs.lemmas.List.{append-nil}
use Rattle.std.proofs.Math.Seq.{take-append_seam, take-append-add}
use Rattle.cp_list.specs.Lists.{IsPrefix}
use Rattle.cp_io.specs.Cause.{Rose}
use Rattle.cp_call.specs.declared.outcome.OutEntry.{OutEntry}
use Rattle.cp_call.specs.declared.outcome.Outcome.{Outcome}
use Rattle.cp_code.specs.declared.program.Program.{Program}
use Rattle.cp_out.specs.Port.{Records, GrewTo, HasGrown, any_failed, pieces, written, broken_piece}
use Rattle.cp_out.proofs.PortLaws.{grown-all, grown-prefix}
use Rattle.cp_schedule.specs.Ended.{HasRunTo}
use Rattle.cp_simulate.specs.Runs.{setup, IsRunOf}
use Rattle.cp_top.specs.Ending.{Ending, ending_of}
use Rattle.cp_top.specs.Written.{end_on, HasPut, status_on, last_bytes, IsTold, IsCutAt, IsRunEnd}

-- a beginning of what was to be written was written, where the count rose
begun : (before bytes now : List ℕ) (count : ℕ) → IsPrefix now (before ++ bytes) → IsPrefix before now → 0 < count → HasPut (Some before) bytes count (Some now)
begun before bytes now zero p q h = absurd (omega arith)
begun before bytes now (suc n) p q h = (
  length q.0,
  ap (λ x. Some x) (q.1 ∙ ap (λ x. before ++ x) (sym (ap (take (length q.0)) (rest before q.0 bytes p.0 (p.1 ∙ (ap (λ x. x ++ p.0) q.1 ∙ append_assoc before q.0 p.0))) ∙ take-append_seam q.0 p.0))),
)
  where
    rest : (xs ys zs ws : List ℕ) → xs ++ zs ≡ xs ++ (ys ++ ws) → zs ≡ ys ++ ws
    rest [] ys zs ws e = e
    rest (x ∷ xs) ys zs ws e = rest xs ys zs ws (let z : xs ++ zs ≡ xs ++ (ys ++ ws) = cc in z)

some_count : (before now : ℕ) → before ≡ 0 → Rose before now → 0 < now
some_count before now e r = let z : min (0 + 1) (2 ^ 64 - 1) ≤ now = subst (λ x. min (x + 1) (2 ^ 64 - 1) ≤ now) e r in omega arith

failed_by : (before : List ℕ) (port : List OutEntry) (now : List ℕ) (count : ℕ) (line : List ℕ) → HasGrown before port now → 0 < count → HasPut (Some before) (pieces port ++ line) count (Some now)
failed_by before port now count line g h =
    let p : IsPrefix now (before ++ pieces port) = grown-prefix before port now g in
    begun before (pieces port ++ line) now count
    (p.0 ++ line, sym (append_assoc before (pieces port) line) ∙ (ap (λ x. x ++ line) p.1 ∙ append_assoc now p.0 line))
    (written port ++ take g.part (broken_piece port), g.grown ∙ append_assoc before (written port) (take g.part (broken_piece port)))
    h

-- a port that failed has written a beginning of its pieces
failed_written : (before : Option (List ℕ)) (port : List OutEntry) (now : Option (List ℕ)) (count : ℕ) (line : List ℕ) → GrewTo before port now → 0 < count → HasPut before (pieces port ++ line) count now
failed_written None port now count line g h = g
failed_written (Some before) port None count line g h = absurd g
failed_written (Some before) port (Some now) count line g h = failed_by before port now count line g h

status_failed : (count status : ℕ) → 0 < count → 74 ≡ status_on count status
status_failed zero status h = absurd (omega arith)
status_failed (suc n) status h = refl

pub told_failed : {S : Type 0} (held : S → Option (List ℕ)) (faults : S → ℕ) (log : Bool) (o : Outcome) (first sink : S) → Records held faults first o.port sink → faults first ≡ 0 → any_failed o.port ≡ true
    → IsTold log o (end_on held faults first sink 74 (Some o))
told_failed held faults log o first sink records none failed =
    let h : 0 < faults sink = some_count (faults first) (faults sink) none (records.caused failed) in
    record {
      outcome_is = refl;
      status_is = status_failed (faults sink) (ending_of o).status h;
      written = failed_written (held first) o.port (held sink) (faults sink) (last_bytes log o) records.grew h;
    }

whole_by : (before : List ℕ) (port : List OutEntry) (now line : List ℕ) (count : ℕ) (held : Option (List ℕ)) → now ≡ before ++ pieces port → HasPut (Some now) line count held → HasPut (Some before) (pieces port ++ line) count held
whole_by before port now line zero held e w = w ∙ ap (λ x. Some x) (ap (λ x. x ++ line) e ∙ append_assoc before (pieces port) line)
whole_by before port now line (suc n) held e w = (
  length (pieces port) + w.0,
  w.1 ∙ ap (λ x. Some x) (ap (λ x. x ++ take w.0 line) e ∙ (append_assoc before (pieces port) (take w.0 line) ∙ ap (λ x. before ++ x) (sym (take-append-add (pieces port) line w.0)))),
)

-- a port that did not fail has written its pieces, and the line comes behind them
whole_written : (before : Option (List ℕ)) (port : List OutEntry) (now : Option (List ℕ)) (line : List ℕ) (count : ℕ) (held : Option (List ℕ)) → any_failed port ≡ false → GrewTo before port now → HasPut now line count held → HasPut before (pieces port ++ line) count held
whole_written None port now line count held h g w = subst (λ x. HasPut x line count held) g w
whole_written (Some before) port None line count held h g w = absurd g
whole_written (Some before) port (Some now) line count held h g w = whole_by before port now line count held (grown-all before port now h g) w

pub told_whole : {S : Type 0} (held : S → Option (List ℕ)) (faults : S → ℕ) (log : Bool) (o : Outcome) (first sink now : S) (e : Ending) (status : ℕ) (outcome : Option Outcome)
    → Records held faults first o.port sink → any_failed o.port ≡ false → e ≡ record { status = (ending_of o).status; line = last_bytes log o }
    → status ≡ status_on (faults now) e.status → outcome ≡ Some o → HasPut (held sink) e.line (faults now) (held now) → IsTold log o (end_on held faults first now status outcome)
told_whole held faults log o first sink now e status outcome records whole ending s is w = record {
  outcome_is = is;
  status_is = subst (λ (x : Ending). status ≡ status_on (faults now) x.status) ending s;
  written = subst (λ (x : Ending). HasPut (held first) (pieces o.port ++ x.line) (faults now) (held now)) ending (whole_written (held first) o.port (held sink) e.line (faults now) (held now) whole records.grew w);
}

whole : (before : Option (List ℕ)) (port : List OutEntry) (now : Option (List ℕ)) → any_failed port ≡ false → GrewTo before port now → HasPut before (pieces port) 0 now
whole None port now h g = g
whole (Some before) port None h g = absurd g
whole (Some before) port (Some now) h g = ap (λ x. Some x) (grown-all before port now h g)

-- what a port has written, whether it failed or not
port_written : {S : Type 0} (held : S → Option (List ℕ)) (faults : S → ℕ) (first : S) (port : List OutEntry) (sink : S) → Records held faults first port sink → faults first ≡ 0 → HasPut (held first) (pieces port) (faults sink) (held sink)
port_written held faults first port sink records none = by_test (any_failed port) refl
  where
    by_test : (b : Bool) → any_failed port ≡ b → HasPut (held first) (pieces port) (faults sink) (held sink)
    by_test true e = subst (λ bytes. HasPut (held first) bytes (faults sink) (held sink)) (append-nil (pieces port))
        (failed_written (held first) port (held sink) (faults sink) [] records.grew (some_count (faults first) (faults sink) none (records.caused e)))
    by_test false e = subst (λ n. HasPut (held first) (pieces port) n (held sink)) (sym (records.kept e ∙ none)) (whole (held first) port (held sink) e records.grew)

-- nothing was written more than what the port wrote
pub cut_at : {S : Type 0} (held : S → Option (List ℕ)) (faults : S → ℕ) (o : Outcome) (first sink now : S) (status : ℕ) (outcome : Option Outcome)
    → Records held faults first o.port sink → faults first ≡ 0 → status ≡ 70 → outcome ≡ None → now ≡ sink → IsCutAt o (end_on held faults first now status outcome)
cut_at held faults o first sink now status outcome records none s e is = record {
  status_is = s;
  none = e;
  written = subst (λ x. HasPut (held first) (pieces o.port) (faults x) (held x)) (sym is) (port_written held faults first o.port sink records none);
}

-- the outcome of a run, which was told or which memory stopped before
pub told_run : {S : Type 0} (held : S → Option (List ℕ)) (faults : S → ℕ) (p : Program) (seed steps engines : ℕ) (log : Bool) (o : Outcome) (first now : S) (status : ℕ) (outcome : Option Outcome)
    → IsRunOf p seed steps engines o
    → IsCutAt o (end_on held faults first now status outcome) ⊎ IsTold log o (end_on held faults first now status outcome)
    → IsRunEnd p seed steps engines log (end_on held faults first now status outcome)
told_run held faults p seed steps engines log o first now status outcome run (inl cut) =
    inr (inr (record { ran = o; going = run.sound.going; workers = run.workers; is_cut = cut }))
told_run held faults p seed steps engines log o first now status outcome run (inr told) =
    inr (inl (record { ran = o; is_run = run; is_told = told }))

-- a run that has no outcome: nothing was written, or what its port wrote
pub short_run : {S : Type 0} (held : S → Option (List ℕ)) (faults : S → ℕ) (p : Program) (seed steps engines : ℕ) (log : Bool) (first sink now : S) (status : ℕ) (outcome : Option Outcome)
    → ((o : Outcome) × HasRunTo held faults (setup p steps) steps engines first sink o) ⊎ (sink ≡ first)
    → faults first ≡ 0 → status ≡ 70 → outcome ≡ None → now ≡ sink
    → IsRunEnd p seed steps engines log (end_on held faults first now status outcome)
short_run held faults p seed steps engines log first sink now status outcome (inl r) none s e is =
    inr (inr (record { ran = r.0; going = r.1.going; workers = r.1.workers; is_cut = cut_at held faults r.0 first sink now status outcome r.1.records none s e is }))
short_run held faults p seed steps engines log first sink now status outcome (inr same) none s e is =
    inl (record { status_is = s; none = e; faultless = ap faults (is ∙ same) ∙ none; untouched = ap held (is ∙ same) })
