-- What the output port keeps of what was put on its sink.
use Rattle.std.specs.Prelude.{◌≡◌, ℕ, ◌≤◌, cond, Bool, true, false, Option, Some, None, flat_map, List, [], ◌∷◌, ◌++◌, length, take, IsSomeAnd, refl}
use Rattle.std.specs.List.{list_any}
use Rattle.std.proofs.Common.{sym, ◌∙◌, ap, append_assoc}
use Rattle.std.proofs.lemmas.List.{append-nil}
use Rattle.cp_list.specs.Lists.{IsPrefix}
use Rattle.cp_io.specs.Cause.{Rose}
use Rattle.cp_call.specs.declared.item.PutReply.{PutReply}
use Rattle.cp_call.specs.declared.item.PutReply.TheVariants.{Wrote, Failed}
use Rattle.cp_call.specs.declared.outcome.OutEntry.{OutEntry}
use Rattle.cp_call.specs.Sound.{has_failed, stays_failed}

-- a port: the sink as it was handed in, the entries in order, and the sink as it is
pub record PortView (S : Type 0) : Type 0 where
  pub first : S
  pub entries : List OutEntry
  pub sink : S

abbrev pub is_failure : PutReply → Bool
is_failure Wrote = false
is_failure Failed = true

-- whether some write has failed
abbrev pub any_failed : List OutEntry → Bool
any_failed port = list_any has_failed port

-- the pieces of all writes, one after another
abbrev pub pieces : List OutEntry → List ℕ
pieces port = flat_map (λ (w : OutEntry). w.bytes) port

-- the pieces that were written whole, one after another: those before the first that failed
abbrev pub written : List OutEntry → List ℕ
written [] = []
written (w ∷ port) = cond (has_failed w) [] (w.bytes ++ written port)

-- the piece of the first write that failed, and no bytes where none has
abbrev pub broken_piece : List OutEntry → List ℕ
broken_piece [] = []
broken_piece (w ∷ port) = cond (has_failed w) w.bytes (broken_piece port)

-- From what a sink held at first to what it holds after the writes: the pieces that were written whole, then a
-- beginning of the piece of the first write that failed, and nothing more.
pub record HasGrown (first : List ℕ) (port : List OutEntry) (now : List ℕ) : Type 0 where
  pub part : ℕ
  pub within : part ≤ length (broken_piece port)
  pub grown : now ≡ first ++ written port ++ take part (broken_piece port)

-- the same where the sink tells what it holds
abbrev pub GrewTo : Option (List ℕ) → List OutEntry → Option (List ℕ) → Type 0
GrewTo None port now = now ≡ None
GrewTo (Some first) port now = IsSomeAnd now (HasGrown first port)

-- what one write adds to what is held, by its reply
abbrev pub GrewBy : Option (List ℕ) → List ℕ → PutReply → Option (List ℕ) → Type 0
GrewBy None piece reply now = now ≡ None
GrewBy (Some held) piece Wrote now = now ≡ Some (held ++ piece)
GrewBy (Some held) piece Failed now = (n : ℕ) × (n ≤ length piece) × (now ≡ Some (held ++ take n piece))

-- a write fails only where the count of the sink rose, and leaves it as it was where it does not
abbrev pub IsCaused : ℕ → ℕ → PutReply → Type 0
IsCaused before now Wrote = now ≡ before
IsCaused before now Failed = Rose before now

-- The entries tell what was put on a sink, from what it was at first to what it is: it has grown by them, once one has
-- failed all have, and one has failed exactly where the count of the sink rose.
pub record Records {S : Type 0} (held : S → Option (List ℕ)) (faults : S → ℕ) (first : S) (port : List OutEntry) (sink : S) : Type 0 where
  pub grew : GrewTo (held first) port (held sink)
  pub stays_failed : stays_failed port ≡ true
  pub caused : any_failed port ≡ true → Rose (faults first) (faults sink)
  pub kept : any_failed port ≡ false → faults sink ≡ faults first

-- a port later on: over the same sink, with entries added at the end
pub record GoesOn {S : Type 0} (p q : PortView S) : Type 0 where
  pub first : q.first ≡ p.first
  pub entries : IsPrefix p.entries q.entries

pub goes_on-here : {S : Type 0} (p : PortView S) → GoesOn p p
goes_on-here p = record { first = refl; entries = ([], sym (append-nil p.entries)) }

pub goes_on-on : {S : Type 0} (p q r : PortView S) → GoesOn p q → GoesOn q r → GoesOn p r
goes_on-on p q r a b = record {
  first = b.first ∙ a.first;
  entries = (a.entries.0 ++ b.entries.0, b.entries.1 ∙ ap (λ es. es ++ b.entries.0) a.entries.1 ∙ append_assoc p.entries a.entries.0 b.entries.0);
}
