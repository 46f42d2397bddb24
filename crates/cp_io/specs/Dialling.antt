-- What the calls of a dialer in memory do.
use Rattle.std.specs.Prelude.{◌≡◌, ℕ, ◌+◌, List, [], ◌∷◌, ◌++◌, drop, Some, Result}
use Rattle.cp_io.specs.Addresses.{room_of}
use Rattle.cp_io.specs.Calls.{counted}
use Rattle.cp_io.specs.Cause.{HasCause}
use Rattle.cp_io.specs.Content.{Grows, first_of}
use Rattle.cp_io.specs.Memory.{DialerView, Puts}

-- a dialer with the same connections to come, the room that this one was made with, and the same calls that are to fail
abbrev pub parted : DialerView → DialerView
parted d = record {
  arriving = [];
  sent = [];
  coming = d.coming;
  dialled = [];
  room = d.size;
  address_room = d.size;
  size = d.size;
  calls = record { fails = d.calls.fails; made = 0 };
  faults = 0;
}

-- A send puts the piece behind what was sent, and changes nothing else.
pub record Sends {E : Type 0} (old : DialerView) (piece : List ℕ) (result : Result (Unit {0}) E) (new : DialerView) : Type 0 where
  pub sent : Grows (Some old.sent) piece result (Some new.sent)
  pub cause : HasCause old.faults new.faults result
  pub puts : Puts old.sent old.room old.calls piece result new.sent new.room new.calls
  pub others : new ≡ record old { sent = new.sent; room = new.room; calls = new.calls; faults = new.faults }

-- A dial that does not fail takes the next connection, and keeps the address in the room that it has.
pub record HasDialled (old : DialerView) (address : List ℕ) (new : DialerView) : Type 0 where
  pub room : new.address_room + room_of address ≡ old.address_room
  pub others : new ≡ record old {
    arriving = first_of old.coming;
    coming = drop 1 old.coming;
    dialled = old.dialled ++ address ∷ [];
    address_room = new.address_room;
    calls = counted old.calls;
  }
