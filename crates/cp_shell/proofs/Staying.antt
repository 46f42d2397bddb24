-- Nothing is changed for anybody where nothing is asked and nothing written.
use Rattle.std.proofs.Common.{ℕ, List, refl, Bool}
use Rattle.cp_call.specs.declared.call.Entry.{Entry}
use Rattle.cp_call.specs.declared.outcome.OutEntry.{OutEntry}
use Rattle.cp_call.specs.Added.{AsksForOne, WritesForOne}
use Rattle.cp_call.specs.Sound.{Object}
use Rattle.cp_call.proofs.Adding.{IsPrefix_refl}

pub asks_stays : (n : ℕ) (objects : List Object) (serves : ℕ → Bool) (seen : ℕ → ℕ → List Entry) (looked : ℕ → ℕ → ℕ) → AsksForOne n objects objects serves serves seen seen looked looked
asks_stays n objects serves seen looked = record {
  objects_stay = refl;
  serves_stay = λ m. refl;
  seen_grows = λ m p. IsPrefix_refl (seen m p);
  own_stay = λ m p d. refl;
  looked_stays = λ m p d. refl;
}

pub writes_stays : (n : ℕ) (serves : ℕ → Bool) (wrote : ℕ → List OutEntry) → WritesForOne n serves serves wrote wrote
writes_stays n serves wrote = record { serves_stay = λ m. refl; wrote_stays = λ m d. refl }
