-- What contracts see of an object behind its turnstile.
use Rattle.std.specs.Prelude.{List}
use Rattle.cp_call.specs.declared.call.Entry.{Entry}
use Rattle.cp_hall.specs.declared.hall.HallRow.{HallRow}

-- An object behind its turnstile: as it stood when it was put there, and the entries that were made since.
pub record GrownView : Type 0 where
  pub start : HallRow
  pub entries : List Entry
