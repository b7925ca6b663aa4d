-- The numbers of a row's records fit the bytes that they are stored in.
use Rattle.std.specs.Prelude.{ℕ, ◌<◌, List, length, get_or}
use Rattle.records.specs.Row.{unused}
use Rattle.records.specs.declared.OpenRecord.{OpenRecord}

-- a record's numbers fit their bytes
pub record FitsIn (r : OpenRecord) : Type 0 where
  pub slot : r.slot < 4294967296
  pub pointer : r.pointer < 4294967296

abbrev pub AllFit : List OpenRecord → Type 0
AllFit row = (i : ℕ) → i < length row → FitsIn (get_or row i unused)
