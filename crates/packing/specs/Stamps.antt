-- "hour, minute, step, year, month, day": a caller's stamp is these six numbers.
use Rattle.std.specs.Prelude.{ℕ}
use Rattle.stamps.specs.declared.Stamp.{Stamp}

abbrev pub stamp_of : ℕ → ℕ → ℕ → ℕ → ℕ → ℕ → Stamp
stamp_of hour minute step year month day = record { hour = hour; minute = minute; step = step; year = year; month = month; day = day }
