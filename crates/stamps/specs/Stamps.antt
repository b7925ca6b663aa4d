-- Document 01, "Directory entries": time and date. A caller's stamp is these six numbers.
use Rattle.std.specs.Prelude.{ℕ, ◌+◌, ◌*◌, ◌/◌, ◌%◌, ◌≤◌, Bool, ◌&&◌, cond, leb, Option, Some, None}
use Rattle.stamps.specs.declared.Stamp.{Stamp}

-- Time is hours, minutes, two-second steps: 0-23, 0-59, 0-29,
pub record TimeInRange (hour minute step : ℕ) : Type 0 where
  pub hours : hour ≤ 23
  pub minutes : minute ≤ 59
  pub steps : step ≤ 29

-- in 5, 6, 5 bits, highest first.
abbrev pub time_word : ℕ → ℕ → ℕ → ℕ
time_word hour minute step = hour * 2048 + minute * 32 + step

-- Date is year from 1980, month, day: 0-119, 1-12, 1-31,
pub record DateInRange (year month day : ℕ) : Type 0 where
  pub years : year ≤ 119
  pub month_low : 1 ≤ month
  pub month_high : month ≤ 12
  pub day_low : 1 ≤ day
  pub day_high : day ≤ 31

-- in 7, 4, 5 bits.
abbrev pub date_word : ℕ → ℕ → ℕ → ℕ
date_word year month day = year * 512 + month * 32 + day

-- ---- the ranges as tests

unfoldable pub time_fits : ℕ → ℕ → ℕ → Bool
time_fits hour minute step = leb hour 23 && (leb minute 59 && leb step 29)

unfoldable pub date_fits : ℕ → ℕ → ℕ → Bool
date_fits year month day = leb year 119 && (leb 1 month && (leb month 12 && (leb 1 day && leb day 31)))

-- ---- a stamp as two words; a stamp out of its ranges is refused by 43

unfoldable pub packed : Stamp → Option (ℕ × ℕ)
packed s =
    cond (time_fits s.hour s.minute s.step && date_fits s.year s.month s.day)
    (Some (time_word s.hour s.minute s.step, date_word s.year s.month s.day))
    None

-- ---- a word read back; an out-of-range date or time is none

unfoldable pub time_read : ℕ → Option (ℕ × ℕ × ℕ)
time_read w = cond (time_fits (w / 2048) (w / 32 % 64) (w % 32)) (Some (w / 2048, w / 32 % 64, w % 32)) None

unfoldable pub date_read : ℕ → Option (ℕ × ℕ × ℕ)
date_read w = cond (date_fits (w / 512) (w / 32 % 16) (w % 32)) (Some (w / 512, w / 32 % 16, w % 32)) None
