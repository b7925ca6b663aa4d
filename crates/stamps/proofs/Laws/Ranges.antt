-- The tests of the ranges say what the ranges are.
use Rattle.std.specs.Prelude.{ℕ, ◌≤◌, Bool, true, false, ◌&&◌, ◌≡◌, refl, leb}
use borrow.Author.Tests.{le-leb, leb-true}
use Rattle.stamps.specs.Stamps.{time_fits, date_fits, TimeInRange, DateInRange}

and_both : (a b : Bool) → (a && b) ≡ true → (a ≡ true) × (b ≡ true)
and_both true b p = (refl, p)
and_both false b p = (cc, cc)

-- both hold, in the order of the test
and_le : (m n : ℕ) (b : Bool) → (leb m n && b) ≡ true → (m ≤ n) × (b ≡ true)
and_le m n b p = let h = and_both (leb m n) b p in (leb-true m n h.0, h.1)

module _ (hour minute step : ℕ) where
  pub time_fits_lem : TimeInRange hour minute step → time_fits hour minute step ≡ true
  unfolding time_fits
  time_fits_lem r = rw (le-leb hour 23 r.hours, le-leb minute 59 r.minutes, le-leb step 29 r.steps)

  pub time_in_range : time_fits hour minute step ≡ true → TimeInRange hour minute step
  unfolding time_fits
  time_in_range p =
      let a = and_le hour 23 _ p in
      let b = and_le minute 59 _ a.1 in
      record { hours = a.0; minutes = b.0; steps = leb-true step 29 b.1 }

module _ (year month day : ℕ) where
  pub date_fits_lem : DateInRange year month day → date_fits year month day ≡ true
  unfolding date_fits
  date_fits_lem r =
      rw (
        le-leb year 119 r.years,
        le-leb 1 month r.month_low,
        le-leb month 12 r.month_high,
        le-leb 1 day r.day_low,
        le-leb day 31 r.day_high,
      )

  pub date_in_range : date_fits year month day ≡ true → DateInRange year month day
  unfolding date_fits
  date_in_range p =
      let a = and_le year 119 _ p in
      let b = and_le 1 month _ a.1 in
      let c = and_le month 12 _ b.1 in
      let d = and_le 1 day _ c.1 in
      record { years = a.0; month_low = b.0; month_high = c.0; day_low = d.0; day_high = leb-true day 31 d.1 }

-- ---- out of range

not-true : (b : Bool) → (b ≡ true → ⊥) → false ≡ b
not-true true n = absurd (n refl)
not-true false n = refl

pub time_out : (hour minute step : ℕ) → (TimeInRange hour minute step → ⊥) → false ≡ time_fits hour minute step
time_out hour minute step n = not-true (time_fits hour minute step) (λ e. n (time_in_range hour minute step e))

pub date_out : (year month day : ℕ) → (DateInRange year month day → ⊥) → false ≡ date_fits year month day
date_out year month day n = not-true (date_fits year month day) (λ e. n (date_in_range year month day e))
