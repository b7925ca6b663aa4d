-- Packing and reading back are inverse in range.
use Rattle.std.specs.Prelude.{ℕ, ◌/◌, ◌%◌, Bool, true, false, cond, ◌≡◌, refl, Option, Some, None}
use Rattle.std.proofs.Common.{arith, ap}
use Rattle.stamps.specs.Stamps.{time_fits, date_fits, TimeInRange, DateInRange, time_word, date_word, time_read, date_read}
use Rattle.stamps.proofs.Laws.Ranges.{time_fits_lem, time_in_range, date_fits_lem, date_in_range}

-- ---- out of range

module _ (w : ℕ) (t : Bool) where
  pub read_no_time : t ≡ time_fits (w / 2048) (w / 32 % 64) (w % 32) → t ≡ false → None ≡ time_read w
  unfolding time_read
  read_no_time p e = rw (← p, e)

  pub read_no_date : t ≡ date_fits (w / 512) (w / 32 % 16) (w % 32) → t ≡ false → None ≡ date_read w
  unfolding date_read
  read_no_date p e = rw (← p, e)

-- ---- what was packed is read back

pub time_back : (h m s : ℕ) → TimeInRange h m s → time_read (time_word h m s) ≡ Some (h, m, s)
unfolding time_read
time_back h m s r =
    let a : time_word h m s / 2048 ≡ h = omega arith in
    let b : time_word h m s / 32 % 64 ≡ m = omega arith in
    let c : time_word h m s % 32 ≡ s = omega arith in
    rw (a, b, c, time_fits_lem h m s r)

pub date_back : (y m d : ℕ) → DateInRange y m d → date_read (date_word y m d) ≡ Some (y, m, d)
unfolding date_read
date_back y m d r =
    let a : date_word y m d / 512 ≡ y = omega arith in
    let b : date_word y m d / 32 % 16 ≡ m = omega arith in
    let c : date_word y m d % 32 ≡ d = omega arith in
    rw (a, b, c, date_fits_lem y m d r)

-- ---- what was read packs to the same word

pub time_again : (w h m s : ℕ) → time_read w ≡ Some (h, m, s) → (time_word h m s ≡ w) × TimeInRange h m s
unfolding time_read
time_again w h m s e = go (time_fits (w / 2048) (w / 32 % 64) (w % 32)) refl e
  where
    go : (b : Bool) → time_fits (w / 2048) (w / 32 % 64) (w % 32) ≡ b → cond {A = Option (ℕ × ℕ × ℕ)} b (Some (w / 2048, w / 32 % 64, w % 32)) None ≡ Some (h, m, s) → (time_word h m s ≡ w) × TimeInRange h m s
    go true p q =
        let same : ◌≡◌ {A = ℕ × ℕ × ℕ} (w / 2048, w / 32 % 64, w % 32) (h, m, s) = cc in
        let a : w / 2048 ≡ h = ap (λ (t : ℕ × ℕ × ℕ). t.0) same in
        let b : w / 32 % 64 ≡ m = ap (λ (t : ℕ × ℕ × ℕ). t.1) same in
        let c : w % 32 ≡ s = ap (λ (t : ℕ × ℕ × ℕ). t.2) same in
        let k : w / 32 / 64 ≡ w / 2048 = omega arith in
        (omega arith, rw (a, b, c) at (time_in_range _ _ _ p))
    go false p q = absurd (let z : ◌≡◌ {A = ℕ} 0 1 = cc in omega arith)

pub date_again : (w y m d : ℕ) → date_read w ≡ Some (y, m, d) → (date_word y m d ≡ w) × DateInRange y m d
unfolding date_read
date_again w y m d e = go (date_fits (w / 512) (w / 32 % 16) (w % 32)) refl e
  where
    go : (b : Bool) → date_fits (w / 512) (w / 32 % 16) (w % 32) ≡ b → cond {A = Option (ℕ × ℕ × ℕ)} b (Some (w / 512, w / 32 % 16, w % 32)) None ≡ Some (y, m, d) → (date_word y m d ≡ w) × DateInRange y m d
    go true p q =
        let same : ◌≡◌ {A = ℕ × ℕ × ℕ} (w / 512, w / 32 % 16, w % 32) (y, m, d) = cc in
        let a : w / 512 ≡ y = ap (λ (t : ℕ × ℕ × ℕ). t.0) same in
        let b : w / 32 % 16 ≡ m = ap (λ (t : ℕ × ℕ × ℕ). t.1) same in
        let c : w % 32 ≡ d = ap (λ (t : ℕ × ℕ × ℕ). t.2) same in
        let k : w / 32 / 16 ≡ w / 512 = omega arith in
        (omega arith, rw (a, b, c) at (date_in_range _ _ _ p))
    go false p q = absurd (let z : ◌≡◌ {A = ℕ} 0 1 = cc in omega arith)
