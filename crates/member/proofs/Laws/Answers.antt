-- The answers in the form of the code's needs.
use Rattle.std.specs.Prelude.{ℕ, ◌+◌, ◌*◌, ◌/◌, ◌%◌, ◌≤◌, ◌<◌, false, List, ◌≡◌, refl, length, Option, Some, None}
use Rattle.std.proofs.Common.{arith, sym, ◌∙◌, ap}
use borrow.Author.Tests.{le-leb, lt-leb}
use Rattle.diskette.specs.Images.{kind_of_image}
use Rattle.diskette.specs.Aids.Usable.{Usable}
use Rattle.diskette.specs.Places.{root_entries, slot_at}
use Rattle.diskette.proofs.Laws.Images.{image_of_kind, image_usable, image_has_area}
use Rattle.diskette.proofs.Laws.Places.{slot_before_data}
use Rattle.diskette.specs.declared.Kind.{Kind}
use Rattle.fields.specs.Fields.{attr_of}
use Rattle.directory.specs.Slots.{standing_of}
use Rattle.directory.specs.declared.Standing.{Standing}
use Rattle.stamps.specs.Stamps.{time_read, date_read}
use Rattle.stamps.proofs.Laws.Ranges.{time_out, date_out}
use Rattle.stamps.proofs.Laws.Stamps.{read_no_time, read_no_date, time_again, date_again}
use Rattle.calls.specs.Numbers.{of_no_kind, out_of_range}
use Rattle.member.specs.Answers.{refusal_answer, standing_told, slot_told, date_told, time_told}

-- ---- a slot: r is the kind that was found

module _ (l : List ℕ) (s : ℕ) (r : Option Kind) (p : r ≡ kind_of_image l) where
  told_on : (x : ℕ) → x ≡ slot_told r l s → x ≡ slot_told (kind_of_image l) l s
  told_on x h = h ∙ ap (λ w. slot_told w l s) p

  pub not_of_a_kind : (x : ℕ) → x ≡ refusal_answer of_no_kind → r ≡ None → x ≡ slot_told (kind_of_image l) l s
  unfolding slot_told
  not_of_a_kind x h q = told_on x (h ∙ rw q)

  module _ (k : Kind) (q : r ≡ Some k) where
    pub kind_usable : Usable k
    kind_usable = image_usable l k (sym p ∙ q)

    pub no_such_slot : (n : ℕ) → n ≡ root_entries k → n ≤ s → 0 ≡ slot_told (kind_of_image l) l s
    unfolding slot_told
    no_such_slot n e h = told_on 0 (rw (q, le-leb (root_entries k) s (omega arith)))

    module _ (n : ℕ) (e : n ≡ root_entries k) (h : s < n) (a : ℕ) (g : a ≡ slot_at k s) where
      pub slot_within : a + 32 ≤ length l
      slot_within =
          let o = (image_of_kind l k).0 (sym p ∙ q) in
          omega (arith, slot_before_data k kind_usable s (omega arith), image_has_area l k o kind_usable)

      pub slot_told_lem : (m : Standing) (b x : ℕ) → m ≡ standing_of l a → b ≡ attr_of l a → x ≡ standing_told m b → x ≡ slot_told (kind_of_image l) l s
      unfolding slot_told
      slot_told_lem m b x d t y = told_on x (y ∙ rw (q, lt-leb (root_entries k) s (omega arith), d, t, g))

-- ---- a stored date and a stored time: v is the word in 16 bits, a what was read of it

module _ (w : ℕ) where
  pub date_told_lem : (v : ℕ) → v ≡ w → (a : Option (ℕ × ℕ × ℕ)) (year month day : ℕ) → a ≡ date_read v → a ≡ Some (year, month, day) → (1980 + year) * 10000 + month * 100 + day ≡ date_told (date_read w)
  unfolding date_told
  date_told_lem v is a year month day e f = rw (← is, ← e, f)

  pub no_date : (v : ℕ) → v ≡ w → (a : Option (ℕ × ℕ × ℕ)) (x : ℕ) → a ≡ date_read v → a ≡ None → x ≡ refusal_answer out_of_range → x ≡ date_told (date_read w)
  unfolding date_told
  no_date v is a x e f h = h ∙ rw (← is, ← e, f)

  -- a word has 16 bits; a larger number has a year above 119
  pub date_too_large : (x : ℕ) → 65535 < w → x ≡ refusal_answer out_of_range → x ≡ date_told (date_read w)
  date_too_large x h = no_date w refl None x (read_no_date w false (date_out _ _ _ (λ r. omega arith)) refl) refl

  pub time_told_lem : (v : ℕ) → v ≡ w → (a : Option (ℕ × ℕ × ℕ)) (hour minute step : ℕ) → a ≡ time_read v → a ≡ Some (hour, minute, step) → hour * 10000 + minute * 100 + step * 2 ≡ time_told (time_read w)
  unfolding time_told
  time_told_lem v is a hour minute step e f = rw (← is, ← e, f)

  pub no_time : (v : ℕ) → v ≡ w → (a : Option (ℕ × ℕ × ℕ)) (x : ℕ) → a ≡ time_read v → a ≡ None → x ≡ refusal_answer out_of_range → x ≡ time_told (time_read w)
  unfolding time_told
  no_time v is a x e f h = h ∙ rw (← is, ← e, f)

  -- and an hour above 23
  pub time_too_large : (x : ℕ) → 65535 < w → x ≡ refusal_answer out_of_range → x ≡ time_told (time_read w)
  time_too_large x h = no_time w refl None x (read_no_time w false (time_out _ _ _ (λ r. omega arith)) refl) refl

-- ---- the digits give the three numbers back, and fit the lower half: no refusal is taken for a stamp

abbrev Pairs : ℕ → ℕ → ℕ → ℕ → Type 0
Pairs x a b c = (x / 10000 ≡ a) × (x / 100 % 100 ≡ b) × (x % 100 ≡ c) × (x < 4294967296)

pairs : (a b c : ℕ) → a ≤ 2099 → b ≤ 99 → c ≤ 99 → Pairs (a * 10000 + b * 100 + c) a b c
pairs a b c p q r =
    let h : (a * 10000 + b * 100 + c) / 100 ≡ a * 100 + b = omega arith in
    (omega arith, omega arith, omega arith, omega arith)

pub date_digits : (w year month day : ℕ) → date_read w ≡ Some (year, month, day) → Pairs (date_told (date_read w)) (1980 + year) month day
unfolding date_told
date_digits w year month day e = let r = (date_again w year month day e).1 in rw e (pairs (1980 + year) month day (omega arith) (omega arith) (omega arith))

pub time_digits : (w hour minute step : ℕ) → time_read w ≡ Some (hour, minute, step) → Pairs (time_told (time_read w)) hour minute (step * 2)
unfolding time_told
time_digits w hour minute step e = let r = (time_again w hour minute step e).1 in rw e (pairs hour minute (step * 2) (omega arith) (omega arith) (omega arith))
