-- Close: what it refuses and what it leaves, by its rows. Only one outcome fits.
use Rattle.std.specs.Prelude.{ℕ, zero, suc, ◌+◌, ◌*◌, ◌/◌, ◌%◌, ◌<◌, Bool, true, false, cond, List, [], ◌≡◌, refl, Option, Result, Ok, Err, ok_or}
use Rattle.std.specs.Int.Bits.{bit_or, or_zero_r}
use Rattle.std.proofs.lemmas.Nat.{or_block}
use Rattle.std.proofs.Common.{arith, sym, ap, ◌∙◌}
use Rattle.std.proofs.lemmas.Bool.{eqb-false, eqb-true}
use Rattle.diskette.specs.Places.{root_entries, slot_at}
use Rattle.diskette.specs.declared.Kind.{Kind}
use Rattle.fields.specs.Fields.{attr_of, with_attr, with_time, with_date}
use Rattle.directory.specs.Slots.{has_bit}
use Rattle.stamps.specs.Stamps.{packed}
use Rattle.stamps.specs.declared.Stamp.{Stamp}
use Rattle.opened.specs.Records.{written_of, cleared}
use Rattle.opened.specs.Aids.Places.{live_slot}
use Rattle.calls.specs.declared.refusal.Refusal.{Refusal}
use Rattle.calls.specs.declared.refusal.Refusal.TheVariants.{OutOfRange, InvalidHandle}
use Rattle.calls.proofs.Laws.Exits.{had}
use Rattle.calls.specs.Numbers.{refusal_number}
use Rattle.calls.specs.Outcome.{Outcome, refusal, decided}
use Rattle.calls.specs.Aids.Ready.{OnVolume}
use Rattle.closing.specs.Close.{archived, stamped, close_rows, close_outcome, Closes}
use Rattle.calls.proofs.Laws.Rows.{Stops, stopped}
use Rattle.calls.proofs.Laws.Ready.{on_kind_lem, known_passed, sound_passed}
use Rattle.calls.proofs.Laws.Files.{live_passed, live_slot_lem}
use Rattle.calls.specs.Answers.{Answer}
use Rattle.calls.proofs.Laws.Told.{told_only}

pub closes_only : {img t : List ℕ} {h : ℕ} {s : Stamp} {r r' : Answer} {l l' m m' : List ℕ} → Closes img t h s r l m → Closes img t h s r' l' m'
    → (r ≡ r') × (l ≡ l') × (m ≡ m')
closes_only x y =
    let e = x.is ∙ sym y.is in
    (told_only (ap (λ (o : Outcome). o.number) e) (ap (λ (o : Outcome). o.value) e), ap (λ (o : Outcome). o.image) e, ap (λ (o : Outcome). o.table) e)

-- ---- bit 20

pub archived_fits : (attr : ℕ) (b : Bool) → b ≡ has_bit attr 0x20 → attr < 256 → b ≡ false → attr + 0x20 < 256
archived_fits attr b is h e = let d = eqb-false (attr / 32 % 2) 1 (sym is ∙ e) in omega arith

-- or sets it, whether it was there or not
last_set : (b : ℕ) → b < 2 → bit_or b 1 ≡ 1
last_set zero h = refl
last_set (suc zero) h = refl
last_set (suc (suc b)) h = absurd (omega arith)

set_lem : (n : ℕ) → bit_or n 0x20 ≡ (n / 32 / 2 * 2 + 1) * 32 + n % 32
set_lem n =
    let q : n / 32 * 32 + n % 32 ≡ n = omega arith in
    let h : n / 32 / 2 * 2 + n / 32 % 2 ≡ n / 32 = omega arith in
    let five : bit_or (n / 32 * 32 + n % 32) 0x20 ≡ bit_or (n / 32) 1 * 32 + bit_or (n % 32) 0 = or_block 5 (n / 32) 1 (n % 32) 0 (omega arith) (omega arith) in
    let one : bit_or (n / 32 / 2 * 2 + n / 32 % 2) 1 ≡ bit_or (n / 32 / 2) 0 * 2 + bit_or (n / 32 % 2) 1 = or_block 1 (n / 32 / 2) 0 (n / 32 % 2) 1 (omega arith) (omega arith) in
    let last : bit_or (n / 32 % 2) 1 ≡ 1 = last_set (n / 32 % 2) (omega arith) in
    rw q at five ∙ cc (or_zero_r (n % 32), or_zero_r (n / 32 / 2), rw h at one)

pub archived_is : (attr : ℕ) → bit_or attr 0x20 ≡ archived attr
unfolding archived
archived_is attr = by (has_bit attr 0x20) refl
  where
    by : (b : Bool) → has_bit attr 0x20 ≡ b → bit_or attr 0x20 ≡ cond b attr (attr + 0x20)
    by true e = let d = eqb-true (attr / 32 % 2) 1 e in omega (arith, set_lem attr)
    by false e = let d = eqb-false (attr / 32 % 2) 1 e in omega (arith, set_lem attr)

-- ---- the entry stamped, as the code stores it

module _ (l : List ℕ) (a attr v time date : ℕ) (was : attr ≡ attr_of l a) (l₁ : List ℕ) (e₁ : l₁ ≡ with_attr l a (bit_or attr 0x20)) where
  pub stamped_is : (l₂ l₃ : List ℕ) → l₂ ≡ with_time l₁ a time → l₃ ≡ with_date l₂ a date → l₃ ≡ stamped l a time date
  unfolding stamped
  stamped_is l₂ l₃ e₂ e₃ = rw (e₃, e₂, e₁, archived_is attr, was)

-- where the place says written
module _ (l n : List ℕ) (e time date : ℕ) (b w : Bool) (is : b ≡ w) where
  pub not_written : b ≡ false → n ≡ l → n ≡ cond w (stamped l e time date) l
  not_written h q = rw (sym is ∙ h) q

  pub was_written : b ≡ true → (a : ℕ) → a ≡ e → (m : List ℕ) → m ≡ stamped l a time date → n ≡ m → n ≡ cond w (stamped l e time date) l
  was_written h a at m stamp q = rw (sym is ∙ h, ← at) (q ∙ stamp)

-- ---- one row stops it, or all are passed

pub close_refused : {img t : List ℕ} {h : ℕ} {s : Stamp} {a : Answer} {e : Refusal} → a ≡ Err e → Stops (close_rows img t h s) (refusal_number e)
    → Closes img t h s a img t
unfolding close_outcome
close_refused x q = record { is = rw x (sym (stopped _ _ q _ _ _ [])) }

module _ (img t : List ℕ) (h : ℕ) (s : Stamp) (a : Answer) where
  pub close_well : (k : Kind) → OnVolume img k → (p : Option (ℕ × ℕ)) → p ≡ packed s → (r : Result (ℕ × ℕ) Refusal) → r ≡ ok_or p OutOfRange
      → (time date : ℕ) → r ≡ Ok (time, date) → (f : Option ℕ) → f ≡ live_slot t h img (slot_at k) (root_entries k)
      → (o : Result ℕ Refusal) → o ≡ ok_or f InvalidHandle → (slot : ℕ) → o ≡ Ok slot
      → (l : List ℕ) → l ≡ cond (written_of t h) (stamped img (slot_at k slot) time date) img → (m : List ℕ) → m ≡ cleared t h → a ≡ Ok 0 → Closes img t h s a l m
  unfolding close_outcome decided refusal
  close_well k v p pack r asked time date words f found o wanted slot at l j m c x = record {
    is = rw (x, j, c, live_slot_lem img k t h f found o wanted slot at, known_passed img k v, sound_passed img k v, ← pack, had p OutOfRange r asked (time, date) words, live_passed img k t h f found o wanted slot at v, on_kind_lem img k v);
  }
