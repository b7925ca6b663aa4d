-- Seek: what it refuses and what it leaves, by its rows. Only one outcome fits.
use Rattle.std.specs.Prelude.{ℕ, ◌≤◌, List, [], ◌∷◌, ◌≡◌, refl, ltb, ℤ, Option, Result, Ok, Err, ok_or}
use Rattle.std.proofs.Common.{arith, sym, ap, ◌∙◌, subst, SFits, to_z, of_z, to_z-of_z}
use Rattle.std.specs.Int.{w32}
use borrow.Author.Tests.{le-ltb}
use Rattle.diskette.specs.Places.{root_entries, slot_at}
use Rattle.diskette.specs.declared.Kind.{Kind}
use Rattle.fields.specs.Fields.{size_of}
use Rattle.offset.specs.Offset.{moved_by}
use Rattle.opened.specs.Records.{slot_of, pointer_of, with_pointer}
use Rattle.opened.specs.Aids.Places.{live_slot}
use Rattle.calls.specs.declared.refusal.Refusal.{Refusal}
use Rattle.calls.specs.declared.refusal.Refusal.TheVariants.{InvalidFunction, InvalidHandle}
use Rattle.calls.proofs.Laws.Exits.{lacked, had}
use Rattle.calls.specs.Outcome.{Row, Outcome, refusal, decided}
use Rattle.calls.specs.Numbers.{invalid_function, refusal_number}
use Rattle.calls.specs.Aids.Ready.{OnVolume}
use Rattle.seeking.specs.declared.seek.Method.{Method}
use Rattle.seeking.specs.declared.seek.Method.TheVariants.{Start, Pointer, Size}
use Rattle.seeking.specs.Aids.Seek.{number_of, CountsBy}
use Rattle.seeking.specs.Seek.{seek_base, seek_moved, is_beyond, seek_rows, seek_outcome, Seeks}
use Rattle.calls.proofs.Laws.Rows.{Stops, stops_at, stopped, above_stops, above_past}
use Rattle.calls.proofs.Laws.Ready.{on_kind_lem, known_passed, sound_passed}
use Rattle.calls.proofs.Laws.Files.{live_passed}
use Rattle.calls.specs.Answers.{Answer}
use Rattle.calls.proofs.Laws.Told.{told_only}

pub seeks_only : {img t : List ℕ} {h method : ℕ} {offset : ℤ} {r r' : Answer} {m m' : List ℕ} → Seeks img t h method offset r m → Seeks img t h method offset r' m'
    → (r ≡ r') × (m ≡ m')
seeks_only x y =
    let e = x.is ∙ sym y.is in
    (told_only (ap (λ (o : Outcome). o.number) e) (ap (λ (o : Outcome). o.value) e), ap (λ (o : Outcome). o.table) e)

-- ---- the method: r is whose number it is

most : (m : Method) → number_of m ≤ 2
most Start = omega arith
most Pointer = omega arith
most Size = omega arith

module _ (method : ℕ) (r : Result Method Refusal) (counts : CountsBy method r) where
  pub method_stops : (e : Refusal) → r ≡ Err e → (rows : List Row) → Stops ((ltb 2 method, invalid_function) ∷ rows) (refusal_number e)
  method_stops e q rows = let h = rw q at counts in rw h.0 (above_stops 2 method invalid_function rows h.1 refl)

  pub method_past : (m : Method) → r ≡ Ok m → (i n : ℕ) (rows : List Row) → Stops rows n → Stops ((ltb 2 method, i) ∷ rows) n
  method_past m q i n rows x = let h = rw q at counts in above_past 2 method i rows (rw (← h) (most m)) n x

-- ---- from where the offset counts

module _ (img t : List ℕ) (h : ℕ) (m : Method) where
  pub base_start : m ≡ Start → 0 ≡ seek_base img t h (number_of m)
  unfolding seek_base
  base_start e = rw e

  pub base_pointer : m ≡ Pointer → (r : ℕ) → r ≡ pointer_of t h → r ≡ seek_base img t h (number_of m)
  unfolding seek_base
  base_pointer e r q = rw (e, q)

  pub base_size : m ≡ Size → (k : Kind) → OnVolume img k → (slot a : ℕ) → slot ≡ slot_of t h → a ≡ slot_at k slot → (r : ℕ) → r ≡ size_of img a
      → r ≡ seek_base img t h (number_of m)
  unfolding seek_base
  base_size e k v slot a f g r q = rw (e, on_kind_lem img k v, q, g, f)

-- ---- a signed number as it is handed on

abbrev handed : ℤ → ℤ
handed x = to_z w32 (of_z w32 x)

pub seek_handed : (img t : List ℕ) (h method : ℕ) (offset : ℤ) (a : Answer) (m : List ℕ) → SFits w32 offset → Seeks img t h method (handed offset) a m → Seeks img t h method offset a m
seek_handed img t h method offset a m fits x = subst (λ (z : ℤ). Seeks img t h method z a m) (to_z-of_z {w = w32} fits) x

-- ---- one row stops it, or all are passed: w is where the code found that it leads

pub seek_refused : {img t : List ℕ} {h method : ℕ} {offset : ℤ} {a : Answer} {e : Refusal} → a ≡ Err e → Stops (seek_rows img t h method offset) (refusal_number e)
    → Seeks img t h method offset a t
unfolding seek_outcome
seek_refused x q = record { is = rw x (sym (stopped _ _ q _ _ _ [])) }

module _ (img t : List ℕ) (h method : ℕ) (m : Method) (asked : number_of m ≡ method) (offset : ℤ) (base : ℕ) (from : base ≡ seek_base img t h (number_of m))
    (fits : SFits w32 offset) (w : Option ℕ) (moved : w ≡ moved_by base (handed offset)) (o : Result ℕ Refusal) (wanted : o ≡ ok_or w InvalidFunction) where
  leads : w ≡ seek_moved img t h method offset
  leads = moved ∙ rw (to_z-of_z {w = w32} fits, from, asked)

  pub beyond_stops : (e : Refusal) → o ≡ Err e → (rows : List Row) → Stops ((is_beyond (seek_moved img t h method offset), invalid_function) ∷ rows) (refusal_number e)
  beyond_stops e q rows =
      let l = lacked w InvalidFunction o wanted e q in
      rw (← l.1) (stops_at _ invalid_function rows (rw (← leads, l.0)) refl)

  pub seek_well : (k : Kind) → OnVolume img k → (f : Option ℕ) → f ≡ live_slot t h img (slot_at k) (root_entries k)
      → (g : Result ℕ Refusal) → g ≡ ok_or f InvalidHandle → (slot : ℕ) → g ≡ Ok slot
      → (p : ℕ) → o ≡ Ok p → (l : List ℕ) → l ≡ with_pointer t h p → (a : Answer) → a ≡ Ok p → Seeks img t h method offset a l
  unfolding seek_outcome decided refusal
  seek_well k v f found g live slot at p q l e a x = record {
    is = rw (x, known_passed img k v, sound_passed img k v, ← asked, le-ltb 2 (number_of m) (most m), live_passed img k t h f found g live slot at v, asked, ← leads, had w InvalidFunction o wanted p q, e);
  }
