-- Create: what it refuses and what it leaves, by its rows. Only one outcome fits.
use Rattle.std.specs.Prelude.{ℕ, ◌+◌, ◌≤◌, ◌<◌, Bool, false, not, List, [], ◌∷◌, ◌≡◌, refl, length, Option, Some, None, Result, Ok, Err, ok_or}
use Rattle.std.proofs.Common.{arith, sym, ap, ◌∙◌}
use Rattle.diskette.specs.Places.{root_entries, slot_at}
use Rattle.diskette.specs.declared.Kind.{Kind}
use Rattle.search.proofs.Laws.Meaning.{lowest_is}
use Rattle.search.specs.Search.{is_found}
use Rattle.fields.specs.Fields.{with_entry}
use Rattle.directory.specs.Search.{lowest_vacant, slot_named}
use Rattle.directory.specs.Aids.Search.{vacant_slot}
use Rattle.names.specs.Reading.{name_given}
use Rattle.stamps.specs.Stamps.{packed}
use Rattle.stamps.specs.declared.Stamp.{Stamp}
use Rattle.opened.specs.Places.{is_open, lowest_unused}
use Rattle.opened.specs.Records.{with_record}
use Rattle.calls.specs.declared.refusal.Refusal.{Refusal}
use Rattle.calls.specs.declared.refusal.Refusal.TheVariants.{AccessDenied, BreaksRules, OutOfRange, TooManyOpen}
use Rattle.calls.proofs.Laws.Exits.{had, lacked}
use Rattle.calls.specs.Outcome.{Row, Outcome, refusal, decided}
use Rattle.calls.specs.Numbers.{access_denied, refusal_number}
use Rattle.calls.specs.Refusals.{read_only, bad_attr, slot_for_new}
use Rattle.calls.specs.Aids.Ready.{OnVolume}
use Rattle.calls.proofs.Laws.Rows.{Stops, stops_at, stops_past, stopped}
use Rattle.calls.proofs.Laws.Ready.{on_kind_lem, on_usable, known_passed, sound_passed}
use Rattle.calls.proofs.Laws.Files.{found_is, below_by, slot_within}
use Rattle.calls.specs.Answers.{Answer}
use Rattle.calls.proofs.Laws.Told.{told_only}
use Rattle.freeing.specs.Freed.{chain_freed}
use Rattle.creating.specs.Create.{create_rows, create_outcome, Creates}
use Rattle.creating.specs.Aids.Create.{Empties, MakesNew, old_rows, new_rows}

pub creates_only : {img t s : List ℕ} {attr : ℕ} {stamp : Stamp} {r r' : Answer} {m m' u u' : List ℕ} → Creates img t s attr stamp r m u → Creates img t s attr stamp r' m' u'
    → (r ≡ r') × (m ≡ m') × (u ≡ u')
creates_only x y =
    let e = x.is ∙ sym y.is in
    (told_only (ap (λ (o : Outcome). o.number) e) (ap (λ (o : Outcome). o.value) e), ap (λ (o : Outcome). o.image) e, ap (λ (o : Outcome). o.table) e)

-- ---- one row stops it, or the last ones decide, of a new file and of an existing one

new_is : (img : List ℕ) (k : Kind) → OnVolume img k → slot_for_new img ≡ lowest_vacant img (slot_at k) (root_entries k)
unfolding slot_for_new
new_is img k v = rw (on_kind_lem img k v)

pub create_refused : {img t s : List ℕ} {attr : ℕ} {stamp : Stamp} {a : Answer} {e : Refusal} → a ≡ Err e → Stops (create_rows img t s attr stamp) (refusal_number e)
    → Creates img t s attr stamp a img t
unfolding create_outcome
create_refused x q = record { is = rw x (sym (stopped _ _ q _ _ _ [])) }

module _ (img t s : List ℕ) (attr : ℕ) (stamp : Stamp) (a : Answer) where
  module _ (k : Kind) (v : OnVolume img k) (g : Option (List ℕ)) (given : g ≡ name_given s)
      (r : Result (List ℕ) Refusal) (asked : r ≡ ok_or g BreaksRules) (name : List ℕ) (fits : r ≡ Ok name)
      (p : Option (ℕ × ℕ)) (pack : p ≡ packed stamp) (w : Result (ℕ × ℕ) Refusal) (wanted : w ≡ ok_or p OutOfRange) (time date : ℕ) (words : w ≡ Ok (time, date))
      (b : Bool) (bad : b ≡ bad_attr attr) (good : b ≡ false) (f : Option ℕ) (found : f ≡ slot_named img (slot_at k) (root_entries k) name) (l m : List ℕ) where
    named_so : g ≡ Some name
    named_so = had g BreaksRules r asked name fits

    packed_so : p ≡ Some (time, date)
    packed_so = had p OutOfRange w wanted (time, date) words

    pub create_new : f ≡ None → MakesNew img t k name attr time date a l m → Creates img t s attr stamp a l m
    unfolding create_outcome decided refusal
    create_new at y = record {
      is = rw (known_passed img k v, sound_passed img k v, found_is img k v s g given name named_so f found, new_is img k v, ← given, named_so, ← pack, packed_so, ← bad, good, at, on_kind_lem img k v) y.is;
    }

    pub create_old : (slot : ℕ) → f ≡ Some slot → Empties img t k slot name attr time date a l m → Creates img t s attr stamp a l m
    unfolding create_outcome decided refusal
    create_old slot at y = record {
      is = rw (known_passed img k v, sound_passed img k v, found_is img k v s g given name named_so f found, ← given, named_so, ← pack, packed_so, ← bad, good, at, on_kind_lem img k v) y.is;
    }

-- ---- an existing file

pub old_refused : {img t : List ℕ} {k : Kind} {slot : ℕ} {name : List ℕ} {attr time date : ℕ} {a : Answer} {e : Refusal} → a ≡ Err e → Stops (old_rows img t slot) (refusal_number e)
    → Empties img t k slot name attr time date a img t
old_refused x q = record { is = rw x (sym (stopped _ _ q _ _ _ [])) }

module _ (img t : List ℕ) (k : Kind) (slot : ℕ) (name : List ℕ) (attr time date : ℕ) (a : Answer) where
  pub empty_well : (o : Bool) → o ≡ is_open t slot → o ≡ false → (b : Bool) → b ≡ read_only img slot → b ≡ false
      → (f : Option ℕ) → f ≡ lowest_unused t → (p : Result ℕ Refusal) → p ≡ ok_or f TooManyOpen → (place : ℕ) → p ≡ Ok place
      → (e : ℕ) → e ≡ slot_at k slot → (l₁ l : List ℕ) → l₁ ≡ chain_freed k img e → l ≡ with_entry l₁ e name attr time date 0 0
      → (m : List ℕ) → m ≡ with_record t place 2 slot 0 false → a ≡ Ok place → Empties img t k slot name attr time date a l m
  unfolding decided refusal
  empty_well o used shut b kept free f found p wanted place there e i l₁ l j₁ j m c x = record {
    is = rw (x, j, j₁, c, i, ← used, shut, ← kept, free, ← found, had f TooManyOpen p wanted place there);
  }

-- ---- a new file

module _ (img : List ℕ) (k : Kind) (f : Option ℕ) (found : f ≡ lowest_vacant img (slot_at k) (root_entries k)) (o : Result ℕ Refusal) (wanted : o ≡ ok_or f AccessDenied) where
  pub open_below : (slot : ℕ) → o ≡ Ok slot → slot < root_entries k
  unfolding lowest_vacant
  open_below slot q = below_by (vacant_slot img (slot_at k)) (root_entries k) slot f (rw found (lowest_is (vacant_slot img (slot_at k)) 0 (root_entries k))) (had f AccessDenied o wanted slot q)

  pub open_at_most : (slot : ℕ) → o ≡ Ok slot → slot ≤ root_entries k
  open_at_most slot q = let h : slot < root_entries k = open_below slot q in omega arith

  pub open_fits : OnVolume img k → (slot : ℕ) → o ≡ Ok slot → slot < 4294967296
  open_fits v slot q =
      let h : slot < root_entries k = open_below slot q in
      let r : k.root ≤ 4096 = (on_usable img k v).few_slots in
      omega arith

  pub open_within : OnVolume img k → (slot : ℕ) → o ≡ Ok slot → (a : ℕ) → a ≡ slot_at k slot → a + 32 ≤ length img
  open_within v slot q a i = slot_within img k v slot a (open_below slot q) i

  pub slot_stops : (e : Refusal) → o ≡ Err e → (rows : List Row) → Stops ((not (is_found (lowest_vacant img (slot_at k) (root_entries k))), access_denied) ∷ rows) (refusal_number e)
  slot_stops e q rows =
      let l = lacked f AccessDenied o wanted e q in
      rw (← l.1) (stops_at _ access_denied rows (rw (← found, l.0)) refl)

  pub slot_past : (slot : ℕ) → o ≡ Ok slot → (m n : ℕ) (rows : List Row) → Stops rows n → Stops ((not (is_found (lowest_vacant img (slot_at k) (root_entries k))), m) ∷ rows) n
  slot_past slot q m n rows x = stops_past _ m n rows (rw (← found, had f AccessDenied o wanted slot q)) x

pub new_refused : {img t : List ℕ} {k : Kind} {name : List ℕ} {attr time date : ℕ} {a : Answer} {e : Refusal} → a ≡ Err e → Stops (new_rows img t k) (refusal_number e)
    → MakesNew img t k name attr time date a img t
new_refused x q = record { is = rw x (sym (stopped _ _ q _ _ _ [])) }

module _ (img t : List ℕ) (k : Kind) (name : List ℕ) (attr time date : ℕ) (a : Answer) where
  pub new_well : (f : Option ℕ) → f ≡ lowest_vacant img (slot_at k) (root_entries k) → (o : Result ℕ Refusal) → o ≡ ok_or f AccessDenied → (slot : ℕ) → o ≡ Ok slot
      → (g : Option ℕ) → g ≡ lowest_unused t → (p : Result ℕ Refusal) → p ≡ ok_or g TooManyOpen → (place : ℕ) → p ≡ Ok place
      → (e : ℕ) → e ≡ slot_at k slot → (l : List ℕ) → l ≡ with_entry img e name attr time date 0 0
      → (m : List ℕ) → m ≡ with_record t place 2 slot 0 false → a ≡ Ok place → MakesNew img t k name attr time date a l m
  unfolding decided refusal
  new_well f found o asked slot there g lowest p wanted place taken e i l j m c x = record {
    is = rw (x, j, c, i, ← found, had f AccessDenied o asked slot there, ← lowest, had g TooManyOpen p wanted place taken);
  }
