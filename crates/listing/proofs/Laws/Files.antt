-- The files' text, slot by slot.
use Rattle.std.specs.Prelude.{ℕ, zero, suc, ◌+◌, Bool, true, false, List, ◌++◌, ◌≡◌}
use native.Mathlib.Omega.{arith}
use Rattle.std.proofs.Common.{sym, ◌∙◌}
use Rattle.std.proofs.lemmas.List.{append_assoc, append-nil}
use Rattle.fields.specs.Fields.{name_of, attr_of, time_of, date_of, start_of, size_of}
use Rattle.directory.specs.Slots.{standing_of, is_plain}
use Rattle.text.specs.declared.page.Page.{Page}
use Rattle.text.specs.Aids.Pages.{Adds}
use Rattle.text.proofs.Laws.Pages.{adds_nothing, adds_then}
use Rattle.lines.specs.Lines.{file_text}
use Rattle.listing.specs.Listing.{entry_text, slot_text, files_text}

-- ---- a slot

-- the fields as they were read
pub adds_entry : (l : List ℕ) (a : ℕ) (name : List ℕ) (attr size start date time : ℕ) (p q : Page)
    → name ≡ name_of l a → attr ≡ attr_of l a → size ≡ size_of l a → start ≡ start_of l a → date ≡ date_of l a → time ≡ time_of l a
    → Adds (file_text name attr size start date time) p q → Adds (entry_text l a) p q
unfolding entry_text
adds_entry l a name attr size start date time p q e f g h i j k = rw (← e, ← f, ← g, ← h, ← i, ← j) k

module _ (l : List ℕ) (a : ℕ) (b : Bool) (is : b ≡ is_plain (standing_of l a)) where
  pub adds_slot : (p q : Page) → b ≡ true → Adds (entry_text l a) p q → Adds (slot_text l a) p q
  unfolding slot_text
  adds_slot p q e f = rw (sym is ∙ e) f

  pub adds_no_file : (p : Page) → b ≡ false → Adds (slot_text l a) p p
  unfolding slot_text
  adds_no_file p e = rw (sym is ∙ e) (adds_nothing p)

-- ---- the slots

pub adds_no_slots : (l : List ℕ) (way : ℕ → ℕ) (s : ℕ) (p : Page) → Adds (files_text l way s 0) p p
unfolding files_text
adds_no_slots l way s p = adds_nothing p

-- one slot more
files_more : (l : List ℕ) (way : ℕ → ℕ) (s n : ℕ) → files_text l way s (suc n) ≡ files_text l way s n ++ slot_text l (way (s + n))
unfolding files_text
files_more l way s zero = let e : s + 0 ≡ s = omega arith in rw e (append-nil (slot_text l (way s)))
files_more l way s (suc n) =
    let e : s + suc n ≡ s + 1 + n = omega arith in
    rw (e, files_more l way (s + 1) n) (sym (append_assoc (slot_text l (way s)) (files_text l way (s + 1) n) (slot_text l (way (s + 1 + n)))))

pub adds_more_slots : (l : List ℕ) (way : ℕ → ℕ) (n : ℕ) (p q r : Page) → Adds (files_text l way 0 n) p q → Adds (slot_text l (way n)) q r → Adds (files_text l way 0 (n + 1)) p r
adds_more_slots l way n p q r f g =
    let d : n + 1 ≡ suc n = omega arith in
    let e : 0 + n ≡ n = omega arith in
    rw (d, files_more l way 0 n, e) (adds_then (files_text l way 0 n) (slot_text l (way n)) p q r f g)
