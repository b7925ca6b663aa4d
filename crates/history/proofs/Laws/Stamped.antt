-- The stamp of an entry: that of the close that set it, until another call names its slot.
use Rattle.std.specs.Prelude.{ℕ, ◌+◌, ◌≤◌, ◌<◌, List, [], ◌∷◌, ◌≡◌, length, Option, Some}
use Rattle.std.proofs.Common.{arith, inr, ap₂, ◌∙◌}
use Rattle.image.proofs.Laws.Store.{length_stored}
use Rattle.image.specs.Numbers.{digits}
use Rattle.diskette.specs.Places.{slot_at}
use Rattle.diskette.specs.declared.Kind.{Kind}
use Rattle.directory.specs.Aids.Entries.{SameFields}
use Rattle.fields.specs.Fields.{attr_of, time_of, date_of, with_attr, with_time}
use Rattle.directory.proofs.Laws.Entries.{word_leaves, word_back}
use Rattle.stamps.specs.declared.Stamp.{Stamp}
use Rattle.closing.specs.Close.{archived, stamped}
use Rattle.history.specs.ListingCase.{HasStamp}

-- a stamp's two words
abbrev pub words : ℕ → ℕ → Option (ℕ × ℕ)
words time date = Some (time, date)

-- an entry with words stored in it has them
pub stamped_words : (l : List ℕ) (a time date : ℕ) → a + 32 ≤ length l → time < 65536 → date < 65536
    → words (time_of (stamped l a time date) a) (date_of (stamped l a time date) a) ≡ words time date
unfolding stamped
stamped_words l a time date fits h i =
    let marked = with_attr l a (archived (attr_of l a)) in
    let timed = with_time marked a time in
    let m : length marked ≡ length l = length_stored l (a + 11) (archived (attr_of l a) ∷ []) in
    let n : length timed ≡ length l = length_stored marked (a + 22) (digits time 2) ∙ m in
    ap₂ words
    ((word_leaves timed (a + 24) date a (omega (arith, n))).time (inr (omega arith)) ∙ word_back marked (a + 22) time h (omega (arith, m)))
    (word_back timed (a + 24) date i (omega (arith, n)))

-- an entry whose fields stay keeps its stamp
pub same_stamp : (k : Kind) (l m : List ℕ) (s : ℕ) (stamp : Stamp) → SameFields m (slot_at k s) l (slot_at k s) → HasStamp k l s stamp
    → HasStamp k m s stamp
same_stamp k l m s stamp x h = ap₂ words x.time x.date ∙ h
