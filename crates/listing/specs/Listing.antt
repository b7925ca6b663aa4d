-- What the listing program prints of a system area.
use Rattle.std.specs.Prelude.{ℕ, zero, suc, ◌+◌, cond, List, [], ◌++◌, ◌≡◌, leb, length, Option, Some, None, Result, Ok, Err}
use Rattle.image.specs.Store.{stored}
use Rattle.diskette.specs.Images.{kind_of_area}
use Rattle.diskette.specs.Places.{clusters, root_entries, slot_at}
use Rattle.diskette.specs.declared.Kind.{Kind}
use Rattle.fields.specs.Fields.{name_of, attr_of, time_of, date_of, start_of, size_of}
use Rattle.directory.specs.Slots.{standing_of, is_plain}
use Rattle.sound.specs.Judged.{check_of_area}
use Rattle.sound.specs.Numbers.{number_of, place_of}
use Rattle.sound.specs.declared.Counts.{Counts}
use Rattle.sound.specs.declared.Finding.{Finding}
use Rattle.lines.specs.Lines.{file_text, sound_text, unsound_text}

-- ---- the files

-- a file's lines, with the fields as stored in the entry that stands at byte a
unfoldable pub entry_text : List ℕ → ℕ → List ℕ
entry_text l a = file_text (name_of l a) (attr_of l a) (size_of l a) (start_of l a) (date_of l a) (time_of l a)

-- the label, an erased and a never used entry have none
unfoldable pub slot_text : List ℕ → ℕ → List ℕ
slot_text l a = cond (is_plain (standing_of l a)) (entry_text l a) []

-- Files come in slot order: those of n slots from slot s on; way takes a slot to the byte at which its entry starts
unfoldable pub files_text : List ℕ → (ℕ → ℕ) → ℕ → ℕ → List ℕ
files_text l way s zero = []
files_text l way s (suc n) = slot_text l (way s) ++ files_text l way (s + 1) n

-- ---- the whole

-- of a volume of the kind k, by what check answers of it. If not sound: `sound=no`, `finding=`, `place=` only.
unfoldable pub volume_text : Kind → List ℕ → Result Counts Finding → List ℕ
volume_text k l (Ok n) =
    sound_text k.byte (clusters k) n.free n.held n.bad n.reserved n.files ++ files_text l (slot_at k) 0 (root_entries k)
volume_text k l (Err finding) = unsound_text (number_of finding) (place_of finding)

-- finding 1: Not of a kind, or a system area that ends before the first data sector; place 0.
abbrev pub listing_by : Option Kind → List ℕ → List ℕ
listing_by (Some k) l = volume_text k l (check_of_area l)
listing_by None l = unsound_text 1 0

unfoldable pub listing_of : List ℕ → List ℕ
listing_of area = listing_by (kind_of_area area) area

-- the buffer lent for the text; no listing is longer
abbrev pub listing_room : ℕ
listing_room = 16384

-- for C: the listing is put into the buffer l, which is then m, and the answer r is its length. A buffer without that room stays
-- as it came, and the answer is 0.
pub record Lists (area l : List ℕ) (r : ℕ) (m : List ℕ) : Type 0 where
  pub count : r ≡ cond (leb listing_room (length l)) (length (listing_of area)) 0
  pub buffer : m ≡ cond (leb listing_room (length l)) (stored l 0 (listing_of area)) l
