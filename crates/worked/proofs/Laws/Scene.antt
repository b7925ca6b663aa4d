-- There is a scene such as P8 to P10 speak of: a blank volume with one file, and a table whose only place names it.
use Rattle.std.specs.Prelude.{ℕ, true, false, List, [], ◌∷◌, ◌≡◌, refl, length, Some, None, is_some}
use Rattle.std.proofs.Common.{arith}
use Rattle.image.specs.Bytes.{Bytes}
use Rattle.image.specs.Numbers.{number, digits}
use Rattle.diskette.specs.Kinds.{named, kind_fe}
use Rattle.diskette.specs.Aids.Usable.{Usable}
use Rattle.diskette.specs.Places.{root_entries, slot_at}
use Rattle.diskette.proofs.Laws.Kinds.{named_usable}
use Rattle.fields.specs.Fields.{with_entry}
use Rattle.directory.specs.Search.{lowest_vacant, slot_named}
use Rattle.names.specs.Alphabet.{plain, allowed, capital}
use Rattle.names.specs.Reading.{name_given, fitting, before_first, after_first, name_bytes}
use Rattle.names.specs.Spelling.{every, eleven}
use Rattle.opened.specs.Places.{LivePlace}
use Rattle.opened.specs.Records.{used_of, access_of, slot_of, pointer_of, record_bytes}
use Rattle.formatting.specs.Format.{blank}
use Rattle.formatting.proofs.Laws.Blank.{blank_bytes, blank_slot}
use Rattle.formatting.proofs.Laws.Sound.{blank_no_file, blank_on}
use Rattle.calls.specs.Aids.Ready.{OnVolume}
use Rattle.calls.specs.Refusals.{bad_attr, file_found, slot_for_new}
use Rattle.calls.proofs.Laws.Ready.{on_kind_lem, on_of_kind}
use Rattle.changes.specs.Files.{File, file, Holds}
use Rattle.changes.proofs.Laws.Changed.{on_sound, changed_on}
use Rattle.changes.proofs.Laws.Made.{new_changed, new_holds}
use Rattle.changes.proofs.Laws.NewSlot.{none_of_name, lowest_vacant_lem}
use Rattle.worked.specs.Worked.{Scene}

-- ---- the blank volume

usable : Usable kind_fe
unfolding named
usable = named_usable 0xFE (named 0xFE) kind_fe refl refl

on_blank : OnVolume (blank kind_fe) kind_fe
unfolding named
on_blank = blank_on kind_fe usable refl

bytes : Bytes (blank kind_fe)
unfolding named
bytes = blank_bytes kind_fe usable refl

-- ---- a file named A is made in slot 0

abbrev given : List ℕ
given = 0x41 ∷ []

fits : (is_some (name_given given) ≡ true) × (length (name_bytes (name_given given)) ≡ 11)
unfolding name_given fitting before_first after_first every allowed plain eleven capital
fits = (refl, refl)

may : bad_attr 0 ≡ false
unfolding bad_attr
may = refl

missing : slot_named (blank kind_fe) (slot_at kind_fe) (root_entries kind_fe) (name_bytes (name_given given)) ≡ None
unfolding file_found
missing = rw (on_kind_lem (blank kind_fe) kind_fe on_blank) at (none_of_name kind_fe (blank kind_fe) on_blank (λ s. None) (blank_no_file kind_fe usable) given fits.1 no_other)
  where
    no_other : (t : ℕ) (f : File) → None ≡ Some f → f.name ≡ name_bytes (name_given given) → ⊥
    no_other t f e q = let z : ◌≡◌ {A = ℕ} 0 1 = cc (e) in omega arith

vacant : lowest_vacant (blank kind_fe) (slot_at kind_fe) (root_entries kind_fe) ≡ Some 0
unfolding slot_for_new
vacant = rw (on_kind_lem (blank kind_fe) kind_fe on_blank) at
    (lowest_vacant_lem kind_fe (blank kind_fe) on_blank (λ s. None) (blank_no_file kind_fe usable) 0 (omega arith) (λ t h. absurd (omega arith)) (blank_slot kind_fe usable 0 (omega arith)))

abbrev image : List ℕ
image = with_entry (blank kind_fe) (slot_at kind_fe 0) (name_bytes (name_given given)) 0 0 0 0 0

on : OnVolume image kind_fe
on = changed_on kind_fe (blank kind_fe) on_blank image 0 [] (new_changed kind_fe (blank kind_fe) on_blank bytes given fits.0 0 may 0 0 0 missing vacant)

made : Holds kind_fe image 0 (file (name_bytes (name_given given)) 0 [])
made = new_holds kind_fe (blank kind_fe) on_blank bytes given fits.0 0 may 0 0 0 missing vacant

-- ---- the only place of the table: slot 0, access 2, pointer 10

abbrev table : List ℕ
table = record_bytes true 2 0 10 false

live : LivePlace table 0 image (slot_at kind_fe) (root_entries kind_fe)
unfolding used_of access_of slot_of record_bytes number digits
live = record { counted = omega arith; used = refl; access = omega arith; slot = omega arith; plain = made.is_file.plain }

pub scene : Scene
unfolding pointer_of record_bytes number digits
scene = record {
  kind = kind_fe;
  image = image;
  table = table;
  handle = 0;
  of_kind = on_of_kind image kind_fe on;
  sound = on_sound kind_fe image on;
  live = live;
  pointer = refl;
}
