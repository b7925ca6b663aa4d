-- Document 01's listing case, from format to the last close. "Case: format FE; create TARE.KEY attribute 01, write 40 bytes,
-- close; create DAY001.LOG attribute 00, write 1,025, close; stamps, for create and close alike, 1983-09-01 06:40:00 for the
-- first file and 18:05:58 for the second." The bytes written may be any.
use Rattle.std.specs.Prelude.{ℕ, zero, suc, List, [], ◌∷◌, ◌++◌, ◌≡◌, length, replicate, Some, None, Ok}
use Rattle.image.specs.Bytes.{Bytes}
use Rattle.diskette.specs.Kinds.{kind_fe}
use Rattle.diskette.specs.Places.{slot_at}
use Rattle.diskette.specs.declared.Kind.{Kind}
use Rattle.fields.specs.Fields.{time_of, date_of}
use Rattle.stamps.specs.Stamps.{packed}
use Rattle.stamps.specs.declared.Stamp.{Stamp}
use Rattle.sound.specs.Judged.{check_of}
use Rattle.formatting.specs.Format.{formatted}
use Rattle.changes.specs.Files.{file, Files, Shows}
use Rattle.history.specs.World.{World, Call, world, step_by, run_by, ours, create, write, close}

-- ---- the names, as a caller gives them and as the 11 bytes of an entry

-- "TARE.KEY", "TARE    KEY"
abbrev pub tare_given : List ℕ
tare_given = 0x54 ∷ 0x41 ∷ 0x52 ∷ 0x45 ∷ 0x2E ∷ 0x4B ∷ 0x45 ∷ 0x59 ∷ []

abbrev pub tare_name : List ℕ
tare_name = 0x54 ∷ 0x41 ∷ 0x52 ∷ 0x45 ∷ 0x20 ∷ 0x20 ∷ 0x20 ∷ 0x20 ∷ 0x4B ∷ 0x45 ∷ 0x59 ∷ []

-- "DAY001.LOG", "DAY001  LOG"
abbrev pub day_given : List ℕ
day_given = 0x44 ∷ 0x41 ∷ 0x59 ∷ 0x30 ∷ 0x30 ∷ 0x31 ∷ 0x2E ∷ 0x4C ∷ 0x4F ∷ 0x47 ∷ []

abbrev pub day_name : List ℕ
day_name = 0x44 ∷ 0x41 ∷ 0x59 ∷ 0x30 ∷ 0x30 ∷ 0x31 ∷ 0x20 ∷ 0x20 ∷ 0x4C ∷ 0x4F ∷ 0x47 ∷ []

-- ---- the run

-- that time of 1983-09-01, in two-second steps
abbrev pub time_then : ℕ → ℕ → ℕ → Stamp
time_then hour minute step = record { hour = hour; minute = minute; step = step; year = 3; month = 9; day = 1 }

-- create, write and close of one file, by the handle 0
abbrev pub file_calls : List ℕ → ℕ → List ℕ → Stamp → List Call
file_calls name attr bytes stamp = create name attr stamp ∷ write 0 bytes ∷ close 0 stamp ∷ []

abbrev pub listing_calls : List ℕ → List ℕ → List Call
listing_calls tare day = file_calls tare_given 0x01 tare (time_then 6 40 0) ++ file_calls day_given 0x00 day (time_then 18 5 29)

-- ---- what it comes to

-- slots 0 and 1 hold the two files, with attributes 21 and 20; no other slot holds one
abbrev pub listing_files : List ℕ → List ℕ → Files
listing_files tare day zero = Some (file tare_name 0x21 tare)
listing_files tare day (suc zero) = Some (file day_name 0x20 day)
listing_files tare day (suc (suc s)) = None

-- the entry in slot s has the words of this stamp
abbrev pub HasStamp : Kind → List ℕ → ℕ → Stamp → Type 0
HasStamp k l s stamp = Some (time_of l (slot_at k s), date_of l (slot_at k s)) ≡ packed stamp

-- number and value of each answer of a run
abbrev pub answered : World → List Call → List (ℕ × ℕ)
answered w [] = []
answered w (c ∷ cs) = ((ours c w).number, (ours c w).value) ∷ answered (step_by ours w c) cs

-- w is the world at first, u the one after the last close
pub record ListingEnds (w u : World) (tare day : List ℕ) : Type 0 where
  -- sound, with 2 files, 309 clusters free, 4 held, "0 and 0" bad and reserved
  pub verdict : check_of u.image ≡ Ok (record { files = 2; free = 309; held = 4; bad = 0; reserved = 0 })
  pub files : Shows kind_fe u.image (listing_files tare day)
  pub tare_stamp : HasStamp kind_fe u.image 0 (time_then 6 40 0)
  pub day_stamp : HasStamp kind_fe u.image 1 (time_then 18 5 29)
  pub table : u.table ≡ replicate 16 0
  -- each call ends well: the handles are 0, the counts 40 and 1,025
  pub answered_so : answered w (listing_calls tare day) ≡ (0, 0) ∷ (0, 40) ∷ (0, 0) ∷ (0, 0) ∷ (0, 1025) ∷ (0, 0) ∷ []

-- from any image, of 163,840 bytes, after format FE, and an open table of one place, 16 zero bytes
abbrev pub ListingCase : Type 0
ListingCase = (img tare day : List ℕ) → length img ≡ 163840 → Bytes tare → length tare ≡ 40 → Bytes day → length day ≡ 1025 →
    let w = world (formatted 0xFE img).image (replicate 16 0) in
    ((formatted 0xFE img).number ≡ 0) × ListingEnds w (run_by ours w (listing_calls tare day)) tare day
