-- The wrong libraries on one volume: that of the listing case after its first file, with 40 zeros as the tare.
use Rattle.std.specs.Prelude.{ℕ, List, [], ◌∷◌, ◌≢◌, ◌≡◌, refl, get_or, replicate, Some}
use Rattle.std.proofs.Common.{arith, ap}
use Rattle.image.proofs.Laws.Store.{bytes_zeros, bytes_one}
use Rattle.image.specs.Numbers.{number}
use Rattle.chains.specs.Write.{written}
use Rattle.chains.proofs.Laws.Put.{put_same}
use Rattle.chains.proofs.Laws.Tests.{clash}
use Rattle.diskette.specs.Kinds.{kind_fe}
use Rattle.diskette.specs.Places.{slot_at, root_entries}
use Rattle.names.specs.Reading.{name_given, name_bytes}
use Rattle.search.specs.Search.{lowest}
use Rattle.opened.specs.Places.{LivePlace, lowest_unused}
use Rattle.opened.specs.Records.{used_of, slot_of, access_of, pointer_of}
use Rattle.closing.specs.Close.{archived}
use Rattle.changes.specs.Files.{File, file, Files}
use Rattle.history.specs.Aids.WrongLibraries.{erases_first, takes_first, writes_through, unused, above}
use Rattle.history.specs.ListingCase.{tare_given, day_given, time_then}
use Rattle.history.specs.Promises.{FilesOfHistory, NamesAFile, AltersNoOther}
use Rattle.history.specs.World.{World, Library}
use Rattle.history.proofs.Laws.ListingCase.{first_files, one_file, first_made, good_day}
use Rattle.history.proofs.Laws.Spoils.{Spoils, spoils_others, spoils_files}
use Rattle.history.proofs.Laws.WrongLibraries.{Scene, erases_first_spoils, erases_first_strays, takes_first_spoils}
use Rattle.history.proofs.Laws.WrongLibraries.{writes_through_spoils, writes_through_strays}

abbrev zeros : List ℕ
zeros = replicate 40 0

abbrev before : World
before = one_file zeros (bytes_zeros 40) refl

abbrev files : Files
files = first_files zeros (bytes_zeros 40) refl

abbrev tare : File
tare = file (name_bytes (name_given tare_given)) (archived 0x01) zeros

scene : Scene kind_fe before files tare day_given 0x00 (1 ∷ []) (time_then 18 5 29)
scene = record {
  next = 1;
  free = 312;
  has = first_made zeros (bytes_zeros 40) refl;
  below = omega arith;
  here = put_same _ 0 (Some tare) 0 refl;
  good = good_day zeros (bytes_zeros 40) refl (1 ∷ []) (bytes_one 1 (omega arith)) (omega arith) (omega arith);
}

-- what a library breaks that alters a file which its caller did not name
abbrev Breaks : Library → Type 0
Breaks lib = (¬ AltersNoOther lib) × (¬ FilesOfHistory lib)

broken : {lib : Library} → Spoils lib → Breaks lib
broken x = (spoils_others x, spoils_files x)

-- ---- delete of a name that no file has erases the file in slot 0

pub erases_first_refused : Breaks erases_first × (¬ NamesAFile erases_first)
erases_first_refused = (broken (erases_first_spoils scene []), erases_first_strays scene [])

-- ---- create of a new name takes slot 0: place 0 is in use, and place 1 is not

pub takes_first_refused : Breaks takes_first
unfolding used_of lowest_unused lowest
takes_first_refused = broken (takes_first_spoils scene (1 ∷ replicate 31 0) refl 1 refl)

-- ---- write stores through a place that is not live

other_tare : written zeros 0 (1 ∷ []) ≢ zeros
unfolding written
other_tare e = let z : ◌≡◌ {A = ℕ} 1 0 = ap (λ (bytes : List ℕ). get_or bytes 0 0) e in omega arith

abbrev Live : List ℕ → Type 0
Live t = LivePlace t 0 before.image (slot_at kind_fe) (root_entries kind_fe)

-- an unused place
pub writes_unused_refused : Breaks (writes_through unused) × (¬ NamesAFile (writes_through unused))
unfolding used_of slot_of pointer_of number
writes_unused_refused =
    let t : List ℕ = replicate 16 0 in
    let dead : ¬ Live t = λ x. clash x.used refl in
    (broken (writes_through_spoils scene t unused refl refl refl dead other_tare), writes_through_strays scene t unused refl refl refl dead)

-- one with access 3
pub writes_above_refused : Breaks (writes_through above) × (¬ NamesAFile (writes_through above))
unfolding access_of slot_of pointer_of number
writes_above_refused =
    let t : List ℕ = 1 ∷ 3 ∷ replicate 14 0 in
    let dead : ¬ Live t = λ x. omega (arith, x.access) in
    (broken (writes_through_spoils scene t above refl refl refl dead other_tare), writes_through_strays scene t above refl refl refl dead)
