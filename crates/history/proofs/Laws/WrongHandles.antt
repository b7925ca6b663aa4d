-- The library that hands out slot 0 is refused, on a volume with a second file: its handle does not reach that file.
use Rattle.std.specs.Prelude.{ℕ, Bool, true, false, List, [], ◌∷◌, ◌≢◌, ◌≡◌, refl, replicate, Some, is_some}
use Rattle.std.proofs.Common.{arith, sym, ap, ◌∙◌, subst}
use Rattle.image.proofs.Laws.Store.{bytes_zeros, bytes_one}
use Rattle.chains.proofs.Laws.Put.{put_same}
use Rattle.diskette.specs.Kinds.{kind_fe}
use Rattle.diskette.specs.declared.Kind.{Kind}
use Rattle.names.specs.Reading.{name_given, name_bytes}
use Rattle.opened.specs.Places.{lowest_unused}
use Rattle.opened.proofs.Laws.Stores.{record_holds}
use Rattle.calls.specs.Aids.Ready.{OnVolume}
use Rattle.calls.specs.Refusals.{no_file, file_found, free_place}
use Rattle.calls.specs.Outcome.{refusal, decided}
use Rattle.opening.specs.Open.{open_effect, open_outcome}
use Rattle.changes.specs.Files.{File, Files, ShowsAt}
use Rattle.history.specs.Aids.WrongHandles.{opens_first}
use Rattle.history.specs.Handles.{HandsOutItsFile}
use Rattle.history.specs.ListingCase.{day_given, time_then}
use Rattle.history.specs.Meant.{HasName}
use Rattle.history.specs.World.{World, ours, open_file}
use Rattle.history.proofs.Laws.Begins.{on}
use Rattle.history.proofs.Laws.EndsWell.{place_free}
use Rattle.history.proofs.Laws.FileMade.{file_made}
use Rattle.history.proofs.Laws.Found.{found_at}
use Rattle.history.proofs.Laws.HasFiles.{HasFiles}
use Rattle.history.proofs.Laws.ListingCase.{first_files, one_file, first_made, good_day}
use Rattle.history.proofs.Laws.Meant.{means, no_name}

-- open for reading, of a file that is there
module _ (k : Kind) (w : World) (v : OnVolume w.image k) (name : List ℕ) (fits : is_some (name_given name) ≡ true) where
  there : (s : ℕ) → HasName k w.image name s → no_file w.image name ≡ false
  there s x = cases (no_file w.image name) refl
    where
      cases : (b : Bool) → no_file w.image name ≡ b → no_file w.image name ≡ false
      cases true e = absurd (no_name k w.image v name fits e s x)
      cases false e = e

  open_well : (s p : ℕ) → HasName k w.image name s → lowest_unused w.table ≡ Some p
      → ours (open_file name 0) w ≡ open_effect w.image w.table name 0
  unfolding open_outcome decided refusal
  open_well s p x place = rw (v.known, v.sound, fits, found_at (file_found w.image name) (there s x), place)

-- the volume has a file of this name in slot n, and the table has no place taken
module _ (k : Kind) (w : World) (fs : Files) (m free : ℕ) (x : HasFiles k w fs m free) (n : ℕ) (later : n ≢ 0)
    (f : File) (here : fs n ≡ Some f) (name : List ℕ) (fits : is_some (name_given name) ≡ true) (named : f.name ≡ name_bytes (name_given name)) where
  has : HasName k w.image name n
  has =
      let y = subst (ShowsAt k w.image n) here (x.stands.shows n) in
      record { is_file = y.is_file; meant = rw (y.name, named) (means name fits) }

  opens_first_strays : ¬ HandsOutItsFile opens_first
  opens_first_strays keeps =
      let o = open_well k w (on x.stands.begins) name fits n 0 has (ap lowest_unused x.table ∙ place_free) in
      let r = (keeps k w x.stands.begins [] tt).0 name 0 (rw o refl) n has in
      let taken = record_holds w.table (free_place w.table) (rw o at r.lowest.0.0) 0 0 0 false (omega arith) (omega arith) in
      later (sym (rw o at r.reaches.slot) ∙ taken.slot)

-- the volume of the listing case, with 40 zeros in the first file and one byte in the second
pub opens_first_refused : ¬ HandsOutItsFile opens_first
opens_first_refused =
    let zeros : List ℕ = replicate 40 0 in
    let day = time_then 18 5 29 in
    let good = good_day zeros (bytes_zeros 40) refl (1 ∷ []) (bytes_one 1 (omega arith)) (omega arith) (omega arith) in
    let made
    = file_made kind_fe (one_file zeros (bytes_zeros 40) refl) (first_files zeros (bytes_zeros 40) refl) 1 312 (first_made zeros (bytes_zeros 40) refl)
    (omega arith) day_given 0x00 (1 ∷ []) day good (omega arith) in
    opens_first_strays kind_fe _ _ 2 _ made 1 (omega arith) _ (put_same _ 1 _ 1 refl) day_given good.fits refl
