-- The listing case, proved: format, then a first file, then a second.
use Rattle.std.specs.Prelude.{ℕ, zero, suc, ◌-◌, ◌≤◌, ◌<◌, true, false, List, ◌++◌, ◌≢◌, ◌≡◌, refl, length, get_or, replicate, Some, None, is_some, Option}
use Rattle.std.proofs.Common.{arith, sym, ap, ap₂, ◌∙◌, subst, eq-eqb}
use Rattle.std.proofs.Math.Decide.{ℕ_discrete}
use Rattle.image.specs.Bytes.{Bytes}
use Rattle.chains.specs.Aids.Put.{put}
use Rattle.chains.specs.Sizes.{clusters_for}
use Rattle.chains.proofs.Laws.Put.{put_same, put_other}
use Rattle.diskette.specs.Kinds.{named, kind_fe}
use Rattle.diskette.specs.Aids.Usable.{Usable}
use Rattle.diskette.specs.Places.{clusters}
use Rattle.diskette.proofs.Laws.Kinds.{named_usable}
use Rattle.names.specs.Alphabet.{plain, allowed, capital}
use Rattle.names.specs.Reading.{name_given, fitting, before_first, after_first, name_bytes}
use Rattle.names.specs.Spelling.{every, eleven}
use Rattle.stamps.specs.Stamps.{packed, time_fits, date_fits}
use Rattle.formatting.specs.Format.{blank, formatted}
use Rattle.formatting.proofs.Laws.Blank.{blank_slot}
use Rattle.calls.specs.Refusals.{bad_attr}
use Rattle.closing.specs.Close.{archived}
use Rattle.changes.specs.Files.{File, file, Files, ShowsAt}
use Rattle.history.specs.Aids.Ours.{run}
use Rattle.history.specs.ListingCase.{tare_given, tare_name, day_given, day_name, time_then, file_calls, listing_calls, listing_files, ListingEnds, ListingCase}
use Rattle.history.specs.World.{World, world}
use Rattle.history.proofs.Laws.Blank.{blank_begins, blank_shows, blank_free, blank_none, formatted_blank}
use Rattle.history.proofs.Laws.FileMade.{file_stamp, other_stamp, file_answers, file_made}
use Rattle.history.proofs.Laws.HasFiles.{HasFiles, GoodFile, verdict_of}

-- ---- what the checker computes

usable : Usable kind_fe
unfolding named
usable = named_usable 0xFE (named 0xFE) kind_fe refl refl

pub tare_read : name_given tare_given ≡ Some tare_name
unfolding name_given fitting before_first after_first every allowed plain eleven capital
tare_read = refl

pub day_read : name_given day_given ≡ Some day_name
unfolding name_given fitting before_first after_first every allowed plain eleven capital
day_read = refl

tare_stamped : packed (time_then 6 40 0) ≡ Some (0x3500, 0x0721)
unfolding packed time_fits date_fits
tare_stamped = refl

pub day_stamped : packed (time_then 18 5 29) ≡ Some (0x90BD, 0x0721)
unfolding packed time_fits date_fits
day_stamped = refl

tare_attr : (bad_attr 0x01 ≡ false) × (archived 0x01 ≡ 0x21)
unfolding bad_attr archived
tare_attr = (refl, refl)

pub day_attr : (bad_attr 0x00 ≡ false) × (archived 0x00 ≡ 0x20)
unfolding bad_attr archived
day_attr = (refl, refl)

all_free : clusters kind_fe ≡ 313
unfolding clusters
all_free = refl

needs : (clusters_for 512 40 ≡ 1) × (clusters_for 512 1025 ≡ 3)
unfolding clusters_for
needs = (refl, refl)

-- ---- the volume at first

abbrev no_files : Files
no_files = λ s. None

abbrev at_first : World
at_first = world (blank kind_fe) (replicate 16 0)

begins : HasFiles kind_fe at_first no_files 0 313
unfolding named
begins = record {
  stands = record {
    begins = blank_begins kind_fe usable refl (replicate 16 0);
    shows = blank_shows kind_fe usable refl;
    above = λ t h i. blank_slot kind_fe usable t i;
  };
  never = blank_slot kind_fe usable 0 (omega arith);
  below = λ t h. absurd (omega arith);
  free_are = blank_free kind_fe usable refl ∙ all_free;
  out_of_use_none = blank_none kind_fe usable refl;
  table = refl;
}

-- ---- the files that are made

none_is_none : (f : File) → None ≡ Some f → ⊥
none_is_none f e = let z : ◌≡◌ {A = ℕ} 0 1 = cc in omega arith

module _ (tare : List ℕ) (bytes : Bytes tare) (long : length tare ≡ 40) where
  good_tare : GoodFile kind_fe no_files 313 tare_given 0x01 tare (time_then 6 40 0)
  good_tare = record {
    fits = ap is_some tare_read;
    long = ap (λ (x : Option (List ℕ)). length (name_bytes x)) tare_read;
    new_name = λ t f e. absurd (none_is_none f e);
    may = tare_attr.0;
    time = 0x3500;
    date = 0x0721;
    stamped = tare_stamped;
    small_time = omega arith;
    small_date = omega arith;
    bytes = bytes;
    some_bytes = omega (arith, long);
    few_bytes = omega (arith, long);
    room = omega (arith, long);
  }

  -- the files after the first
  abbrev pub first_files : Files
  first_files = put no_files 0 (Some (file (name_bytes (name_given tare_given)) (archived 0x01) tare))

  pub other_name : (t : ℕ) (f : File) → first_files t ≡ Some f → f.name ≢ name_bytes (name_given day_given)
  other_name t f e same = elim (ℕ_discrete t 0) [
    | yes z ↦
        let q : Some (file (name_bytes (name_given tare_given)) (archived 0x01) tare) ≡ Some f
        = sym (put_same no_files 0 (Some (file (name_bytes (name_given tare_given)) (archived 0x01) tare)) t z) ∙ e in
        let r : file (name_bytes (name_given tare_given)) (archived 0x01) tare ≡ f = cc in
        let n : tare_name ≡ day_name
        = sym (ap name_bytes tare_read) ∙ ap (λ (x : File). x.name) r ∙ same ∙ ap name_bytes day_read in
        let d : ◌≡◌ {A = ℕ} 0x54 0x44 = ap (λ (x : List ℕ). get_or x 0 0) n in
        omega arith
    | no d ↦ none_is_none f (sym (put_other no_files 0 (Some (file (name_bytes (name_given tare_given)) (archived 0x01) tare)) t d) ∙ e)
  ]

  abbrev pub one_file : World
  one_file = run at_first (file_calls tare_given 0x01 tare (time_then 6 40 0))

  pub first_made : HasFiles kind_fe one_file first_files 1 312
  first_made =
      let e : 313 - clusters_for 512 (length tare) ≡ 312 = rw (long, needs.0) in
      subst (HasFiles kind_fe one_file first_files 1) e
      (file_made kind_fe at_first no_files 0 313 begins (omega arith) tare_given 0x01 tare (time_then 6 40 0) good_tare (omega arith))

  -- bytes for a second file
  pub good_day : (day : List ℕ) → Bytes day → 0 < length day → length day ≤ 1025
      → GoodFile kind_fe first_files 312 day_given 0x00 day (time_then 18 5 29)
  good_day day day_bytes many few = record {
    fits = ap is_some day_read;
    long = ap (λ (x : Option (List ℕ)). length (name_bytes x)) day_read;
    new_name = other_name;
    may = day_attr.0;
    time = 0x90BD;
    date = 0x0721;
    stamped = day_stamped;
    small_time = omega arith;
    small_date = omega arith;
    bytes = day_bytes;
    some_bytes = many;
    few_bytes = omega arith;
    room = omega arith;
  }

  module _ (day : List ℕ) (day_bytes : Bytes day) (day_long : length day ≡ 1025) where
    good : GoodFile kind_fe first_files 312 day_given 0x00 day (time_then 18 5 29)
    good = good_day day day_bytes (omega (arith, day_long)) (omega (arith, day_long))

    abbrev both_files : Files
    both_files = put first_files 1 (Some (file (name_bytes (name_given day_given)) (archived 0x00) day))

    abbrev two_files : World
    two_files = run one_file (file_calls day_given 0x00 day (time_then 18 5 29))

    second_made : HasFiles kind_fe two_files both_files 2 309
    second_made =
        let e : 312 - clusters_for 512 (length day) ≡ 309 = rw (day_long, needs.1) in
        subst (HasFiles kind_fe two_files both_files 2) e
        (file_made kind_fe one_file first_files 1 312 first_made (omega arith) day_given 0x00 day (time_then 18 5 29) good (omega arith))

    -- ---- what was promised

    as_listed : (t : ℕ) → both_files t ≡ listing_files tare day t
    as_listed zero =
        put_other first_files 1 _ 0 (λ e. omega arith) ∙ put_same no_files 0 _ 0 refl
        ∙ ap₂ (λ name attr. Some (file name attr tare)) (ap name_bytes tare_read) tare_attr.1
    as_listed (suc zero) =
        put_same first_files 1 _ 1 refl ∙ ap₂ (λ name attr. Some (file name attr day)) (ap name_bytes day_read) day_attr.1
    as_listed (suc (suc s)) = put_other first_files 1 _ (suc (suc s)) (λ e. omega arith) ∙ put_other no_files 0 _ (suc (suc s)) (λ e. omega arith)

    ends : ListingEnds at_first two_files tare day
    ends = record {
      verdict = verdict_of kind_fe two_files both_files 2 309 second_made (omega arith) ∙ rw all_free;
      files = λ t. subst (ShowsAt kind_fe two_files.image t) (as_listed t) (second_made.stands.shows t);
      tare_stamp =
          other_stamp kind_fe one_file first_files 1 312 first_made (omega arith) day_given 0x00 day (time_then 18 5 29) good 0 (omega arith)
          (λ e. omega arith) (time_then 6 40 0)
          (file_stamp kind_fe at_first no_files 0 313 begins (omega arith) tare_given 0x01 tare (time_then 6 40 0) good_tare);
      day_stamp = file_stamp kind_fe one_file first_files 1 312 first_made (omega arith) day_given 0x00 day (time_then 18 5 29) good;
      table = second_made.table;
      answered_so =
          ap₂ ◌++◌ (file_answers kind_fe at_first no_files 0 313 begins (omega arith) tare_given 0x01 tare (time_then 6 40 0) good_tare)
          (file_answers kind_fe one_file first_files 1 312 first_made (omega arith) day_given 0x00 day (time_then 18 5 29) good)
          ∙ rw (long, day_long);
    }

pub listing_case : ListingCase
unfolding named formatted
listing_case img tare day e bytes long day_bytes day_long =
    let is_blank = formatted_blank kind_fe usable refl img e in
    let after_first = ends tare bytes long day day_bytes day_long in
    let begun : List ℕ → World = λ l. world l (replicate 16 0) in
    let Ends : List ℕ → Type 0 = λ l. ListingEnds (begun l) (run (begun l) (listing_calls tare day)) tare day in
    (rw (eq-eqb (length img) 163840 e), subst Ends (sym is_blank) after_first)
