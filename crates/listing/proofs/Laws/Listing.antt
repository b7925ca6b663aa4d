-- The listing by what check answers of the area.
use Prim.Native.Nat.{ℕ, ◌+◌, ◌*◌, ◌≤◌, ◌<◌}
use Rattle.std.proofs.Common.{arith, sym, ◌∙◌, subst, le-leb}
use mathlib.Core.List.{List, []}
use Rattle.std.specs.Prelude.{◌≡◌, eqb, length, Option, Some, None, Result, Ok, Err}
use Rattle.std.proofs.Math.Path.{ap}
use Rattle.std.proofs.lemmas.Bool.{lt-leb}
use Rattle.diskette.specs.Kinds.{named}
use Rattle.diskette.specs.Aids.Usable.{Usable}
use Rattle.diskette.specs.Places.{clusters, root_entries, root_at, slot_from, slot_at}
use Rattle.diskette.specs.Images.{AreaOf, kind_of_area}
use Rattle.diskette.proofs.Laws.Kinds.{OfKnown, of_cond}
use Rattle.diskette.proofs.Laws.Images.{area_of_kind, area_usable}
use Rattle.diskette.specs.declared.Kind.{Kind}
use Rattle.sound.specs.Answer.{AnswersBy, CheckedArea}
use Rattle.sound.specs.Judged.{check_of_area}
use Rattle.sound.proofs.Laws.OneAnswer.{area_is}
use Rattle.sound.specs.declared.Counts.{Counts}
use Rattle.sound.specs.Numbers.{number_of, place_of}
use Rattle.sound.specs.declared.Finding.{Finding}
use Rattle.lines.specs.Lines.{sound_text, unsound_text}
use Rattle.lines.specs.Aids.Rooms.{file_room, sound_room}
use Rattle.text.specs.declared.page.Page.{Page}
use Rattle.text.specs.Aids.Pages.{Adds, AddsIn, has_room}
use Rattle.text.proofs.Laws.Pages.{adds_then}
use Rattle.listing.specs.Listing.{files_text, volume_text, listing_by, listing_of, listing_room, Lists}

-- ---- the four kinds have at most 112 slots

few_named : (b : ℕ) → OfKnown (λ k. k.root ≤ 7) (named b)
unfolding named
few_named b =
    let P : Kind → Type 0 = λ k. k.root ≤ 7 in
    of_cond P (eqb b 0xFE) _ _ (λ e. omega arith)
    (of_cond P (eqb b 0xFF) _ _ (λ e. omega arith)
    (of_cond P (eqb b 0xFC) _ _ (λ e. omega arith)
    (of_cond P (eqb b 0xFD) _ _ (λ e. omega arith)
    tt)))

-- ---- a sound volume

module _ (l : List ℕ) (k : Kind) (a : AreaOf l k) where
  few_slots : k.root ≤ 7
  few_slots = subst (OfKnown (λ k. k.root ≤ 7)) a.listed (few_named k.byte)

  pub kind_usable : Usable k
  kind_usable = area_usable l k ((area_of_kind l k).1 a)

  module _ (root count : ℕ) (at_root : root ≡ root_at k) (slots : count ≡ root_entries k) where
    pub root_within : root + 32 * count ≤ length l
    root_within = omega (arith, a.long)

    -- s are the lines before those of the files
    pub files_fit : (s : List ℕ) (p q : Page) → AddsIn sound_room s p q → has_room listing_room p → has_room (file_room * count) q
    files_fit s p q f h = omega (arith, h, f.room, f.adds.long, few_slots)

    pub adds_volume : (all : ℕ) (n : Counts) (p q r : Page) → all ≡ clusters k → AddsIn sound_room (sound_text k.byte all n.free n.held n.bad n.reserved n.files) p q
        → AddsIn (file_room * count) (files_text l (slot_from root) 0 count) q r → AddsIn listing_room (volume_text k l (Ok n)) p r
    unfolding volume_text
    adds_volume all n p q r e head files =
        record {
          adds = rw (← e) (adds_then (sound_text k.byte all n.free n.held n.bad n.reserved n.files) (files_text l (slot_at k) 0 (root_entries k)) p q r head.adds (rw (at_root, slots) at files.adds));
          room = omega (arith, head.room, files.room, few_slots);
        }

-- ---- the listing is by check's answer alone

module _ (l : List ℕ) where
  pub listing_by_check : (k : Kind) (v : Result Counts Finding) → AreaOf l k → CheckedArea l v → listing_of l ≡ volume_text k l v
  unfolding listing_of
  listing_by_check k v a c = rw ((area_of_kind l k).1 a, ← area_is c)

  finding_by : (w : Option Kind) (finding : Finding) → check_of_area l ≡ Err finding → AnswersBy w l (Err finding) → listing_by w l ≡ unsound_text (number_of finding) (place_of finding)
  unfolding volume_text
  finding_by (Some k) finding e a = rw e
  finding_by None finding e a = ap finding_text (sym a)
    where
      finding_text : Result Counts Finding → List ℕ
      finding_text (Ok n) = []
      finding_text (Err f) = unsound_text (number_of f) (place_of f)

  -- also where the area is of no kind
  pub listing_of_finding : (finding : Finding) → CheckedArea l (Err finding) → listing_of l ≡ unsound_text (number_of finding) (place_of finding)
  unfolding listing_of
  listing_of_finding finding c = finding_by (kind_of_area l) finding (sym (area_is c)) c.is

-- ---- what is put is the listing; w is the kind that was found, v what check answered

module _ (l : List ℕ) (w : Option Kind) (is : w ≡ kind_of_area l) where
  pub area_found : (k : Kind) → w ≡ Some k → AreaOf l k
  area_found k e = (area_of_kind l k).0 (sym is ∙ e)

  pub adds_no_kind : (p q : Page) → w ≡ None → Adds (unsound_text 1 0) p q → Adds (listing_of l) p q
  unfolding listing_of
  adds_no_kind p q e f = rw (sym is ∙ e) f

  pub adds_listing : (k : Kind) (v : Result Counts Finding) (n : Counts) (p q : Page) → w ≡ Some k → CheckedArea l v → v ≡ Ok n → Adds (volume_text k l (Ok n)) p q → Adds (listing_of l) p q
  adds_listing k v n p q e c t f = rw (listing_by_check l k v (area_found k e) c, t) f

pub adds_finding : (l : List ℕ) (v : Result Counts Finding) (finding : Finding) (p q : Page)
    → CheckedArea l v → v ≡ Err finding → Adds (unsound_text (number_of finding) (place_of finding)) p q → Adds (listing_of l) p q
adds_finding l v finding p q c t f = rw (listing_of_finding l finding (rw t at c)) f

-- ---- for C

-- q is the page that was empty as p, on the buffer l, which is then m
pub lists : (area l m : List ℕ) (p q : Page) → listing_room ≤ length l → p.out.now ≡ l → p.at ≡ 0 → q.out.now ≡ m → Adds (listing_of area) p q → Lists area l q.at m
lists area l m p q h e z f g =
    let room = le-leb listing_room (length l) h in
    record { count = rw room (g.puts.next ∙ omega (arith, z)); buffer = rw room (sym f ∙ g.puts.stores ∙ rw (e, z)) }

pub lists_nothing : (area l : List ℕ) → length l < listing_room → Lists area l 0 l
lists_nothing area l h = let short = lt-leb listing_room (length l) h in record { count = rw short; buffer = rw short }
