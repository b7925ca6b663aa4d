-- Document 01, "Worked numbers": the cases P1 to P13, by one statement over one list of them.
use Rattle.std.specs.Prelude.{ℕ, ◌-◌, ◌*◌, ◌/◌, cond, List, [], ◌∷◌, map, ◌≡◌, eqb, ℤ, negsuc, Option, Some, None}
use Rattle.image.specs.Store.{part}
use Rattle.chains.specs.Content.{cluster_begin}
use Rattle.chains.specs.Sizes.{clusters_for}
use Rattle.diskette.specs.Images.{OfKind}
use Rattle.diskette.specs.Kinds.{kind_fe, kind_fd}
use Rattle.diskette.specs.Places.{first_data, cluster_bytes, slot_at, root_entries}
use Rattle.diskette.specs.declared.Kind.{Kind}
use Rattle.table.specs.Entries.{entry_at, set_at}
use Rattle.stamps.specs.Stamps.{packed}
use Rattle.stamps.specs.declared.Stamp.{Stamp}
use Rattle.sound.specs.Sound.{Sound}
use Rattle.opened.specs.Places.{LivePlace}
use Rattle.opened.specs.Records.{pointer_of}
use Rattle.calls.specs.Outcome.{Outcome}
use Rattle.calls.specs.Refusals.{stamp_number}
use Rattle.closing.specs.Close.{close_outcome}
use Rattle.seeking.specs.Seek.{seek_outcome}

-- what a case answers: a number, bytes, or a refusal by its number
pub data Answer : Type 0 where
  is : ℕ → Answer
  bytes : List ℕ → Answer
  refused : ℕ → Answer

-- ours is what our definitions give, paper what document 01 prints
pub record Case : Type 0 where
  pub ours : Answer
  pub paper : Answer

infix 4 ◌gives◌
abbrev pub ◌gives◌ : Answer → Answer → Case
o gives p = record { ours = o; paper = p }

-- ---- P1 and P2: their bytes

abbrev pub six_bytes : List ℕ
six_bytes = 0xFD ∷ 0xFF ∷ 0xFF ∷ 0x03 ∷ 0x40 ∷ 0x00 ∷ []

-- ---- P3 to P5: the sector of the byte at which cluster n begins, for every call

abbrev pub sector_at : Kind → ℕ → ℕ
sector_at k n = cluster_begin (512 * first_data k) (cluster_bytes k) n / 512

-- ---- P6 and P7: a stamp's words

abbrev pub stamp : ℕ → ℕ → ℕ → ℕ → ℕ → ℕ → Stamp
stamp year month day hour minute step = record { hour = hour; minute = minute; step = step; year = year - 1980; month = month; day = day }

abbrev pub time_answer : Option (ℕ × ℕ) → Answer
time_answer (Some (time, date)) = is time
time_answer None = refused (stamp_number None)

abbrev pub date_answer : Option (ℕ × ℕ) → Answer
date_answer (Some (time, date)) = is date
date_answer None = refused (stamp_number None)

-- ---- P8 to P10: what close and seek answer on a sound volume, by a live handle whose pointer is 10

pub record Scene : Type 0 where
  pub kind : Kind
  pub image : List ℕ
  pub table : List ℕ
  pub handle : ℕ
  pub of_kind : OfKind image kind
  pub sound : Sound kind image
  pub live : LivePlace table handle image (slot_at kind) (root_entries kind)
  pub pointer : pointer_of table handle ≡ 10

abbrev pub call_answer : Outcome → Answer
call_answer o = cond (eqb o.number 0) (is o.value) (refused o.number)

abbrev pub close_answer : Scene → Stamp → Answer
close_answer x s = call_answer (close_outcome x.image x.table x.handle s)

abbrev pub seek_answer : Scene → ℕ → ℤ → Answer
seek_answer x method offset = call_answer (seek_outcome x.image x.table x.handle method offset)

-- ---- the list

abbrev pub cases : Scene → List Case
cases x =
    -- P1
    (is (entry_at 0 six_bytes 2) gives is 0x003)
    ∷ (is (entry_at 0 six_bytes 3) gives is 0x004)
    -- P2
    ∷ (bytes (part (set_at 0 six_bytes 3 0xFFF) 3 3) gives bytes (0x03 ∷ 0xF0 ∷ 0xFF ∷ []))
    -- P3 to P5
    ∷ (is (sector_at kind_fd 2) gives is 12)
    ∷ (is (sector_at kind_fd 355) gives is 718)
    ∷ (is (sector_at kind_fe 314) gives is 319)
    -- P6 to P8
    ∷ (date_answer (packed (stamp 1983 9 1 18 5 29)) gives is 0x0721)
    ∷ (time_answer (packed (stamp 1983 9 1 18 5 29)) gives is 0x90BD)
    ∷ (close_answer x (stamp 1983 9 1 18 5 30) gives refused 43)
    -- P9 and P10
    ∷ (seek_answer x 1 (negsuc 9) gives is 0)
    ∷ (seek_answer x 1 (negsuc 10) gives refused 1)
    -- P11 to P13
    ∷ (is (clusters_for (cluster_bytes kind_fe) 512) gives is 1)
    ∷ (is (clusters_for (cluster_bytes kind_fe) 513) gives is 2)
    ∷ (is (clusters_for (cluster_bytes kind_fe) 0) gives is 0)
    ∷ []

-- what our definitions give is what the paper prints, case by case
abbrev pub WorkedNumbers : Type 0
WorkedNumbers = (x : Scene) → map (λ (c : Case). c.ours) (cases x) ≡ map (λ (c : Case). c.paper) (cases x)
