-- The answers, as those of the scale's calls: "the refusal number in the upper 32 bits, the value in the lower".
use Rattle.std.specs.Prelude.{ℕ, ◌+◌, ◌*◌, cond, List, leb, eqb, Option, Some, None}
use Rattle.diskette.specs.Places.{root_entries, slot_at}
use Rattle.diskette.specs.declared.Kind.{Kind}
use Rattle.fields.specs.Fields.{attr_of}
use Rattle.directory.specs.Slots.{standing_of, has_bit}
use Rattle.directory.specs.declared.Standing.{Standing}
use Rattle.directory.specs.declared.Standing.TheVariants.{NeverUsed, Erased, Label, Plain}
use Rattle.calls.specs.Numbers.{of_no_kind, out_of_range}

-- a refusal: value 0
abbrev pub refusal_answer : ℕ → ℕ
refusal_answer number = number * 4294967296

-- ---- what stands at a slot of the root

-- 1: nothing, 2: a plain file, 3: the label. Two entries of other systems are told apart from these, by the attribute: a plain
-- file with bit 10 is a directory, 4; a label with the attribute 0F is a part of a long name, 5
unfoldable pub standing_told : Standing → ℕ → ℕ
standing_told NeverUsed attr = 1
standing_told Erased attr = 1
standing_told Plain attr = cond (has_bit attr 0x10) 4 2
standing_told Label attr = cond (eqb attr 0x0F) 5 3

-- 0: the kind has no such slot; "40: image not of a kind"
unfoldable pub slot_told : Option Kind → List ℕ → ℕ → ℕ
slot_told (Some k) img s = cond (leb (root_entries k) s) 0 (standing_told (standing_of img (slot_at k s)) (attr_of img (slot_at k s)))
slot_told None img s = refusal_answer of_no_kind

-- ---- a stored date and a stored time; "43: a stamp out of its ranges"

-- the digits YYYYMMDD: the year counts from 1980
unfoldable pub date_told : Option (ℕ × ℕ × ℕ) → ℕ
date_told (Some (year, month, day)) = (1980 + year) * 10000 + month * 100 + day
date_told None = refusal_answer out_of_range

-- the digits HHMMSS: steps are of two seconds
unfoldable pub time_told : Option (ℕ × ℕ × ℕ) → ℕ
time_told (Some (hour, minute, step)) = hour * 10000 + minute * 100 + step * 2
time_told None = refusal_answer out_of_range
