-- "Seek: signed 32-bit offset from 0, from the pointer or from the size (methods 0, 1, 2). It moves that place's pointer and
-- nothing else, and answers it." Here one record is lent, and the size of its file given.
use Rattle.std.specs.Prelude.{ℕ, cond, ◌≡◌, eqb, ltb, ℤ, Option, Some, None}
use Rattle.offset.specs.Offset.{moved_by}
use Rattle.calls.specs.Answers.{Answer}
use Rattle.seeking.specs.Seek.{answer_of}
use Rattle.records.specs.declared.OpenRecord.{OpenRecord}

-- from where the offset counts
unfoldable pub base_from : ℕ → ℕ → ℕ → ℕ
base_from pointer size method = cond (eqb method 0) 0 (cond (eqb method 1) pointer size)

-- where it leads; a method above 2 leads nowhere
unfoldable pub seek_from : ℕ → ℕ → ℕ → ℤ → Option ℕ
seek_from pointer size method offset = cond (ltb 2 method) None (moved_by (base_from pointer size method) offset)

-- the record with its pointer at v
abbrev pub moved_to : OpenRecord → ℕ → OpenRecord
moved_to r v = record { used = r.used; slot = r.slot; access = r.access; pointer = v; written = r.written }

-- the record after a seek: a refusal leaves it as it came
abbrev pub sought_record : OpenRecord → Option ℕ → OpenRecord
sought_record r (Some v) = moved_to r v
sought_record r None = r

-- what seek promises: its answer a, and the whole record after
pub record SeeksIn (r : OpenRecord) (size method : ℕ) (offset : ℤ) (a : Answer) (after : OpenRecord) : Type 0 where
  pub answers : a ≡ answer_of (seek_from r.pointer size method offset)
  pub leaves : after ≡ sought_record r (seek_from r.pointer size method offset)
