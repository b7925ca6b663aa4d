-- Seek on bytes and on a record: where the volume is sound and the handle live, both answer alike and leave the same pointer.
use Rattle.std.specs.Prelude.{ℕ, Bool, cond, List, [], ◌∷◌, ◌≡◌, ltb, ℤ, Option, Some, None}
use Rattle.std.proofs.Math.Bool.{true, false}
use Rattle.std.proofs.Math.Path.{refl}
use Rattle.fields.specs.Fields.{size_of}
use Rattle.offset.specs.Offset.{moved_by}
use Rattle.opened.specs.Records.{slot_of, with_pointer}
use Rattle.calls.specs.Outcome.{outcome, refusal, decided}
use Rattle.calls.specs.Numbers.{of_no_kind, unsound, invalid_function, invalid_handle}
use Rattle.calls.specs.Refusals.{not_of_kind, not_sound, not_live, address_of}
use Rattle.calls.specs.Answers.{number_told, value_told}
use Rattle.seeking.specs.Seek.{answer_of, seek_base, is_beyond, seek_outcome}
use Rattle.records.specs.Row.{record_of}
use Rattle.records.specs.Seek.{base_from, seek_from}

module _ (img t : List ℕ) (h : ℕ) where
  -- the table after a seek that leads there
  abbrev pub sought_table : Option ℕ → List ℕ
  sought_table (Some v) = with_pointer t h v
  sought_table None = t

  -- by the two rows that are left: the method, and where it leads
  by_rows : (z : Bool) (m : Option ℕ)
      → decided ((false, of_no_kind) ∷ (false, unsound) ∷ (z, invalid_function) ∷ (false, invalid_handle) ∷ (is_beyond m, invalid_function) ∷ [])
      (outcome 0 (value_told (answer_of m)) img (with_pointer t h (value_told (answer_of m))) []) img t []
      ≡ outcome (number_told (answer_of (cond z None m))) (value_told (answer_of (cond z None m))) img (sought_table (cond z None m)) []
  unfolding decided refusal
  by_rows true m = refl
  by_rows false (Some v) = refl
  by_rows false None = refl

  module _ (method : ℕ) (offset : ℤ) where
    -- where it leads, by the record that the bytes say and the size of its file
    abbrev pub leads : Option ℕ
    leads = seek_from (record_of t h).pointer (size_of img (address_of img (slot_of t h))) method offset

    pub seek_alike : not_of_kind img ≡ false → not_sound img ≡ false → not_live img t h ≡ false
        → seek_outcome img t h method offset ≡ outcome (number_told (answer_of leads)) (value_told (answer_of leads)) img (sought_table leads) []
    unfolding seek_outcome seek_base seek_from base_from record_of
    seek_alike known sound live = rw (known, sound, live) (by_rows (ltb 2 method) (moved_by (seek_base img t h method) offset))
