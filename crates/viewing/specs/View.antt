-- "View takes a name and an offset and gives back the part of the image from that byte to the end of its cluster or file,
-- whichever is first; an empty part at or past the end or on any refusal. A second call on the same inputs answers its
-- refusal number, or 0."
use Rattle.std.specs.Prelude.{ℕ, ◌-◌, ◌*◌, ◌%◌, min, List, [], ◌∷◌, ◌≡◌}
use Rattle.image.specs.Store.{part}
use Rattle.chains.specs.Content.{byte_at}
use Rattle.diskette.specs.Places.{first_data, cluster_bytes, slot_at}
use Rattle.diskette.specs.declared.Kind.{Kind}
use Rattle.fields.specs.Fields.{size_of}
use Rattle.calls.specs.Outcome.{Row, Outcome, outcome, decided}
use Rattle.calls.specs.Numbers.{of_no_kind, unsound, breaks_rules, file_not_found}
use Rattle.calls.specs.Refusals.{the_kind, not_of_kind, not_sound, bad_name, no_file, file_slot}
use Rattle.holding.specs.Holding.{file_chain}

-- how many bytes there are from offset on to the end of its cluster of cb bytes or of its file, whichever is first; none at or past the end
abbrev pub view_count : ℕ → ℕ → ℕ → ℕ
view_count cb size offset = min (cb - offset % cb) (size - offset)

-- the part of the image, from where byte offset of the file in a slot lies
unfoldable pub view_part : Kind → List ℕ → ℕ → ℕ → List ℕ
view_part k img slot offset =
    let a = slot_at k slot in
    let at = byte_at (512 * first_data k) (cluster_bytes k) (file_chain k img a) offset in
    part img at (view_count (cluster_bytes k) (size_of img a) offset)

abbrev pub view_rows : List ℕ → List ℕ → List Row
view_rows img s =
    (not_of_kind img, of_no_kind)
    ∷ (not_sound img, unsound)
    ∷ (bad_name s, breaks_rules)
    ∷ (no_file img s, file_not_found)
    ∷ []

-- the part stands for the buffer; no table comes in
unfoldable pub view_outcome : List ℕ → List ℕ → ℕ → Outcome
view_outcome img s offset = decided (view_rows img s) (outcome 0 0 img [] (view_part (the_kind img) img (file_slot img s) offset)) img [] []

-- what the call promises: the part it gives back
pub record Views (img s : List ℕ) (offset : ℕ) (seen : List ℕ) : Type 0 where
  pub is : seen ≡ (view_outcome img s offset).buffer

-- what the second call promises: the number it answers
pub record ViewNumbers (img s : List ℕ) (offset number : ℕ) : Type 0 where
  pub is : number ≡ (view_outcome img s offset).number
