-- Check's answer as a function of the bytes, which the calls' contracts need. How it is computed is in Aids, and need not be
-- read: theorems in proofs/Laws say what it is, by Answer and Sound.
use Rattle.std.specs.Prelude.{ℕ, Bool, List, Result}
use Rattle.diskette.specs.Images.{kind_of_image, kind_of_area}
use Rattle.sound.specs.declared.Counts.{Counts}
use Rattle.sound.specs.declared.Finding.{Finding}
use Rattle.sound.specs.Aids.Judged.{judged_by, is_sound_verdict}

-- what check answers of an image: the one verdict that Checked allows (check_answers, checked_only)
unfoldable pub check_of : List ℕ → Result Counts Finding
check_of img = judged_by (kind_of_image img) img

-- the same of a system area: the one that CheckedArea allows (area_answers, area_only)
unfoldable pub check_of_area : List ℕ → Result Counts Finding
check_of_area area = judged_by (kind_of_area area) area

-- true exactly where the image is of a kind and Sound (is_sound_lem, not_sound_lem)
unfoldable pub is_sound : List ℕ → Bool
is_sound img = is_sound_verdict (check_of img)
