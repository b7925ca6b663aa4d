-- A call that only looks leaves the world as it came.
use Rattle.std.specs.Prelude.{ℕ, List, [], ◌≡◌, refl}
use Rattle.std.proofs.Common.{ap}
use Rattle.matching.specs.Find.{find_outcome}
use Rattle.viewing.specs.View.{view_outcome}
use Rattle.rescuing.specs.Rescue.{rescue_outcome}
use Rattle.sound.specs.Judged.{check_of}
use Rattle.scale.proofs.Laws.Calls.{verdict_image, space_image, entry_image}
use Rattle.history.specs.Promises.{LooksAlterNothing}
use Rattle.history.specs.World.{World, world, ours, check, count_free, tell_entry, find, view, rescue}
use Rattle.history.proofs.Laws.Rows.{image_stays}

same : (w : World) {l : List ℕ} → l ≡ w.image → world l w.table ≡ w
same w e = ap (λ (m : List ℕ). world m w.table) e

pub looks_alter_nothing : LooksAlterNothing ours
unfolding find_outcome view_outcome rescue_outcome
looks_alter_nothing w check = same w (verdict_image w.image [] (check_of w.image))
looks_alter_nothing w count_free = same w (space_image w.image [])
looks_alter_nothing w (tell_entry slot) = same w (entry_image w.image [] slot)
looks_alter_nothing w (find pattern slot mask) = same w (image_stays _ _ w.image [] [] refl)
looks_alter_nothing w (view name offset) = same w (image_stays _ _ w.image [] [] refl)
looks_alter_nothing w (rescue name out) = same w (image_stays _ _ w.image [] out refl)
