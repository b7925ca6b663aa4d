-- The worked numbers hold: what close and seek answer by their rows, and the rest as the checker computes it.
use Rattle.std.specs.Prelude.{false, [], ◌≡◌, refl, negsuc, Some, None}
use Rattle.image.specs.Store.{stored}
use Rattle.image.specs.Numbers.{number, digits}
use Rattle.chains.specs.Content.{cluster_begin}
use Rattle.chains.specs.Sizes.{clusters_for}
use Rattle.chains.proofs.Laws.Tests.{true_says}
use Rattle.diskette.specs.Images.{kind_of_image}
use Rattle.diskette.specs.Places.{slot_at, root_entries}
use Rattle.diskette.proofs.Laws.Images.{image_of_kind}
use Rattle.values.specs.Bits.{taken, kept}
use Rattle.table.specs.Entries.{entry_at, set_at}
use Rattle.stamps.specs.Stamps.{packed, time_fits, date_fits}
use Rattle.stamps.specs.declared.Stamp.{Stamp}
use Rattle.offset.specs.Offset.{moved_by}
use Rattle.opened.proofs.Laws.Places.{live_is}
use Rattle.sound.proofs.Laws.IsSound.{known_says}
use Rattle.calls.specs.Outcome.{refusal, decided}
use Rattle.calls.specs.Numbers.{invalid_function, out_of_range}
use Rattle.calls.specs.Aids.Ready.{OnVolume}
use Rattle.calls.specs.Refusals.{bad_stamp, not_live}
use Rattle.calls.proofs.Laws.Rows.{stopped, stops_at}
use Rattle.calls.proofs.Laws.Ready.{on_kind_lem, known_passed, sound_passed, volume_past}
use Rattle.closing.specs.Close.{close_outcome}
use Rattle.seeking.specs.Seek.{seek_base, seek_outcome}
use Rattle.worked.specs.Worked.{Scene, stamp, is, refused, close_answer, seek_answer, WorkedNumbers}

module _ (x : Scene) where
  known : kind_of_image x.image ≡ Some x.kind
  known = (image_of_kind x.image x.kind).1 x.of_kind

  on : OnVolume x.image x.kind
  on = record { known = known; sound = true_says (known_says x.image x.kind known) x.sound }

  reached : not_live x.image x.table x.handle ≡ false
  unfolding not_live
  reached = rw (on_kind_lem x.image x.kind on, (live_is x.table x.handle x.image (slot_at x.kind) (root_entries x.kind)).1 x.live)

  close_refused : (s : Stamp) → packed s ≡ None → close_answer x s ≡ refused out_of_range
  unfolding close_outcome
  close_refused s e = rw (stopped _ out_of_range (volume_past x.image x.kind on _ _ out_of_range _ (stops_at (bad_stamp s) out_of_range _ (rw e) refl)) _ x.image x.table [])

  seek_well : seek_answer x 1 (negsuc 9) ≡ is 0
  unfolding seek_outcome seek_base decided refusal moved_by
  seek_well = rw (known_passed x.image x.kind on, sound_passed x.image x.kind on, reached, x.pointer)

  seek_refused : seek_answer x 1 (negsuc 10) ≡ refused invalid_function
  unfolding seek_outcome seek_base decided refusal moved_by
  seek_refused = rw (known_passed x.image x.kind on, sound_passed x.image x.kind on, reached, x.pointer)

-- step 30 is out of its range
out : packed (stamp 1983 9 1 18 5 30) ≡ None
unfolding packed time_fits date_fits
out = refl

pub worked : WorkedNumbers
unfolding entry_at set_at taken kept stored number digits packed time_fits date_fits cluster_begin clusters_for
worked x = rw (close_refused x (stamp 1983 9 1 18 5 30) out, seek_well x, seek_refused x)
