-- Zeros and bytes put along a chain leave what stands before the data.
use Rattle.std.specs.Prelude.{ℕ, ◌+◌, ◌-◌, ◌*◌, ◌≤◌, ◌<◌, List, ◌≡◌, length, get_or, replicate}
use Rattle.std.proofs.Common.{arith, ◌∙◌}
use Rattle.image.specs.Bytes.{Bytes}
use Rattle.chains.specs.Write.{poured, written_image}
use Rattle.contents.proofs.Laws.Kept.{bytes_poured, bytes_zeros, poured_before, poured_table}
use Rattle.diskette.specs.Aids.Usable.{Usable}
use Rattle.diskette.specs.Places.{first_data, cluster_bytes, last_cluster, root_entries, slot_at}
use Rattle.diskette.specs.declared.Kind.{Kind}
use Rattle.directory.specs.Aids.Entries.{SameFields}
use Rattle.directory.proofs.Laws.Entries.{same_fields}
use Rattle.sound.specs.Files.{value_of}
use Rattle.changes.specs.Aids.Changed.{Framed}
use Rattle.changes.proofs.Laws.Frames.{data_frame, frame_then}

module _ (k : Kind) (u : Usable k) (l cs : List ℕ) (size pointer : ℕ) (bs : List ℕ) where
  abbrev base : ℕ
  base = 512 * first_data k

  abbrev zeros : List ℕ
  zeros = replicate (pointer - size) 0

  -- the image with the zeros, and with the bytes
  abbrev filled : List ℕ
  filled = poured base (cluster_bytes k) l cs size zeros (pointer - size)

  abbrev m : List ℕ
  m = written_image base (cluster_bytes k) l cs size pointer bs

  wide : 0 < cluster_bytes k
  wide = omega (arith, u.per_low)

  pub put_before : (j : ℕ) → j < base → get_or m j 0 ≡ get_or l j 0
  unfolding written_image
  put_before j h = poured_before base (cluster_bytes k) wide filled cs pointer bs (length bs) j h ∙ poured_before base (cluster_bytes k) wide l cs size zeros (pointer - size) j h

  pub put_table : (c : ℕ) → value_of k m c ≡ value_of k l c
  unfolding written_image
  put_table c =
      poured_table base (cluster_bytes k) wide filled cs pointer bs (length bs) (last_cluster k) (omega (arith, u.reaches)) c
      ∙ poured_table base (cluster_bytes k) wide l cs size zeros (pointer - size) (last_cluster k) (omega (arith, u.reaches)) c

  pub put_bytes : Bytes l → Bytes bs → Bytes m
  unfolding written_image
  put_bytes b given = bytes_poured base (cluster_bytes k) filled cs pointer bs (length bs) (bytes_poured base (cluster_bytes k) l cs size zeros (pointer - size) b (bytes_zeros (pointer - size))) given

  pub put_frame : (s : ℕ) → Framed k l m s
  unfolding written_image
  put_frame s = frame_then k u s l filled m (data_frame k u s l cs size zeros (pointer - size)) (data_frame k u s filled cs pointer bs (length bs))

  pub put_entry : (s : ℕ) → s < root_entries k → slot_at k s + 32 ≤ length l → SameFields m (slot_at k s) l (slot_at k s)
  put_entry s h f = same_fields m l (slot_at k s) (slot_at k s) (rw (put_frame s).long f) f (λ j q. put_before (slot_at k s + j) (omega arith))
