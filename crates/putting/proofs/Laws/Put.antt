-- Bytes put into a file, as the code does it: in the form of its needs.
use Rattle.std.specs.Prelude.{ℕ, ◌+◌, ◌-◌, ◌*◌, ◌≤◌, ◌<◌, max, List, ◌≡◌, length, take, drop, replicate}
use Rattle.std.proofs.Common.{arith, ◌∙◌}
use Rattle.chains.specs.Write.{poured, written_image}
use Rattle.diskette.specs.Places.{first_data, cluster_bytes, last_cluster}
use Rattle.diskette.specs.declared.Kind.{Kind}
use Rattle.fields.specs.Fields.{size_of}
use Rattle.contents.specs.Aids.Contents.{chain_from, Area, bytes_put, zeros_put}
use Rattle.contents.proofs.Laws.Kept.{area_poured, poured_chains, written_put}
use Rattle.putting.specs.Aids.Longer.{CanGrow, Lengthens}
use Rattle.putting.specs.Aids.Put.{HasRoom, CanPut}
use Rattle.putting.specs.Written.{written_in}
use Rattle.putting.proofs.Laws.Room.{room_fits, room_own}

-- ---- along a chain with room

pub gap_none : (base cb last : ℕ) (l : List ℕ) (start size pointer : ℕ) → pointer ≤ size → l ≡ zeros_put base cb last l start size (pointer - size)
unfolding poured
gap_none base cb last l start size pointer h = let z : pointer - size ≡ 0 = omega arith in rw z

module _ (k : Kind) (img : List ℕ) (start pointer n : ℕ) (r : HasRoom k img start pointer n) (size : ℕ) (m : List ℕ) (e : m ≡ zeros_put (512 * first_data k) (cluster_bytes k) (last_cluster k) img start size (pointer - size)) where
  -- the zeros leave the chain
  pub room_still : HasRoom k m start pointer n
  room_still =
      let zeros : List ℕ = replicate (pointer - size) 0 in
      let own = chain_from (last_cluster k) img start in
      let same = poured_chains (512 * first_data k) (cluster_bytes k) r.area.wide img own size zeros (pointer - size) (last_cluster k) r.area.table start in
      record {
        area = rw e (area_poured (512 * first_data k) (cluster_bytes k) (last_cluster k) img start r.area size zeros own (pointer - size));
        fits = rw (e, same) r.fits;
      }

  pub put_is : (bs l : List ℕ) → l ≡ bytes_put (512 * first_data k) (cluster_bytes k) (last_cluster k) m start pointer bs
      → l ≡ written_image (512 * first_data k) (cluster_bytes k) img (chain_from (last_cluster k) img start) size pointer bs
  put_is bs l q = q ∙ rw e (written_put (512 * first_data k) (cluster_bytes k) (last_cluster k) img start r.area pointer bs size)

-- ---- into a file

module _ (k : Kind) (img : List ℕ) (a pointer n : ℕ) (p : CanPut k img a pointer n) where
  pub reach_fits : pointer + n < 4294967296
  reach_fits = omega (arith, p.fits, room_fits img k p.on a p.file)

  pub count_fits : n < 4294967296
  count_fits = omega (arith, reach_fits)

  -- for the crates above: the chain is made longer as the put needs
  pub can_grow : (size after : ℕ) → size ≡ size_of img a → after ≡ max size (pointer + n) → CanGrow k img a after
  can_grow size after es e = record {
    on = p.on;
    file = p.file;
    bytes = p.bytes;
    room = omega (arith, p.fits, room_own img k p.on a p.file);
  }

module _ (k : Kind) (img : List ℕ) (a after start : ℕ) (m : List ℕ) (x : Lengthens k img a after start m) (size pointer n : ℕ) (e : after ≡ max size (pointer + n)) where
  pub written_is : size ≡ size_of img a → (bs l : List ℕ) → n ≡ length bs
      → l ≡ written_image (512 * first_data k) (cluster_bytes k) m (chain_from (last_cluster k) m start) size pointer bs → l ≡ written_in k img a pointer bs
  unfolding written_in
  written_is es bs l en q = q ∙ rw (x.found, x.image, e, es, en)
