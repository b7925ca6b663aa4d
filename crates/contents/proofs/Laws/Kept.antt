-- What a store along a chain leaves: the length, bytes below 256, all before the data, the table and its chains, every
-- other cluster.
use Rattle.std.specs.Prelude.{ℕ, zero, suc, ◌+◌, ◌-◌, ◌≤◌, ◌<◌, ◌≡◌, length, get_or, replicate}
use Rattle.std.proofs.Common.{arith}
use Rattle.std.proofs.Math.Path.{ap}
use mathlib.Core.List.{List}
use Rattle.image.specs.Bytes.{Bytes}
use Rattle.image.proofs.Laws.Store.{bytes_set}
use Rattle.chains.specs.Content.{byte_at}
use Rattle.chains.specs.Write.{poured, written_image}
use Rattle.chains.proofs.Laws.Content.{byte_low}
use Rattle.chains.proofs.Laws.Poured.{poured_length, poured_out}
use Rattle.table.specs.Entries.{word_at, table_of}
use Rattle.table.proofs.Laws.View.{table_same}
use Rattle.contents.specs.Aids.Contents.{chain_from, Area, bytes_put, zeros_put}
use Rattle.contents.proofs.Laws.Chain.{chain_kept}

pub bytes_poured : (base cb : ℕ) (l cs : List ℕ) (pos : ℕ) (bs : List ℕ) (n : ℕ) → Bytes l → Bytes bs → Bytes (poured base cb l cs pos bs n)
unfolding poured
bytes_poured base cb l cs pos bs zero b h = b
bytes_poured base cb l cs pos bs (suc n) b h = bytes_set (poured base cb l cs pos bs n) (byte_at base cb cs (pos + n)) (get_or bs n 0) (bytes_poured base cb l cs pos bs n b h) (h n)

pub bytes_zeros : (n : ℕ) → Bytes (replicate n 0)
bytes_zeros zero i = omega arith
bytes_zeros (suc n) zero = omega arith
bytes_zeros (suc n) (suc i) = bytes_zeros n i

module _ (base cb : ℕ) (wide : 0 < cb) (l cs : List ℕ) (pos : ℕ) (bs : List ℕ) (n : ℕ) where
  pub poured_before : (j : ℕ) → j < base → get_or (poured base cb l cs pos bs n) j 0 ≡ get_or l j 0
  poured_before j h = poured_out base cb wide l cs pos bs n j (λ i k e. omega (arith, byte_low base cb wide cs (pos + i)))

  pub poured_table : (last : ℕ) → word_at 512 last + 2 ≤ base → (c : ℕ) → table_of last (poured base cb l cs pos bs n) c ≡ table_of last l c
  poured_table last h = table_same last l (poured base cb l cs pos bs n) (λ j f t. poured_before j (omega arith))

  pub poured_chains : (last : ℕ) → word_at 512 last + 2 ≤ base → (start : ℕ) → chain_from last (poured base cb l cs pos bs n) start ≡ chain_from last l start
  poured_chains last h start = chain_kept last l (poured base cb l cs pos bs n) start (poured_table last h)

module _ (base cb last : ℕ) (l : List ℕ) (start : ℕ) (a : Area base cb last (length l)) (pos : ℕ) (bs : List ℕ) where
  pub area_poured : (cs : List ℕ) (n : ℕ) → Area base cb last (length (poured base cb l cs pos bs n))
  area_poured cs n = rw (poured_length base cb l cs pos bs n) a

  -- zeros up to pos and then the bytes: what a write into a file of size bytes makes of the image
  pub written_put : (size : ℕ) → bytes_put base cb last (zeros_put base cb last l start size (pos - size)) start pos bs ≡ written_image base cb l (chain_from last l start) size pos bs
  unfolding written_image
  written_put size = ap (λ (cs : List ℕ). poured base cb (zeros_put base cb last l start size (pos - size)) cs pos bs (length bs)) (poured_chains base cb a.wide l (chain_from last l start) size (replicate (pos - size) 0) (pos - size) last a.table start)
