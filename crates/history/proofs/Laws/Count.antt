-- How much a write takes: what it takes can be put, and it stops short only where the room ends.
use Rattle.std.specs.Prelude.{ℕ, zero, suc, ◌+◌, ◌<◌, List, [], ◌∷◌, ◌≢◌, ◌≡◌, refl, length, take}
use Rattle.std.proofs.Common.{arith, length-take-le}
use Rattle.holding.proofs.Laws.Chain.{file_at}
use Rattle.diskette.specs.Places.{slot_at}
use Rattle.image.specs.Bytes.{Bytes}
use Rattle.diskette.specs.declared.Kind.{Kind}
use Rattle.calls.specs.Aids.Ready.{OnVolume}
use Rattle.sound.specs.Files.{IsFile}
use Rattle.putting.specs.Aids.Put.{CanPut}
use Rattle.writing.specs.Write.{write_count, room_of}
use Rattle.writing.proofs.Laws.Write.{count_within, count_reaches}

pub bytes_take : (n : ℕ) (bs : List ℕ) → Bytes bs → Bytes (take n bs)
bytes_take zero bs b i = omega arith
bytes_take (suc n) [] b i = omega arith
bytes_take (suc n) (x ∷ bs) b zero = b 0
bytes_take (suc n) (x ∷ bs) b (suc i) = bytes_take n bs (λ j. b (suc j)) i

module _ (k : Kind) (l : List ℕ) (s pointer : ℕ) (bs : List ℕ) where
  abbrev n : ℕ
  n = write_count k l (slot_at k s) pointer (length bs)

  -- as many bytes are put as the call answers
  pub taken_length : length (take n bs) ≡ n
  taken_length = length-take-le n bs (count_within (room_of k l (slot_at k s)) pointer bs n refl)

  pub taken_fits : OnVolume l k → IsFile k l s → Bytes l → n ≢ 0 → CanPut k l (slot_at k s) pointer (length (take n bs))
  taken_fits v i b some = record {
    on = v;
    file = file_at l k v s i (slot_at k s) refl;
    bytes = b;
    fits = rw taken_length (count_reaches l k (slot_at k s) (room_of k l (slot_at k s)) pointer (length bs) n refl refl some);
  }

module _ (k : Kind) (l : List ℕ) (s pointer n : ℕ) where
  -- the last byte lies past the room, and what is written above 0 fills it to the end
  pub write_short : write_count k l (slot_at k s) pointer n < n
      → (room_of k l (slot_at k s) < pointer + n) × (0 < write_count k l (slot_at k s) pointer n → pointer + write_count k l (slot_at k s) pointer n ≡ room_of k l (slot_at k s))
  write_short h = (omega arith, λ some. omega arith)
