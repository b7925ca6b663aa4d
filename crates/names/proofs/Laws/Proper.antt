-- The eleven bytes of an accepted name can stand in the entry of a live file.
use Rattle.std.specs.Prelude.{ℕ, ◌-◌, ◌<◌, true, List, Some, ◌⊎◌, ◌≢◌, ◌≡◌, refl, length, get_or}
use Rattle.std.proofs.Common.{arith, inl, inr, lt-ltb, le-ltb}
use Rattle.std.proofs.Math.Decide.{dec_lt}
use Rattle.std.proofs.Math.ListN.{get_or-eq_default}
use Rattle.names.specs.Alphabet.{plain, allowed}
use Rattle.names.specs.Spelling.{dot, space, every, Parts, eleven, Proper}
use Rattle.names.specs.Reading.{before_first, after_first, name_given}
use Rattle.names.specs.Aids.Bytes.{padded_byte, name_byte}
use Rattle.names.proofs.Laws.Alphabet.{told, plain_below, capital_plain, every_at}
use Rattle.names.proofs.Laws.Parts.{length_eleven, eleven_at}
use Rattle.names.proofs.Laws.Meaning.{fits_spells, fits_name}

padded_plain : (t : List ℕ) (i : ℕ) → every allowed t ≡ true → i < length t → plain (padded_byte t i) ≡ true
padded_plain t i e h = rw (lt-ltb i (length t) h) (capital_plain (get_or t i 0) (every_at allowed t i e h))

padded_either : (t : List ℕ) (i : ℕ) → every allowed t ≡ true → (plain (padded_byte t i) ≡ true) ⊎ (padded_byte t i ≡ space)
padded_either t i e = elim (dec_lt i (length t)) [
  | yes h ↦ inl (padded_plain t i e h)
  | no h ↦ inr (rw (le-ltb i (length t) (omega arith)))
]

module _ (base ext : List ℕ) (p : Parts (every allowed) base ext) where
  byte_letter : (i : ℕ) → (plain (name_byte base ext i) ≡ true) ⊎ (name_byte base ext i ≡ space)
  byte_letter i = elim (dec_lt i 8) [
    | yes h ↦ rw (lt-ltb i 8 h) (padded_either base i p.base_good)
    | no h ↦ rw (le-ltb i 8 (omega arith)) (padded_either ext (i - 8) p.ext_good)
  ]

  letter : (i : ℕ) → i < 11 → (plain (get_or (eleven base ext) i 0) ≡ true) ⊎ (get_or (eleven base ext) i 0 ≡ space)
  letter i h = rw (eleven_at base ext p i h) (byte_letter i)

  small : (i : ℕ) → get_or (eleven base ext) i 0 < 256
  small i = elim (dec_lt i 11) [
    | yes h ↦ elim (letter i h) [ inl e ↦ omega (arith, plain_below (get_or (eleven base ext) i 0) e) | inr e ↦ omega arith ]
    | no h ↦
        let l : length (eleven base ext) ≡ 11 = length_eleven base ext p in
        rw (get_or-eq_default (eleven base ext) 0 {n = i} (omega arith)) (omega arith)
  ]

  opening : plain (get_or (eleven base ext) 0 0) ≡ true
  opening = rw (eleven_at base ext p 0 (omega arith)) (padded_plain base 0 p.base_good p.some)

  pub proper_eleven : Proper (eleven base ext)
  unfolding plain
  proper_eleven =
      record {
        long = length_eleven base ext p;
        bytes = small;
        letters = letter;
        first = opening;
        blank = told plain (get_or (eleven base ext) 0 0) space opening refl;
        never_used = told plain (get_or (eleven base ext) 0 0) 0x00 opening refl;
        erased = told plain (get_or (eleven base ext) 0 0) 0xE5 opening refl;
        dotted = told plain (get_or (eleven base ext) 0 0) dot opening refl;
      }

pub proper : (s n : List ℕ) → name_given s ≡ Some n → Proper n
proper s n e = rw (fits_name s n e) (proper_eleven (before_first dot s) (after_first dot s) (fits_spells s n e).parts)

-- Names found on a volume may hold other bytes; they are then out of a caller's reach.
pub out_of_reach : (n : List ℕ) → (Proper n → ⊥) → (s : List ℕ) → name_given s ≢ Some n
out_of_reach n h s e = h (proper s n e)
