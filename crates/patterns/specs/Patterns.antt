-- What a caller may write as a pattern, the eleven bytes that it means, and the names that match them.
use Rattle.std.specs.Prelude.{ℕ, zero, suc, ◌+◌, ◌-◌, Bool, true, cond, ◌&&◌, ◌||◌, List, ◌++◌, map, Option, ◌≡◌, eqb, length, get_or}
use Rattle.names.specs.Alphabet.{allowed, capital}
use Rattle.names.specs.Spelling.{dot, space, every, Spells, filled, without_last}
use Rattle.names.specs.Reading.{before_first, after_first, fitting, spelled_if}

-- `?`
abbrev pub any : ℕ
any = 0x3F

-- `*`
abbrev pub star : ℕ
star = 0x2A

-- a character of a pattern, but for `*`: one of a name's, or `?`
unfoldable pub pattern_sign : ℕ → Bool
pattern_sign c = allowed c || eqb c any

-- a part of a pattern: `*` stands last in it, or nowhere
unfoldable pub pattern_part : List ℕ → Bool
pattern_part t = every pattern_sign (without_last star t)

-- the part ends in `*`
abbrev pub starred : List ℕ → Bool
starred t = eqb (get_or t (length t - 1) 0) star

-- the n bytes of a part in capitals: `*` fills the rest of it with `?`, and without `*` it is padded by spaces
abbrev pub wild : ℕ → List ℕ → List ℕ
wild n t = filled n (cond (starred t) any space) (map capital (without_last star t))

-- name 0-7, extension 8-10
unfoldable pub eleven_wild : List ℕ → List ℕ → List ℕ
eleven_wild base ext = wild 8 base ++ wild 3 ext

-- the eleven bytes n are what the pattern s means: it is spelled as a name is, and `*` is one of its part's characters
pub record PatternMeans (s n : List ℕ) : Type 0 where
  pub base : List ℕ
  pub ext : List ℕ
  pub spells : Spells pattern_part s base ext
  pub bytes : n ≡ eleven_wild base ext

-- the same as a function: the answer for a pattern given by a caller
unfoldable pub pattern_given : List ℕ → Option (List ℕ)
pattern_given s = let base = before_first dot s in let ext = after_first dot s in spelled_if (fitting pattern_part base ext) (eleven_wild base ext)

-- ---- names that match

-- `?` stands for any one byte, padding included; another byte for itself
abbrev pub byte_matches : ℕ → ℕ → Bool
byte_matches p x = eqb p any || eqb x p

-- the n bytes of x from byte i on match those of the pattern
unfoldable pub matches_from : List ℕ → List ℕ → ℕ → ℕ → Bool
matches_from p x i zero = true
matches_from p x i (suc n) = byte_matches (get_or p i 0) (get_or x i 0) && matches_from p x (i + 1) n

-- a name matches a pattern on all 11 bytes
unfoldable pub matches : List ℕ → List ℕ → Bool
matches p x = matches_from p x 0 11
