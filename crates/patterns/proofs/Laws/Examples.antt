-- Patterns that a caller may write and such as are refused, what two of them mean, and a name that matches.
use Rattle.std.specs.Prelude.{ℕ, Bool, true, false, List, [], ◌∷◌, ◌++◌, map, Some, is_some, ◌≡◌, refl, replicate}
use Rattle.names.specs.Alphabet.{plain, allowed, capital}
use Rattle.names.specs.Spelling.{dot, space, every, eleven, without_last}
use Rattle.names.specs.Reading.{before_first, after_first, fitting, name_given, name_bytes}
use Rattle.patterns.specs.Patterns.{any, star, pattern_sign, pattern_part, eleven_wild, pattern_given, matches_from, matches}

abbrev fits : List ℕ → Bool
fits s = is_some (pattern_given s)

-- A to G
abbrev letters : List ℕ
letters = 0x41 ∷ 0x42 ∷ 0x43 ∷ 0x44 ∷ 0x45 ∷ 0x46 ∷ 0x47 ∷ []

-- DAY
abbrev day : List ℕ
day = 0x44 ∷ 0x41 ∷ 0x59 ∷ []

-- LOG
abbrev extension : List ℕ
extension = 0x4C ∷ 0x4F ∷ 0x47 ∷ []

-- .LOG
abbrev log : List ℕ
log = dot ∷ extension

-- `DAY???.LOG`, `*`, `*.*`, `ABCDEFG*`
pub good_ones : map fits
    ((day ++ (any ∷ any ∷ any ∷ log)) ∷ (star ∷ []) ∷ (star ∷ dot ∷ star ∷ []) ∷ (letters ++ (star ∷ [])) ∷ []) ≡ replicate 4 true
unfolding pattern_given pattern_part pattern_sign without_last before_first after_first fitting every plain allowed
good_ones = refl

-- `ABCDEFGH*`, `**`, `*?`, `*A`, `.LOG`, nothing, `DAY.LOG.LOG`, a byte from 80 on
pub bad_ones : map fits
    ((letters ++ (0x48 ∷ star ∷ [])) ∷ (star ∷ star ∷ []) ∷ (star ∷ any ∷ []) ∷ (star ∷ 0x41 ∷ [])
    ∷ log ∷ [] ∷ (day ++ (log ++ log)) ∷ (0x80 ∷ []) ∷ []) ≡ replicate 8 false
unfolding pattern_given pattern_part pattern_sign without_last before_first after_first fitting every plain allowed
bad_ones = refl

-- `*` leaves the extension blank, `*.*` is all
pub star_bytes : pattern_given (star ∷ []) ≡ Some (replicate 8 any ++ replicate 3 space)
unfolding pattern_given pattern_part pattern_sign without_last before_first after_first fitting every plain allowed capital eleven_wild
star_bytes = refl

pub all_bytes : pattern_given (star ∷ dot ∷ star ∷ []) ≡ Some (replicate 11 any)
unfolding pattern_given pattern_part pattern_sign without_last before_first after_first fitting every plain allowed capital eleven_wild
all_bytes = refl

-- `DAY?.LOG` matches DAY.LOG: its `?` meets padding
pub padding_matches : matches (name_bytes (pattern_given (day ++ (any ∷ log)))) (name_bytes (name_given (day ++ log))) ≡ true
unfolding pattern_given name_given pattern_part pattern_sign without_last before_first after_first fitting every plain allowed capital eleven_wild eleven matches matches_from
padding_matches = refl
