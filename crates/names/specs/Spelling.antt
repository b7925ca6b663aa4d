-- What a caller may write, and the eleven bytes that it means.
use Rattle.std.specs.Prelude.{ℕ, ◌-◌, ◌≤◌, ◌<◌, Bool, true, cond, List, [], ◌∷◌, ◌++◌, map, ◌⊎◌, ◌≢◌, ◌≡◌, eqb, length, get_or, replicate}
use Rattle.std.specs.List.{list_all}
use Rattle.names.specs.Alphabet.{plain, allowed, capital}

abbrev pub dot : ℕ
dot = 0x2E

abbrev pub space : ℕ
space = 0x20

-- every character of the list passes the test
unfoldable pub every : (ℕ → Bool) → List ℕ → Bool
every = list_all

-- 1 to 8 characters, and 0 to 3 more; good says which parts may be written
pub record Parts (good : List ℕ → Bool) (base ext : List ℕ) : Type 0 where
  pub some : 1 ≤ length base
  pub eight : length base ≤ 8
  pub three : length ext ≤ 3
  pub base_good : good base ≡ true
  pub ext_good : good ext ≡ true

-- 1 to 8 characters, then optionally a dot and 0 to 3 more.
pub record Spells (good : List ℕ → Bool) (s base ext : List ℕ) : Type 0 where
  pub parts : Parts good base ext
  pub written : ((s ≡ base) × (ext ≡ [])) ⊎ (s ≡ base ++ (dot ∷ ext))

-- t, and then as many f as make it n
abbrev pub filled : ℕ → ℕ → List ℕ → List ℕ
filled n f t = t ++ replicate (n - length t) f

-- padded by spaces
abbrev pub padded : ℕ → List ℕ → List ℕ
padded n t = filled n space t

-- name 0-7, extension 8-10, in capitals
unfoldable pub eleven : List ℕ → List ℕ → List ℕ
eleven base ext = padded 8 (map capital base) ++ padded 3 (map capital ext)

-- the eleven bytes n are what s means
pub record Means (s n : List ℕ) : Type 0 where
  pub base : List ℕ
  pub ext : List ℕ
  pub spells : Spells (every allowed) s base ext
  pub bytes : n ≡ eleven base ext

-- Eleven bytes that can be the name of a live file: capitals, digits and signs, padded by spaces.
-- First byte 00: never used; E5: erased; a live entry that starts with 2E is not sound.
pub record Proper (n : List ℕ) : Type 0 where
  pub long : length n ≡ 11
  pub bytes : (i : ℕ) → get_or n i 0 < 256
  pub letters : (i : ℕ) → i < 11 → (plain (get_or n i 0) ≡ true) ⊎ (get_or n i 0 ≡ space)
  pub first : plain (get_or n 0 0) ≡ true
  pub blank : get_or n 0 0 ≢ space
  pub never_used : get_or n 0 0 ≢ 0x00
  pub erased : get_or n 0 0 ≢ 0xE5
  pub dotted : get_or n 0 0 ≢ dot

-- the list without a last d
unfoldable pub without_last : ℕ → List ℕ → List ℕ
without_last d [] = []
without_last d (c ∷ []) = cond (eqb c d) [] (c ∷ [])
without_last d (c ∷ (e ∷ cs)) = c ∷ without_last d (e ∷ cs)

-- s without the case of its letters and without a last dot, which says nothing: "TARE." equals "TARE"
unfoldable pub plainly : List ℕ → List ℕ
plainly s = map capital (without_last dot s)
