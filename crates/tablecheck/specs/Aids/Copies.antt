-- Finding 2 as the code searches for it. second is the byte where copy 2 stands.
use Rattle.std.specs.Prelude.{ℕ, ◌+◌, min, Bool, cond, ◌&&◌, ◌||◌, not, List, eqb, get_or}
use Rattle.search.specs.Search.{lowest, is_found}

-- the copies are not as they must be at offset j
unfoldable pub differs_at : ℕ → List ℕ → ℕ → Bool
differs_at second l j =
    not (eqb (get_or l (512 + j) 0) (get_or l (second + j) 0)) || ((eqb j 1 || eqb j 2) && not (eqb (get_or l (512 + j) 0) 0xFF))

-- their bytes there are not the same
unfoldable pub unlike_at : ℕ → List ℕ → ℕ → Bool
unlike_at second l j = not (eqb (get_or l (512 + j) 0) (get_or l (second + j) 0))

-- up to which offset they have to be searched: where all bytes are the same, only bytes 1 and 2 may be other than they must be
unfoldable pub search_end : ℕ → List ℕ → ℕ → ℕ
search_end second l size = cond (is_found (lowest (unlike_at second l) 0 size)) size (min 3 size)
