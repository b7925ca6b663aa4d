-- Free clusters: the list of them.
use Rattle.std.specs.Prelude.{ℕ, zero, suc, ◌-◌, List, [], ◌∷◌, cond}
use Rattle.chains.specs.Values.{freeb}

-- those of the n clusters from c on that are free, lowest first
unfoldable pub free_from : (ℕ → ℕ) → ℕ → ℕ → List ℕ
free_from f zero c = []
free_from f (suc n) c = cond (freeb (f c)) (c ∷ free_from f n (suc c)) (free_from f n (suc c))

-- all free clusters, lowest first
unfoldable pub free_clusters : ℕ → (ℕ → ℕ) → List ℕ
free_clusters last f = free_from f (last - 1) 2
