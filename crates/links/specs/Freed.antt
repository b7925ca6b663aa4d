-- A chain given back: "its clusters freed" (create), "frees the chain" (delete).
use Rattle.std.specs.Prelude.{ℕ, List, [], ◌∷◌}
use Rattle.table.specs.Entries.{set_both}

-- l with each cluster of a list free in both copies, from the front
unfoldable pub freed : ℕ → List ℕ → List ℕ → List ℕ
freed second l [] = l
freed second l (c ∷ cs) = freed second (set_both second l c 0) cs
