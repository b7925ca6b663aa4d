-- Which bytes of an image are a chain's, and where two images differ.
use Rattle.std.specs.Prelude.{ℕ, ◌+◌, ◌≤◌, ◌<◌, List, ◌≡◌, length, get_or}
use Rattle.chains.specs.Lists.{◌∈◌}
use Rattle.chains.specs.Content.{cluster_begin}
use Rattle.chains.specs.Values.{Link}

-- every cluster of the chain lies in the image
abbrev pub Room : ℕ → ℕ → List ℕ → List ℕ → Type 0
Room base cb img cs = (a : ℕ) → a ∈ cs → (2 ≤ a) × (cluster_begin base cb a + cb ≤ length img)

-- byte q of the image is one of cluster c
abbrev pub InCluster : ℕ → ℕ → ℕ → ℕ → Type 0
InCluster base cb c q = (cluster_begin base cb c ≤ q) × (q < cluster_begin base cb c + cb)

-- the image now differs from img, as far as clusters go, in those of ds alone
pub record Touches (last base cb : ℕ) (img now ds : List ℕ) : Type 0 where
  pub size : length now ≡ length img
  pub rest : (c q : ℕ) → Link last c → ¬ (c ∈ ds) → InCluster base cb c q → get_or now q 0 ≡ get_or img q 0
