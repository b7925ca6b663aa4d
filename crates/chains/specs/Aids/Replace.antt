-- One holder is replaced: changed, or added where nobody was, or removed where nobody is then. Every change of a volume is one of these.
use Rattle.std.specs.Prelude.{ℕ, ◌≡◌, ◌⊎◌, List}
use Rattle.chains.specs.Lists.{◌∈◌}
use Rattle.chains.specs.Values.{Link}
use Rattle.chains.specs.Aids.Holders.{Holder, Owns}

-- The holder becomes new with the clusters ds, where its clusters were cs; the table is g where it was f.
pub record Replaced (last : ℕ) (f g : ℕ → ℕ) (new : Holder) (cs ds : List ℕ) : Type 0 where
  pub owns : Owns last g new ds
  pub keep : (c : ℕ) → Link last c → ¬ (c ∈ cs) → ¬ (c ∈ ds) → g c ≡ f c
  pub freed : (c : ℕ) → Link last c → c ∈ cs → ¬ (c ∈ ds) → g c ≡ 0
  pub taken : (c : ℕ) → c ∈ ds → (c ∈ cs) ⊎ (f c ≡ 0)
