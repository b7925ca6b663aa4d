-- Holders of chains: a family over numbers (the address of an entry, or any other), nobody where there is none. And when a table and its holders fit together.
use Rattle.std.specs.Prelude.{ℕ, ◌≡◌, Bool, true, List, eqb, length}
use Rattle.chains.specs.Lists.{◌∈◌}
use Rattle.chains.specs.Aids.Lists.{Once}
use Rattle.chains.specs.Aids.Sizes.{fits}
use Rattle.chains.specs.Values.{Link, Used, Valid}
use Rattle.chains.specs.Aids.Chain.{Chain}

-- where its chain starts, and a test of how long the chain may be
pub record Holder : Type 0 where
  pub start : ℕ
  pub allows : ℕ → Bool

-- no holder: no clusters
abbrev pub nobody : Holder
nobody = record { start = 0; allows = λ k. eqb k 0 }

-- a file of size bytes that starts at start
abbrev pub file_holder : ℕ → ℕ → ℕ → Holder
file_holder cb start size = record { start = start; allows = fits cb size }

-- cs are the clusters of h
pub record Owns (last : ℕ) (f : ℕ → ℕ) (h : Holder) (cs : List ℕ) : Type 0 where
  pub chain : Chain last f h.start cs
  pub long : h.allows (length cs) ≡ true

-- table and holders fit together; χ i are the clusters of the holder i
pub record FitTogether (last : ℕ) (f : ℕ → ℕ) (h : ℕ → Holder) (χ : ℕ → List ℕ) : Type 0 where
  pub valid : (c : ℕ) → Link last c → Valid last (f c)
  pub owns : (i : ℕ) → Owns last f (h i) (χ i)
  pub apart : (i j c : ℕ) → c ∈ χ i → c ∈ χ j → i ≡ j
  pub cover : (c : ℕ) → Link last c → Used last (f c) → (i : ℕ) × (c ∈ χ i)

-- is names every holder that has clusters, once
pub record NamesAll (χ : ℕ → List ℕ) (is : List ℕ) : Type 0 where
  pub each : Once is
  pub all : (i c : ℕ) → c ∈ χ i → i ∈ is
