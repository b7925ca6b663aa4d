-- What is met along a chain: clusters, each naming the next; all of the chain, where there is one.
use Prim.Native.Nat.{ℕ, zero, suc, ◌+◌, ◌-◌, ◌≤◌, ◌<◌}
use native.Mathlib.Omega.{arith}
use Rattle.std.specs.Prelude.{Bool, ◌≡◌}
use Rattle.std.proofs.Math.Bool.{true, false, cond}
use Rattle.std.proofs.Common.{inl, inr, sym, ap, ◌∙◌}
use mathlib.Core.List.{List, [], ◌∷◌}
use Rattle.std.proofs.Math.Path.{refl}
use Rattle.std.proofs.Math.ListN.{length, get_or}
use Rattle.chains.specs.Lists.{◌∈◌}
use Rattle.chains.specs.Values.{Link, linkb}
use Rattle.chains.specs.Chain.{clusters_from}
use Rattle.chains.specs.Aids.Chain.{Leads, Chain}
use Rattle.chains.specs.Aids.Sizes.{Geometry}
use Rattle.chains.specs.Aids.Steps.{followed}
use Rattle.chains.proofs.Laws.Tests.{says_true, true_says, false_says}
use Rattle.chains.proofs.Laws.Values.{says_link}
use Rattle.chains.proofs.Laws.Chain.{chain_length, one_more}

module _ (last : ℕ) (f : ℕ → ℕ) where
  -- ---- the two ways on

  pub from_link : (n v : ℕ) → linkb last v ≡ true → clusters_from last f (suc n) v ≡ v ∷ clusters_from last f n (f v)
  unfolding clusters_from
  from_link n v e = rw e

  pub from_none : (n v : ℕ) → linkb last v ≡ false → clusters_from last f n v ≡ []
  unfolding clusters_from
  from_none zero v e = refl
  from_none (suc n) v e = rw e

  -- ---- what is met

  pub met_links : (n v c : ℕ) → c ∈ clusters_from last f n v → Link last c
  unfolding clusters_from
  met_links zero v c m = absurd m
  met_links (suc n) v c m = by (linkb last v) refl m (met_links n (f v) c)
    where
      by : (b : Bool) → linkb last v ≡ b → c ∈ cond b (v ∷ clusters_from last f n (f v)) [] → (c ∈ clusters_from last f n (f v) → Link last c) → Link last c
      by true e (inl q) later = rw q (says_true (says_link last v) e)
      by true e (inr q) later = later q
      by false e q later = absurd q

  pub met_few : (n v : ℕ) → length (clusters_from last f n v) ≤ n
  unfolding clusters_from
  met_few zero v = omega arith
  met_few (suc n) v = by (linkb last v) (met_few n (f v))
    where
      by : (b : Bool) → length (clusters_from last f n (f v)) ≤ n → length (cond b (v ∷ clusters_from last f n (f v)) []) ≤ suc n
      by true later = omega arith
      by false later = omega arith

  pub met_followed : (n v i : ℕ) → i < length (clusters_from last f n v) → followed f i v ≡ get_or (clusters_from last f n v) i 0
  unfolding clusters_from followed
  met_followed zero v i h = absurd (omega arith)
  met_followed (suc n) v i h = by (linkb last v) i h (λ j. met_followed n (f v) j)
    where
      by : (b : Bool) (i : ℕ) → i < length (cond b (v ∷ clusters_from last f n (f v)) [])
          → ((j : ℕ) → j < length (clusters_from last f n (f v)) → followed f j (f v) ≡ get_or (clusters_from last f n (f v)) j 0)
          → followed f i v ≡ get_or (cond b (v ∷ clusters_from last f n (f v)) []) i 0
      by true zero h later = refl
      by true (suc j) h later = later j (omega arith)
      by false i h later = absurd (omega arith)

  followed_next : (i v : ℕ) → f (followed f i v) ≡ followed f (suc i) v
  unfolding followed
  followed_next zero v = refl
  followed_next (suc i) v = followed_next i (f v)

  pub met_next : (n v i : ℕ) → i + 1 < length (clusters_from last f n v) → f (get_or (clusters_from last f n v) i 0) ≡ get_or (clusters_from last f n v) (i + 1) 0
  met_next n v i h =
      ap f (sym (met_followed n v i (omega arith))) ∙ followed_next i v ∙ ap (λ (j : ℕ). followed f j v) (sym (one_more i)) ∙ met_followed n v (i + 1) h

-- ---- a chain

module _ (G : Geometry) (f : ℕ → ℕ) where
  leads_met : (v : ℕ) (cs : List ℕ) (n : ℕ) → Leads G.last f v cs → length cs ≤ n → clusters_from G.last f n v ≡ cs
  leads_met v [] n p l = from_none G.last f n v (false_says (says_link G.last v) (λ q. omega (arith, G.small)))
  leads_met v (x ∷ xs) zero p l = absurd (omega arith)
  leads_met v (x ∷ xs) (suc n) p l =
      rw p.0 (from_link G.last f n x (true_says (says_link G.last x) p.1) ∙ ap (λ (r : List ℕ). x ∷ r) (leads_met (f x) xs n p.2 (omega arith)))

  pub chain_met : (c : ℕ) (cs : List ℕ) → Chain G.last f c cs → clusters_from G.last f (G.last - 1) c ≡ cs
  chain_met c [] p = from_none G.last f (G.last - 1) c (false_says (says_link G.last c) (λ q. omega arith))
  chain_met c (x ∷ xs) p = leads_met c (x ∷ xs) (G.last - 1) p (chain_length G f c (x ∷ xs) p)
