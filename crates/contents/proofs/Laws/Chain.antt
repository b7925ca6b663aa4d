-- The chain that is met in an image: its clusters are in range, and each leads to the next.
use Rattle.std.specs.Prelude.{ℕ, ◌+◌, ◌-◌, ◌*◌, ◌/◌, ◌≤◌, ◌<◌, ◌≡◌, List, length, get_or}
use Rattle.std.proofs.Common.{arith, div-lt_iff_lt-mul, mul-le-mul_right, ap}
use Rattle.chains.specs.Lists.{◌∈◌}
use Rattle.chains.specs.Aids.Sizes.{Geometry}
use Rattle.chains.specs.Values.{Link}
use Rattle.chains.specs.Aids.Chain.{Chain}
use Rattle.chains.specs.Chain.{clusters_from}
use Rattle.chains.specs.Aids.Steps.{followed}
use Rattle.chains.specs.Aids.Content.{Room}
use Rattle.chains.proofs.Laws.Lists.{index_mem}
use Rattle.chains.proofs.Laws.Met.{met_links, met_few, met_followed, met_next, chain_met}
use Rattle.chains.proofs.Laws.Content.{cluster_high}
use Rattle.table.specs.Entries.{table_of}
use Rattle.contents.specs.Aids.Contents.{chain_from, Area}

-- what theorems on chains use of it
abbrev pub geometry : {base cb last bytes : ℕ} → Area base cb last bytes → Geometry
geometry {base} {cb} {last} {bytes} a = record { last = last; cb = cb; small = a.small; wide = a.wide }

module _ (base cb last : ℕ) (l : List ℕ) (start : ℕ) (a : Area base cb last (length l)) where
  -- the chain, if there is one, is the one found
  pub chain_is : (cs : List ℕ) → Chain last (table_of last l) start cs → chain_from last l start ≡ cs
  chain_is cs p = chain_met (geometry a) (table_of last l) start cs p

  pub chain_links : (c : ℕ) → c ∈ chain_from last l start → Link last c
  chain_links c m = met_links last (table_of last l) (last - 1) start c m

  pub chain_room : Room base cb l (chain_from last l start)
  chain_room c m = ((chain_links c m).0, omega (arith, a.clusters, cluster_high base cb a.wide (geometry a) c (chain_links c m)))

  -- so many bytes are never more than the image has
  pub chain_small : length (chain_from last l start) * cb ≤ length l
  chain_small = let h = met_few last (table_of last l) (last - 1) start in omega (arith, a.clusters, mul-le-mul_right cb h)

  -- the cluster that holds byte p of the chain
  module _ (p : ℕ) (h : p < length (chain_from last l start) * cb) where
    inside : p / cb < length (chain_from last l start)
    inside = (div-lt_iff_lt-mul a.wide).1 h

    pub holder_link : Link last (get_or (chain_from last l start) (p / cb) 0)
    holder_link = chain_links _ (index_mem (chain_from last l start) (p / cb) inside)

    pub holder_followed : followed (table_of last l) (p / cb) start ≡ get_or (chain_from last l start) (p / cb) 0
    holder_followed = met_followed last (table_of last l) (last - 1) start (p / cb) inside

  pub holder_next : (k : ℕ) → k + 1 < length (chain_from last l start) → table_of last l (get_or (chain_from last l start) k 0) ≡ get_or (chain_from last l start) (k + 1) 0
  holder_next k h = met_next last (table_of last l) (last - 1) start k h

-- an image with the same table has the same chains
pub chain_kept : (last : ℕ) (l m : List ℕ) (start : ℕ) → ((c : ℕ) → table_of last m c ≡ table_of last l c) → chain_from last m start ≡ chain_from last l start
chain_kept last l m start e = ap (λ (f : ℕ → ℕ). clusters_from last f (last - 1) start) (λ k c. e c k)
