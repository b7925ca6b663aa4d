-- The room that a write has: no more clusters than there are, and at least those that the file's size needs.
use Rattle.std.specs.Prelude.{ℕ, ◌+◌, ◌*◌, ◌≤◌, ◌<◌, List, ◌++◌, ◌≡◌, length}
use Rattle.std.proofs.Common.{arith, mul-le-mul_right}
use Rattle.std.proofs.Math.Logic.{inl, inr}
use Rattle.std.proofs.Math.ListN.{length-append}
use Rattle.chains.specs.Aids.Chain.{Chain}
use Rattle.chains.specs.Free.{free_clusters}
use Rattle.chains.specs.Lists.{◌∈◌}
use Rattle.chains.specs.Aids.Lists.{occ, Once}
use Rattle.chains.specs.Aids.Sizes.{Geometry}
use Rattle.chains.specs.Values.{Link}
use Rattle.chains.proofs.Laws.Chain.{chain_mem, chain_once}
use Rattle.chains.proofs.Laws.Free.{free_mem, free_once, free_length}
use Rattle.chains.proofs.Laws.Lists.{dec_mem, mem_append, occ_append, occ_not}
use Rattle.chains.proofs.Laws.Sums.{pigeon}
use Rattle.chains.proofs.Laws.Values.{free_no_use}
use Rattle.diskette.specs.Places.{clusters, cluster_bytes, last_cluster}
use Rattle.diskette.specs.declared.Kind.{Kind}
use Rattle.fields.specs.Fields.{size_of}
use Rattle.sound.specs.Counts.{free_of}
use Rattle.sound.specs.Files.{value_of}
use Rattle.sound.proofs.Laws.Geometry.{geometry}
use Rattle.calls.specs.Aids.Ready.{OnVolume}
use Rattle.calls.proofs.Laws.Ready.{on_usable}
use Rattle.holding.specs.Holding.{file_chain}
use Rattle.holding.specs.Aids.Files.{FileAt}

-- a chain and clusters that may be taken have none in common
pub apart_once : (G : Geometry) (f : ℕ → ℕ) (start : ℕ) (cs new : List ℕ) → Chain G.last f start cs → ((a : ℕ) → a ∈ new → f a ≡ 0) → Once new → Once (cs ++ new)
apart_once G f start cs new p free o a = elim (dec_mem a new) [
  | yes m ↦
      let z : occ a cs ≡ 0 = occ_not a cs (λ h. free_no_use G.last (f a) (free a m) (chain_mem G f start cs p a h).1) in
      omega (arith, occ_append a cs new, o a)
  | no n ↦ omega (arith, occ_append a cs new, occ_not a new n, chain_once G f start cs p a)
]

module _ (img : List ℕ) (k : Kind) (v : OnVolume img k) (a : ℕ) (f : FileAt k img a) where
  G : Geometry
  G = geometry k (on_usable img k v)

  abbrev cs : List ℕ
  cs = file_chain k img a

  -- own and free clusters are no more than there are
  pub room_clusters : length cs + free_of k img ≤ clusters k
  unfolding G
  room_clusters =
      let all = cs ++ free_clusters (last_cluster k) (value_of k img) in
      let within : (c : ℕ) → c ∈ all → Link (last_cluster k) c = λ c m. elim (mem_append c cs _ m) [
        | inl h ↦ (chain_mem G (value_of k img) _ cs f.chain c h).0
        | inr h ↦ (free_mem G (value_of k img) c h).0
      ] in
      let once : Once all = apart_once G (value_of k img) _ cs _ f.chain (λ c m. (free_mem G (value_of k img) c m).1) (free_once G (value_of k img)) in
      omega (arith, pigeon G all within once, length-append cs (free_clusters (last_cluster k) (value_of k img)), free_length G (value_of k img))

  room_small : (length cs + free_of k img) * cluster_bytes k ≤ clusters k * cluster_bytes k
  room_small = let h = room_clusters in mul-le-mul_right (cluster_bytes k) h

  -- 4,078 clusters of 4,096 bytes at most
  pub room_fits : (length (file_chain k img a) + free_of k img) * cluster_bytes k < 4294967296
  room_fits =
      let few : clusters k ≤ 4078 = omega (arith, (on_usable img k v).below_reserved) in
      let h : clusters k * cluster_bytes k ≤ 4078 * cluster_bytes k = mul-le-mul_right (cluster_bytes k) few in
      omega (arith, room_small, (on_usable img k v).per_high)

  pub room_own : size_of img a ≤ (length (file_chain k img a) + free_of k img) * cluster_bytes k
  room_own = omega (arith, f.holds)
