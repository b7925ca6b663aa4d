-- A sound volume of which one slot changed: the theory's lemma on one holder replaced, by slot and by the
-- bytes of two volumes.
use Rattle.std.specs.Prelude.{ℕ, ◌<◌, List, ◌≢◌, ◌≡◌}
use Rattle.std.proofs.Common.{ap, ◌∙◌}
use Rattle.chains.specs.Aids.Put.{put}
use Rattle.chains.specs.Aids.Replace.{Replaced}
use Rattle.chains.proofs.Laws.Replace.{replaced}
use Rattle.diskette.specs.Aids.Usable.{Usable}
use Rattle.diskette.specs.Places.{cluster_bytes, last_cluster, root_entries, slot_at}
use Rattle.diskette.specs.declared.Kind.{Kind}
use Rattle.chaincheck.specs.Aids.Entries.{holder_at}
use Rattle.sound.specs.Files.{value_of}
use Rattle.sound.specs.Aids.Holders.{root_holders}
use Rattle.sound.proofs.Laws.Geometry.{geometry}
use Rattle.sound.proofs.Laws.Holders.{root_holder, root_holders_as}
use Rattle.chains.specs.Aids.Holders.{FitTogether}

module _ (k : Kind) (u : Usable k) (l m : List ℕ) (χ : ℕ → List ℕ) (v : FitTogether (last_cluster k) (value_of k l) (root_holders k l) χ) where
  -- slot s has its holder and clusters replaced, and the table is changed no more than that asks for
  pub slot_replaced : (s : ℕ) → s < root_entries k → (ds : List ℕ)
      → Replaced (last_cluster k) (value_of k l) (value_of k m) (holder_at (cluster_bytes k) m (slot_at k s)) (χ (slot_at k s)) ds
      → ((t : ℕ) → t < root_entries k → t ≢ s → holder_at (cluster_bytes k) m (slot_at k t) ≡ holder_at (cluster_bytes k) l (slot_at k t))
      → FitTogether (last_cluster k) (value_of k m) (root_holders k m) (put χ (slot_at k s) ds)
  slot_replaced s i ds r there =
      replaced (geometry k u) (value_of k l) (value_of k m) (root_holders k l) χ v (slot_at k s) (holder_at (cluster_bytes k) m (slot_at k s)) ds r (root_holders k m) (root_holder k m s i)
      (λ a n. root_holders_as k m l a (λ t j e. there t j (λ q. n (e ∙ ap (slot_at k) q))))
