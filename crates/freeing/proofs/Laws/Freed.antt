-- Code that frees along the table, up to as many clusters as there are, frees a file's whole chain and stops at its end.
use Rattle.std.specs.Prelude.{ℕ, ◌+◌, ◌≤◌, List, ◌≡◌, refl, length}
use Rattle.std.proofs.Common.{◌∙◌}
use Rattle.image.specs.Bytes.{Bytes}
use Rattle.diskette.specs.Places.{clusters, copy_two, last_cluster, slot_at}
use Rattle.diskette.specs.declared.Kind.{Kind}
use Rattle.fields.specs.Fields.{start_of}
use Rattle.links.specs.Aids.Freed.{freed_from}
use Rattle.links.proofs.Laws.Freed.{chain_freed_lem}
use Rattle.calls.specs.Aids.Ready.{OnVolume}
use Rattle.calls.proofs.Laws.Ready.{on_usable}
use Rattle.holding.specs.Holding.{file_chain}
use Rattle.holding.specs.Aids.Files.{FileAt}
use Rattle.holding.proofs.Laws.Clusters.{copies_reach}
use Rattle.holding.proofs.Laws.Chain.{chain_few, file_within}
use Rattle.sound.specs.Files.{IsFile}
use Rattle.freeing.specs.Freed.{chain_freed}

pub freed_is : (img : List ℕ) (k : Kind) → OnVolume img k → (a : ℕ) → FileAt k img a → Bytes img → (start n second last : ℕ) → start ≡ start_of img a → n ≡ clusters k
    → second ≡ copy_two k → last ≡ last_cluster k → (m : List ℕ) → m ≡ freed_from second last img n start → m ≡ chain_freed k img a
unfolding chain_freed
freed_is img k v a f b start n second last es en e2 el m em =
    em
    ∙ rw (e2, el, en, es)
    (chain_freed_lem (copy_two k) (last_cluster k) img (start_of img a) (file_chain k img a) (clusters k)
    (record { small = (on_usable img k v).below_reserved; bytes = b; reaches = copies_reach img k v (copy_two k) (last_cluster k) refl refl })
    f.chain (chain_few img k v a f))

-- the entry of a file in a slot is still within the image then
pub freed_within : (img : List ℕ) (k : Kind) → OnVolume img k → (slot : ℕ) → IsFile k img slot → (m : List ℕ) → length m ≡ length img → (a : ℕ) → a ≡ slot_at k slot → a + 32 ≤ length m
freed_within img k v slot i m e a q = rw e (file_within img k v slot i a q)
