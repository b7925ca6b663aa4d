-- A file made longer, as the code does it: in the form of its needs.
use Rattle.std.specs.Prelude.{ℕ, ◌+◌, ◌-◌, ◌≤◌, ◌<◌, cond, List, [], ◌∷◌, ◌++◌, ◌≢◌, ◌≡◌, refl, eqb, length, get_or}
use Rattle.std.proofs.Common.{arith, inl, inr, ap, ◌∙◌, eq-eqb, ne_eqb}
use Rattle.image.specs.Bytes.{Bytes}
use Rattle.chains.specs.Aids.Chain.{Chain}
use Rattle.chains.specs.Sizes.{clusters_for}
use Rattle.diskette.specs.Places.{cluster_bytes, copy_two, last_cluster}
use Rattle.diskette.specs.declared.Kind.{Kind}
use Rattle.fields.specs.Fields.{start_of, with_start, with_size}
use Rattle.links.specs.Linked.{end_of}
use Rattle.links.specs.Aids.Extent.{extent_of}
use Rattle.links.specs.Aids.Linked.{Behind, Added}
use Rattle.links.specs.Aids.Leaves.{HasTable}
use Rattle.links.proofs.Laws.Linked.{end_behind}
use Rattle.links.proofs.Laws.New.{added_linked}
use Rattle.links.specs.declared.Extent.{Extent}
use Rattle.sound.specs.Files.{value_of}
use Rattle.calls.specs.Aids.Ready.{OnVolume}
use Rattle.calls.proofs.Laws.Ready.{on_usable}
use Rattle.holding.specs.Holding.{file_chain}
use Rattle.holding.proofs.Laws.Clusters.{copies_reach}
use Rattle.putting.specs.Longer.{new_for, lengthened}
use Rattle.putting.specs.Aids.Longer.{CanGrow, AddedBehind, Grows, Lengthens}
use Rattle.putting.proofs.Laws.Longer.{start_small, linked_length, longer_area, longer_found, after_holds}

module _ (img : List ℕ) (k : Kind) (v : OnVolume img k) (end : ℕ) (behind : Behind (last_cluster k) (value_of k img) end) where
  pub added_is : Bytes img → (second last n answer : ℕ) (m : List ℕ) → second ≡ copy_two k → last ≡ last_cluster k
      → Added second last img end n answer m → AddedBehind k img end n answer m
  added_is b second last n answer m es el x =
      let h : HasTable (copy_two k) (last_cluster k) img = record { small = (on_usable img k v).below_reserved; bytes = b; reaches = copies_reach img k v (copy_two k) (last_cluster k) refl refl } in
      record {
        first = x.first ∙ rw el;
        image = x.image ∙ rw (es, el) (added_linked (copy_two k) (last_cluster k) img end n h behind);
      }

-- ---- the file grows

module _ (k : Kind) (img : List ℕ) (a size : ℕ) (g : CanGrow k img a size) where
  module _ (own : Extent) (eo : own ≡ extent_of (file_chain k img a)) where
    end_is : own.end ≡ end_of (file_chain k img a)
    end_is = ap (λ (e : Extent). e.end) eo

    pub end_goes_on : Behind (last_cluster k) (value_of k img) own.end
    end_goes_on = rw end_is
        (end_behind (last_cluster k) (on_usable img k g.on).below_reserved (value_of k img) (start_of img a) (file_chain k img a) g.file.chain)

  module _ (start : ℕ) (m : List ℕ) (x : Grows k img a size start m) where
    pub start_fits : start < 65536
    start_fits = rw x.start (start_small k img a size g)

    pub lengthened_is : (l : List ℕ) → l ≡ with_size (with_start m a start) a size → Lengthens k img a size start l
    unfolding lengthened
    lengthened_is l q =
        let e : l ≡ lengthened k img a size = q ∙ rw (x.start, x.image) in
        record {
          image = e;
          area = rw e (longer_area k img a size g);
          found = rw (e, x.start) (longer_found k img a size g);
          holds = after_holds k img a size g;
        }
