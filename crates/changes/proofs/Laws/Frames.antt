-- What each kind of store leaves: in an entry, in the tables, in the data; and one after the other.
use Rattle.std.specs.Prelude.{ℕ, ◌+◌, ◌*◌, ◌≤◌, ◌<◌, List, ◌≢◌, ◌⊎◌, ◌≡◌, refl, length, get_or}
use Rattle.std.proofs.Common.{arith, inl, inr, sym, ◌∙◌}
use Rattle.std.proofs.Math.Decide.{dec_lt}
use Rattle.image.specs.Store.{stored}
use Rattle.image.proofs.Laws.Store.{length_stored, stored_outside}
use Rattle.chains.specs.Content.{cluster_begin}
use Rattle.chains.specs.Aids.Content.{Touches}
use Rattle.chains.specs.Write.{poured}
use Rattle.chains.proofs.Laws.Poured.{poured_length}
use Rattle.contents.proofs.Laws.Kept.{poured_before}
use Rattle.diskette.specs.Aids.Usable.{Usable}
use Rattle.diskette.specs.Places.{first_data, cluster_bytes, copy_two, last_cluster, root_entries, slot_at}
use Rattle.diskette.specs.declared.Kind.{Kind}
use Rattle.table.proofs.Laws.View.{table_beside, agree_beside}
use Rattle.links.specs.Aids.Leaves.{SameButEntries}
use Rattle.sound.specs.Files.{value_of}
use Rattle.changes.specs.Aids.Changed.{Framed}

module _ (k : Kind) (u : Usable k) (s : ℕ) where
  pub frame_same : (l : List ℕ) → Framed k l l s
  frame_same l = record { long = refl; head = λ j h. refl; agree = λ a. a; others = λ t h n i j. refl }

  pub frame_then : (l m n : List ℕ) → Framed k l m s → Framed k m n s → Framed k l n s
  frame_then l m n x y = record {
    long = y.long ∙ x.long;
    head = λ j h. y.head j h ∙ x.head j h;
    agree = λ a. y.agree (x.agree a);
    others = λ t h d i j. y.others t h d i j ∙ x.others t h d i j;
  }

  -- ---- a store within the 32 bytes of the slot

  module _ (l : List ℕ) (p : ℕ) (bs : List ℕ) (from : slot_at k s ≤ p) (to : p + length bs ≤ slot_at k s + 32) (within : s < root_entries k) where
    pub entry_frame : Framed k l (stored l p bs) s
    entry_frame = record {
      long = length_stored l p bs;
      head = λ j h. stored_outside l p bs j (inl (omega (arith, u.reaches)));
      agree = agree_beside (copy_two k) (512 * k.fat) l p bs (omega arith) (inr (omega arith));
      others = λ t h d i j. stored_outside l p bs (slot_at k t + i) (apart t d i j);
    }
      where
        apart : (t : ℕ) → t ≢ s → (i : ℕ) → i < 32 → (slot_at k t + i < p) ⊎ (p + length bs ≤ slot_at k t + i)
        apart t d i j = elim (dec_lt t s) [
          | yes h ↦ inl (omega arith)
          | no h ↦ inr (let q : s + 1 ≤ t = omega (arith, decided t d h) in omega arith)
        ]
          where
            decided : (t : ℕ) → t ≢ s → ¬ (t < s) → s < t
            decided t d h = elim (dec_lt s t) [ yes q ↦ q | no q ↦ absurd (d (omega arith)) ]

    pub entry_table : (c : ℕ) → value_of k (stored l p bs) c ≡ value_of k l c
    entry_table = table_beside (last_cluster k) l p bs (inr (omega (arith, u.reaches)))

    pub entry_touches : (ds : List ℕ) → Touches (last_cluster k) (512 * first_data k) (cluster_bytes k) l (stored l p bs) ds
    unfolding cluster_begin
    entry_touches ds = record { size = length_stored l p bs; rest = λ c q h n i. stored_outside l p bs q (inr (omega (arith, i.0))) }

  -- ---- other entries of clusters, in both copies

  module _ (l m : List ℕ) (x : SameButEntries (copy_two k) (last_cluster k) l m) where
    pub links_frame : Framed k l m s
    links_frame = record {
      long = x.long;
      head = λ j h. x.beside j (inl (omega arith)) (inl (omega arith));
      agree = x.agree (512 * k.fat) (omega arith) u.reaches;
      others = λ t h d i j. x.beside (slot_at k t + i) (inr (omega (arith, u.reaches))) (inr (omega (arith, u.reaches)));
    }

    pub links_touch : (ds : List ℕ) → Touches (last_cluster k) (512 * first_data k) (cluster_bytes k) l m ds
    unfolding cluster_begin
    links_touch ds = record { size = x.long; rest = λ c q h n i. x.beside q (inr (omega (arith, u.reaches, i.0))) (inr (omega (arith, u.reaches, i.0))) }

  -- ---- bytes along a chain

  module _ (l cs : List ℕ) (pos : ℕ) (bs : List ℕ) (n : ℕ) where
    before : (j : ℕ) → j < 512 * first_data k → get_or (poured (512 * first_data k) (cluster_bytes k) l cs pos bs n) j 0 ≡ get_or l j 0
    before = poured_before (512 * first_data k) (cluster_bytes k) (omega (arith, u.per_low)) l cs pos bs n

    pub data_frame : Framed k l (poured (512 * first_data k) (cluster_bytes k) l cs pos bs n) s
    data_frame = record {
      long = poured_length (512 * first_data k) (cluster_bytes k) l cs pos bs n;
      head = λ j h. before j (omega (arith, u.reaches));
      agree = λ a j h. before (512 + j) (omega arith) ∙ a j h ∙ sym (before (copy_two k + j) (omega arith));
      others = λ t h d i j. before (slot_at k t + i) (omega arith);
    }
