-- The chain of one file: the test says what finding 5 says, and a chain that passes it has room for the file.
use Rattle.std.specs.Prelude.{ℕ, ◌+◌, ◌-◌, ◌*◌, ◌≤◌, ◌<◌, Bool, true, ◌&&◌, ◌||◌, ◌≢◌, ◌⊎◌, ◌↔◌, ◌≡◌, refl, leb, length, take, Some}
use Rattle.std.proofs.Common.{arith, inr, ◌∙◌}
use Rattle.std.proofs.Math.Bool.{false}
use mathlib.Core.List.{List, []}
use Rattle.std.proofs.Math.Logic.{inl}
use Rattle.std.proofs.Math.Path.{sym, ap}
use Rattle.std.proofs.Math.Dec.{eqb}
use borrow.Author.Tests.{eq-eqb, ne_eqb, le-leb, lt-leb}
use Rattle.image.specs.Store.{stored}
use Rattle.chains.specs.Content.{content}
use Rattle.chains.specs.Aids.Holders.{Holder, Owns, file_holder}
use Rattle.chains.specs.Sizes.{clusters_for}
use Rattle.chains.specs.Aids.Sizes.{Geometry}
use Rattle.chains.specs.Aids.Tests.{Says}
use Rattle.chains.specs.Values.{End, endb}
use Rattle.sound.proofs.Laws.Clusters.{file_owns, chain_clusters}
use Rattle.chains.proofs.Laws.Content.{content_length}
use Rattle.chains.proofs.Laws.Holders.{file_fits}
use Rattle.chains.proofs.Laws.Tests.{says_and, says_eq, says_le, says_map, says_or, says_true, says_false, false_says}
use Rattle.chains.proofs.Laws.Values.{says_end}
use Rattle.contents.specs.Aids.Contents.{chain_from, fetched}
use Rattle.contents.proofs.Laws.Chain.{chain_is, chain_room}
use Rattle.contents.proofs.Laws.Read.{fetched_content}
use Rattle.diskette.specs.Images.{kind_of_image}
use Rattle.diskette.specs.Places.{first_data, cluster_bytes, last_cluster, slot_at}
use Rattle.diskette.specs.declared.Kind.{Kind}
use Rattle.fields.specs.Fields.{start_of, size_of}
use Rattle.table.specs.Entries.{table_of}
use Rattle.table.proofs.Laws.View.{table_outside}
use Rattle.links.specs.Linked.{end_of}
use Rattle.links.specs.Aids.Extent.{extent_of}
use Rattle.links.specs.declared.Extent.{Extent}
use Rattle.sound.specs.Files.{value_of, ChainOf, none_of_it, enough, IsFile}
use Rattle.sound.specs.Findings.{BadChain}
use Rattle.sound.proofs.Laws.Geometry.{geometry}
use Rattle.holding.specs.Holding.{file_chain, file_bytes}
use Rattle.holding.proofs.Laws.Kinds.{usable, clusters_inside}
use Rattle.rescuing.specs.Rescue.{good_chain}
use Rattle.rescuing.proofs.Laws.Ends.{met_chain, met_start}

no_other : (a b : Bool) → (a || (b && false)) ≡ a
no_other true b = refl
no_other false true = refl
no_other false false = refl

module _ (img : List ℕ) (k : Kind) (e : kind_of_image img ≡ Some k) (slot : ℕ) where
  abbrev G : Geometry
  G = geometry k (usable img k e)

  abbrev f : ℕ → ℕ
  f = value_of k img

  abbrev start : ℕ
  start = start_of img (slot_at k slot)

  abbrev size : ℕ
  size = size_of img (slot_at k slot)

  abbrev cs : List ℕ
  cs = file_chain k img (slot_at k slot)

  abbrev needed : ℕ
  needed = clusters_for (cluster_bytes k) size

  nothing_at_0 : f 0 ≡ 0
  nothing_at_0 = table_outside (last_cluster k) img 0 (inl (omega arith))

  -- ---- what the test means

  abbrev HasChain : Type 0
  HasChain = (cs : List ℕ) × ChainOf k img slot cs

  -- none, or enough with an end
  abbrev Tested : Type 0
  Tested = ((start ≡ 0) × (size ≡ 0)) ⊎ ((needed ≤ length cs) × End (f (end_of cs)))

  to_chain : Tested → HasChain
  to_chain (inl q) = ([], none_of_it q.1 q.0 refl)
  to_chain (inr q) =
      let met = met_chain (last_cluster k) f nothing_at_0 (last_cluster k - 1) start q.1 in
      (cs, enough met.0 q.0 (chain_clusters (last_cluster k) f start cs met.0 met.1))

  abbrev holder : Holder
  holder = file_holder (cluster_bytes k) start size

  owns : (ds : List ℕ) → ChainOf k img slot ds → Owns (last_cluster k) f holder ds
  owns ds c = file_owns (last_cluster k) (cluster_bytes k) G.wide f start size ds c

  chain_found : (ds : List ℕ) → ChainOf k img slot ds → cs ≡ ds
  chain_found ds c = chain_is (512 * first_data k) (cluster_bytes k) (last_cluster k) img start (clusters_inside img k e) ds (owns ds c).chain

  from_chain : HasChain → Tested
  unfolding end_of
  from_chain (ds, none_of_it a b c) = inl (b, a)
  from_chain (ds, enough n m c) = rw (chain_found ds (enough n m c)) (inr (m, c.ending (length ds - 1) (omega arith)))

  pub says_chain : Says (good_chain k img slot) HasChain
  unfolding good_chain
  says_chain = says_map to_chain from_chain
      (says_or (says_and (says_eq start 0) (says_eq size 0)) (says_and (says_le needed (length cs)) (says_end (f (end_of cs)))))

  -- the test fails exactly where finding 5 holds of the file's slot
  pub bad_chain_is : IsFile k img slot → (good_chain k img slot ≡ false) ↔ BadChain k img slot
  bad_chain_is i = (λ f. (i, λ cs c. says_false says_chain f (cs, c)), λ b. false_says says_chain (λ r. b.1 r.0 r.1))

  -- ---- the code

  module _ (a s z : ℕ) (ae : a ≡ slot_at k slot) (se : s ≡ start_of img a) (ze : z ≡ size_of img a) where
    started : s ≡ start
    started = se ∙ ap (start_of img) ae

    sized : z ≡ size
    sized = ze ∙ ap (size_of img) ae

    -- without a start there is no cluster
    pub none_good : s ≡ 0 → eqb z 0 ≡ good_chain k img slot
    unfolding good_chain
    none_good h =
        let q : start ≡ 0 = sym started ∙ h in
        let none : endb (f (end_of cs)) ≡ false = false_says (says_end (f (end_of cs))) (λ t. omega (arith, met_start (last_cluster k) f nothing_at_0 (last_cluster k - 1) start t)) in
        ap (λ (x : ℕ). eqb x 0) sized ∙ rw (eq-eqb start 0 q, none) (sym (no_other (eqb size 0) (leb needed (length cs))))

    module _ (some : s ≢ 0) (own : Extent) (eo : own ≡ extent_of (file_chain k img a)) (n : ℕ) (ne : n ≡ clusters_for (cluster_bytes k) z) where
      there : eqb start 0 ≡ false
      there = ne_eqb start 0 (λ t. some (started ∙ t))

      own_is : own ≡ extent_of cs
      own_is = eo ∙ ap (λ (x : ℕ). extent_of (file_chain k img x)) ae

      many : own.clusters ≡ length cs
      many = ap (λ (x : Extent). x.clusters) own_is

      asked : n ≡ needed
      asked = ne ∙ ap (clusters_for (cluster_bytes k)) sized

      pub too_short : own.clusters < n → leb n own.clusters ≡ good_chain k img slot
      unfolding good_chain
      too_short h = rw (there, lt-leb n own.clusters h, lt-leb needed (length cs) (omega (arith, many, asked)))

      pub ends_good : n ≤ own.clusters → (last v : ℕ) → last ≡ last_cluster k → v ≡ table_of last img own.end → (b : Bool) → b ≡ endb v → b ≡ good_chain k img slot
      unfolding good_chain
      ends_good h last v le ve b x =
          let y : v ≡ f (end_of cs) = ve ∙ ap (λ (i : ℕ). table_of i img own.end) le ∙ ap f (ap (λ (x : Extent). x.end) own_is) in
          x ∙ rw (there, le-leb needed (length cs) (omega (arith, many, asked)), y)

  -- ---- a chain that passes

  module _ (good : good_chain k img slot ≡ true) where
    pub holds_file_lem : size ≤ length (file_chain k img (slot_at k slot)) * cluster_bytes k
    holds_file_lem =
        let h = says_true says_chain good in
        rw (chain_found h.0 h.1) (file_fits G f holder h.0 start size refl (owns h.0 h.1))

    module _ (n : ℕ) (short : n ≤ size) (a s cb last : ℕ) (ae : a ≡ slot_at k slot) (se : s ≡ start_of img a)
        (ce : cb ≡ cluster_bytes k) (le : last ≡ last_cluster k) where
      pub copy_room : 0 + n ≤ length (chain_from last img s) * cb
      copy_room = rw (se, ae, ce, le) (omega (arith, holds_file_lem))

      pub copied_is : (first : ℕ) → first ≡ first_data k → (out m : List ℕ) → m ≡ stored out 0 (fetched (512 * first) cb last img s 0 n)
          → m ≡ stored out 0 (take n (file_bytes k img (slot_at k slot)))
      unfolding file_bytes
      copied_is first fe out m q =
          let p = fetched_content (512 * first_data k) (cluster_bytes k) (last_cluster k) img start (clusters_inside img k e) 0 n size
          (omega arith) holds_file_lem in
          rw (q, fe, ce, le, se, ae, p)

    -- ---- what it means: the bytes put are the file's, by the clusters that are its chain, and as many as its size says

    pub held_long : length (file_bytes k img (slot_at k slot)) ≡ size
    unfolding file_bytes
    held_long = content_length (512 * first_data k) (cluster_bytes k) G.wide img (file_chain k img (slot_at k slot)) size
        (chain_room (512 * first_data k) (cluster_bytes k) (last_cluster k) img start (clusters_inside img k e)) holds_file_lem

  pub held_by_lem : (cs : List ℕ) → ChainOf k img slot cs → file_bytes k img (slot_at k slot) ≡ content (512 * first_data k) (cluster_bytes k) img cs size
  unfolding file_bytes
  held_by_lem cs c = ap (λ (ds : List ℕ). content (512 * first_data k) (cluster_bytes k) img ds size) (chain_found cs c)
