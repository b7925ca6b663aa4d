-- A file that is the same in two images: after a change of another slot, through a torn save, and what it then holds.
use Rattle.std.specs.Prelude.{ℕ, ◌+◌, ◌*◌, ◌≤◌, List, ◌≢◌, ◌≡◌, refl, length, get_or}
use Rattle.std.proofs.Common.{arith, sym, ap, ◌∙◌, subst}
use Rattle.image.specs.Bytes.{Bytes}
use Rattle.chains.specs.Content.{cluster_begin, content}
use Rattle.chains.specs.Aids.Holders.{Holder, file_holder, Owns}
use Rattle.chains.specs.Lists.{◌∈◌}
use Rattle.chains.specs.Aids.Sizes.{Geometry}
use Rattle.chains.specs.Values.{Link}
use Rattle.chains.proofs.Laws.Chain.{chain_frame, chain_mem}
use Rattle.sound.proofs.Laws.Clusters.{owns_file, file_owns}
use Rattle.chains.proofs.Laws.Content.{cluster_high}
use Rattle.chains.proofs.Laws.Holders.{file_fits}
use Rattle.chains.proofs.Laws.Replace.{foreign, same_table}
use Rattle.chains.proofs.Laws.Touched.{content_same}
use Rattle.diskette.specs.Places.{first_data, cluster_bytes, last_cluster, slot_at}
use Rattle.diskette.specs.declared.Kind.{Kind}
use Rattle.directory.specs.Aids.Entries.{SameFields}
use Rattle.directory.proofs.Laws.Entries.{same_fields}
use Rattle.fields.specs.Fields.{start_of, size_of}
use Rattle.sound.specs.Files.{value_of, IsFile, ChainOf}
use Rattle.sound.specs.Aids.Holders.{root_holders, root_chains}
use Rattle.sound.proofs.Laws.Chains.{file_owns_chain}
use Rattle.sound.proofs.Laws.Geometry.{geometry}
use Rattle.sound.proofs.Laws.Holders.{root_holder}
use Rattle.sound.proofs.Laws.Sound.{chain_only}
use Rattle.calls.specs.Aids.Ready.{OnVolume}
use Rattle.calls.proofs.Laws.Ready.{on_usable, on_area}
use Rattle.holding.proofs.Laws.Clusters.{on_clusters}
use Rattle.changes.specs.Aids.Changed.{SlotChanged}
use Rattle.changes.specs.Files.{File, Holds}
use Rattle.changes.proofs.Laws.Changed.{on_theory}
use Rattle.reset.specs.Torn.{Torn}
use Rattle.reset.specs.Aids.Same.{SameIn}
use Rattle.reset.proofs.Laws.Bytes.{byte_kept, value_kept}

module _ (k : Kind) (s : ℕ) (cs : List ℕ) where
  pub same_self : (l : List ℕ) → SameIn k s cs l l
  same_self l = record { long = refl; entry = λ i h. refl; values = λ c m. refl; bytes = λ c q m h. refl }

  pub same_then : (l m n : List ℕ) → SameIn k s cs l m → SameIn k s cs m n → SameIn k s cs l n
  same_then l m n x y = record {
    long = y.long ∙ x.long;
    entry = λ i h. y.entry i h ∙ x.entry i h;
    values = λ c i. y.values c i ∙ x.values c i;
    bytes = λ c q i h. y.bytes c q i h ∙ x.bytes c q i h;
  }

  -- a torn save keeps what the image that was being saved has the same
  pub same_torn : (old new m : List ℕ) → Bytes old → Bytes new → Torn old new m → SameIn k s cs old new → SameIn k s cs old m
  same_torn old new m bo bn t x = record {
    long = t.long;
    entry = λ i h. byte_kept old new m t (slot_at k s + i) (x.entry i h);
    values = λ c i. value_kept old new m t bo bn (last_cluster k) c (x.values c i);
    bytes = λ c q i h. byte_kept old new m t q (x.bytes c q i h);
  }

module _ (k : Kind) (l : List ℕ) (v : OnVolume l k) (s : ℕ) (i : IsFile k l s) (cs : List ℕ) (own : ChainOf k l s cs) where
  abbrev G : Geometry
  G = geometry k (on_usable l k v)

  abbrev holder : Holder
  holder = file_holder (cluster_bytes k) (start_of l (slot_at k s)) (size_of l (slot_at k s))

  owns : Owns (last_cluster k) (value_of k l) holder cs
  owns = file_owns (last_cluster k) (cluster_bytes k) G.wide (value_of k l) _ _ cs own

  link : (c : ℕ) → c ∈ cs → Link (last_cluster k) c
  link c m = (chain_mem G (value_of k l) holder.start cs owns.chain c m).0

  -- ---- after a change of another slot

  mine : (c : ℕ) → c ∈ cs → c ∈ root_chains k l (slot_at k s)
  mine c h =
      let ds = root_chains k l (slot_at k s) in
      let o = (file_owns_chain k (on_usable l k v) l (root_holders k l) (root_holder k l) s ds i).0 ((on_theory k l v).owns (slot_at k s)) in
      subst (λ (xs : List ℕ). c ∈ xs) (chain_only k (on_usable l k v) l s cs ds own o) h

  pub same_changed : (m : List ℕ) (r : ℕ) (ds : List ℕ) → SlotChanged k l m r ds → s ≢ r → SameIn k s cs l m
  same_changed m r ds x n =
      let apart : slot_at k s ≢ slot_at k r = λ e. n (omega arith) in
      let H = root_holders k l in
      let χ = root_chains k l in
      record {
        long = x.frame.long;
        entry = x.frame.others s i.below n;
        values = λ c h. same_table G (value_of k l) (value_of k m) H χ (on_theory k l v) (slot_at k r) _ ds x.chain (slot_at k s) c apart (mine c h);
        bytes = λ c q h. x.clusters.rest c q (link c h)
            (foreign G (value_of k l) (value_of k m) H χ (on_theory k l v) (slot_at k r) _ ds x.chain (slot_at k s) c apart (mine c h));
      }

  -- ---- what it holds

  module _ (m : List ℕ) (x : SameIn k s cs l m) where
    within : slot_at k s + 32 ≤ length l
    within = omega (arith, on_area l k v, i.below)

    fields : SameFields m (slot_at k s) l (slot_at k s)
    fields = same_fields m l (slot_at k s) (slot_at k s) (rw x.long within) within x.entry

    first : get_or m (slot_at k s) 0 ≡ get_or l (slot_at k s) 0
    first = let z : slot_at k s + 0 ≡ slot_at k s = omega arith in rw z at (x.entry 0 (omega arith))

    pub same_file : IsFile k m s
    same_file = record {
      below = i.below;
      plain = ((λ e. i.plain.0.0 (sym first ∙ e), λ e. i.plain.0.1 (sym first ∙ e)), rw fields.attr i.plain.1);
    }

    pub same_chain : ChainOf k m s cs
    same_chain = rw (fields.start, fields.size)
        (owns_file (last_cluster k) (cluster_bytes k) G.wide (value_of k m) _ _ cs
        (record { chain = chain_frame G (value_of k l) (value_of k m) holder.start cs x.values owns.chain; long = owns.long }))

    whole : (d : ℕ) → Link (last_cluster k) d → cluster_begin (512 * first_data k) (cluster_bytes k) d + cluster_bytes k ≤ length l
    whole d h = omega (arith, (on_clusters l k v).clusters, cluster_high (512 * first_data k) (cluster_bytes k) G.wide G d h)

    -- their first bytes, as many as the size says
    same_content : content (512 * first_data k) (cluster_bytes k) m cs (size_of m (slot_at k s))
        ≡ content (512 * first_data k) (cluster_bytes k) l cs (size_of l (slot_at k s))
    same_content =
        let size = size_of l (slot_at k s) in
        ap (content (512 * first_data k) (cluster_bytes k) m cs) fields.size
        ∙ content_same (512 * first_data k) (cluster_bytes k) G.wide l m cs size (λ c j. ((link c j).0, whole c (link c j))) x.long
        (λ c q j z. x.bytes c q j z) (file_fits G (value_of k l) holder cs holder.start size refl owns)

    pub same_holds : (f : File) → Holds k l s f → Holds k m s f
    same_holds f h = record {
      is_file = same_file;
      name = fields.name ∙ h.name;
      attr = fields.attr ∙ h.attr;
      bytes =
          let e = chain_only k (on_usable l k v) l s cs h.bytes.0 own h.bytes.1 in (
            cs,
            same_chain,
            same_content ∙ ap (λ (ys : List ℕ). content (512 * first_data k) (cluster_bytes k) l ys (size_of l (slot_at k s))) e ∙ h.bytes.2,
          );
    }
