-- Sound exactly where none of the findings holds; the lists of a sound volume are the chains of its root, and no others.
use Rattle.std.specs.Prelude.{ℕ, ◌<◌, Bool, List, ◌↔◌, ◌≡◌}
use Rattle.std.proofs.Math.Bool.{true, false, cond}
use Rattle.std.proofs.Math.Path.{refl, ap}
use Rattle.std.proofs.Common.{subst}
use Rattle.std.proofs.Math.ListN.{length}
use Rattle.chains.specs.Aids.Holders.{file_holder, FitTogether}
use Rattle.chains.specs.Lists.{◌∈◌}
use Rattle.sound.proofs.Laws.Clusters.{file_owns}
use Rattle.chains.proofs.Laws.Holders.{owns_same}
use Rattle.chains.proofs.Laws.Sums.{sum_cong}
use Rattle.diskette.specs.Aids.Usable.{Usable}
use Rattle.diskette.specs.Places.{cluster_bytes, last_cluster, root_entries, slot_at}
use Rattle.diskette.specs.declared.Kind.{Kind}
use Rattle.fields.specs.Fields.{start_of, size_of}
use Rattle.directory.specs.Slots.{standing_of, is_plain}
use Rattle.directory.proofs.Laws.Slots.{plain_is}
use Rattle.sound.specs.Counts.{is_file, held_by, held_of}
use Rattle.sound.specs.Files.{value_of, ChainOf, IsFile, AreChains}
use Rattle.sound.specs.Findings.{InChain}
use Rattle.sound.specs.Aids.Holders.{root_holders, root_chains}
use Rattle.sound.specs.Sound.{SoundBy, Sound, NoFinding}
use Rattle.sound.proofs.Laws.Geometry.{geometry}
use Rattle.sound.proofs.Laws.Theory.{no_finding_theory, theory_sound}

module _ (k : Kind) (u : Usable k) (l : List ℕ) where
  -- a file has one chain only
  pub chain_only : (s : ℕ) (cs ds : List ℕ) → ChainOf k l s cs → ChainOf k l s ds → cs ≡ ds
  chain_only s cs ds x y =
      let G = geometry k u in
      let f = value_of k l in
      let a = slot_at k s in
      owns_same G f (file_holder (cluster_bytes k) (start_of l a) (size_of l a)) cs ds (file_owns (last_cluster k) (cluster_bytes k) G.wide f (start_of l a) (size_of l a) cs x)
      (file_owns (last_cluster k) (cluster_bytes k) G.wide f (start_of l a) (size_of l a) ds y)

  -- and so held is one number, by any lists that are the files' chains
  pub held_same : (xs ys : ℕ → List ℕ) → AreChains k l xs → AreChains k l ys → held_of k l xs ≡ held_of k l ys
  unfolding held_by is_file
  held_same xs ys p q = sum_cong (root_entries k) _ _ (λ s h. by s h (is_plain (standing_of l (slot_at k s))) refl)
    where
      by : (s : ℕ) → s < root_entries k → (b : Bool) → is_plain (standing_of l (slot_at k s)) ≡ b → cond b (length (xs s)) 0 ≡ cond b (length (ys s)) 0
      by s h true e =
          let i : IsFile k l s = record { below = h; plain = (plain_is l (slot_at k s)).0 e } in
          ap length (chain_only s (xs s) (ys s) (p s i) (q s i))
      by s h false e = refl

  module _ (lists : ℕ → List ℕ) (v : SoundBy k l lists) where
    in_list : (s c : ℕ) → InChain k l s c → c ∈ lists s
    in_list s c r = subst (λ (cs : List ℕ). c ∈ cs) (chain_only s r.1.0 (lists s) r.1.1 (v.chains s r.0)) r.1.2

    pub sound_no_finding : NoFinding k l
    sound_no_finding = record {
      tables = v.tables;
      values = v.values;
      slots = v.slots;
      chains = λ s b. b.1 (lists s) (v.chains s b.0);
      two = λ c b. b.2 (v.apart b.0 b.1 c b.3.0 b.4.0 (in_list b.0 c b.3) (in_list b.1 c b.4));
      lost = λ c b. let o = v.covered c b.0 b.1 in b.2 o.0 (o.1, (lists o.0, v.chains o.0 o.1, o.2));
    }

    -- what the proofs of the calls start from
    pub sound_theory : FitTogether (last_cluster k) (value_of k l) (root_holders k l) (root_chains k l)
    sound_theory = no_finding_theory k u l sound_no_finding

  -- Sound means that none of the seven holds (finding 1 is about the kind)
  pub sound_exactly : Sound k l ↔ NoFinding k l
  sound_exactly = (
    λ v. sound_no_finding v.0 v.1,
    λ n. (λ s. root_chains k l (slot_at k s), theory_sound k u l (root_chains k l) (no_finding_theory k u l n) n.tables n.slots),
  )
