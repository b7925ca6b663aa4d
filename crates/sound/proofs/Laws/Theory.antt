-- None of the findings is sound in the sense of the theory of chains, with the holders of the root; and that is what
-- Sound asks for, the tables and the slots being as they must.
use Rattle.std.specs.Prelude.{ℕ, List, ◌≡◌}
use Rattle.std.proofs.Common.{subst}
use Rattle.std.proofs.Math.Dec.{ltb}
use Rattle.chains.specs.Aids.Holders.{NamesAll, FitTogether}
use Rattle.chains.specs.Lists.{◌∈◌}
use Rattle.search.specs.Search.{Nowhere}
use Rattle.chains.proofs.Laws.Findings.{none_sound}
use Rattle.chains.proofs.Laws.Holders.{sound_names}
use Rattle.diskette.specs.Aids.Usable.{Usable}
use Rattle.diskette.specs.Places.{last_cluster, slot_at}
use Rattle.diskette.specs.declared.Kind.{Kind}
use Rattle.sound.specs.Files.{value_of, IsFile}
use Rattle.sound.specs.Findings.{TablesDiffer, BadSlot, BadChain, InTwoChains, Lost}
use Rattle.sound.specs.Aids.Holders.{root_list, root_rows, root_holders, root_chains}
use Rattle.sound.specs.Aids.Judged.{voice}
use Rattle.sound.specs.Sound.{SoundBy, NoFinding}
use Rattle.sound.proofs.Laws.Chains.{bad_chain_as, in_two_as, lost_as, file_owns_chain, listed_from}
use Rattle.sound.proofs.Laws.Geometry.{geometry}
use Rattle.sound.proofs.Laws.Holders.{root_holder, root_nobody, slot_same, slots_once}
use Rattle.sound.proofs.Laws.SamePlaces.{none_as}

module _ (k : Kind) (u : Usable k) (l : List ℕ) where
  -- ---- to the theory

  pub no_finding_theory : NoFinding k l → FitTogether (last_cluster k) (value_of k l) (root_holders k l) (root_chains k l)
  unfolding root_chains
  no_finding_theory n =
      let h = root_holders k l in
      let at = root_holder k l in
      none_sound ltb (geometry k u) (value_of k l) h (root_rows k) (voice k l) (root_nobody k l) n.values
      (none_as (BadChain k l) _ (bad_chain_as k u l h at) n.chains)
      (none_as (InTwoChains k l) _ (in_two_as k u l h at) n.two)
      (none_as (Lost k l) _ (lost_as k u l h at) n.lost)

  -- ---- from the theory; χ is any family, as a change of one holder gives it

  module _ (χ : ℕ → List ℕ) (v : FitTogether (last_cluster k) (value_of k l) (root_holders k l) χ) where
    pub root_names : NamesAll χ (root_list k)
    root_names = sound_names (geometry k u) (value_of k l) (root_holders k l) χ v (root_list k) (root_nobody k l) (slots_once k)

    -- whoever has a cluster is a file
    pub owner_file : (a c : ℕ) → c ∈ χ a → (s : ℕ) × (a ≡ slot_at k s) × IsFile k l s
    owner_file a c m = let r = listed_from k u l (root_holders k l) (root_holder k l) a c (root_names.all a c m) (χ a, v.owns a, m) in (r.0, r.1, r.2.0)

    pub theory_sound : Nowhere (TablesDiffer k l) → Nowhere (BadSlot k l) → SoundBy k l (λ s. χ (slot_at k s))
    theory_sound n2 n4 = record {
      tables = n2;
      values = λ c b. b.1 (v.valid c b.0);
      slots = n4;
      chains = λ s i. (file_owns_chain k u l (root_holders k l) (root_holder k l) s (χ (slot_at k s)) i).0 (v.owns (slot_at k s));
      apart = λ s t c i j m n. slot_same k s t (v.apart (slot_at k s) (slot_at k t) c m n);
      covered = λ c i w.
          let o = v.cover c i w in
          let r = owner_file o.0 c o.1 in
          (r.0, r.2, subst (λ (x : ℕ). c ∈ χ x) r.1 o.1);
    }
