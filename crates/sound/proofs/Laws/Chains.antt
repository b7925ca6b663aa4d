-- Findings 5 to 7 as document 01 has them, by slot, and as the theory of chains has them, by the holders at the slots'
-- addresses: they hold at the same places.
use Rattle.std.specs.Prelude.{ℕ, ◌<◌, List, [], ◌↔◌, ◌≡◌}
use Rattle.std.proofs.Common.{arith, sym, ap, ◌∙◌, subst}
use Rattle.chains.specs.Aids.Holders.{Holder, Owns, nobody, file_holder}
use Rattle.chains.specs.Lists.{◌∈◌}
use Rattle.sound.proofs.Laws.Clusters.{owns_file, file_owns}
use Rattle.chains.proofs.Laws.Holders.{nobody_owns, owns_nobody}
use Rattle.chains.proofs.Laws.Rows.{rows_in, in_rows}
use Rattle.chains.proofs.Laws.Tests.{by_test, clash}
use Rattle.diskette.specs.Aids.Usable.{Usable}
use Rattle.diskette.specs.Places.{cluster_bytes, last_cluster, root_entries, slot_at}
use Rattle.diskette.specs.declared.Kind.{Kind}
use Rattle.fields.specs.Fields.{start_of, size_of}
use Rattle.directory.specs.Slots.{PlainAt, standing_of, is_plain}
use Rattle.directory.proofs.Laws.Slots.{plain_is}
use Rattle.chaincheck.specs.Aids.Entries.{holder_at}
use Rattle.sound.specs.Files.{value_of, IsFile, ChainOf}
use Rattle.sound.specs.Findings.{BadChain, InChain, InTwoChains, Lost}
use Rattle.sound.specs.Aids.Holders.{root_list, root_rows}
use Rattle.sound.proofs.Laws.Geometry.{geometry}
use Rattle.sound.proofs.Laws.Holders.{plain_holder, no_holder, listed_slot, slot_listed, slot_same}
use Rattle.chains.specs.Aids.Findings as Theory

dec_plain : (l : List ℕ) (a : ℕ) → Dec (PlainAt l a)
dec_plain l a = by_test (is_plain (standing_of l a)) (λ e. yes ((plain_is l a).0 e)) (λ e. no (λ p. clash ((plain_is l a).1 p) e))

-- h may be any family that has the holders of the root's slots
module _ (k : Kind) (u : Usable k) (l : List ℕ) (h : ℕ → Holder) (at : (s : ℕ) → s < root_entries k → h (slot_at k s) ≡ holder_at (cluster_bytes k) l (slot_at k s)) where
  abbrev last : ℕ
  last = last_cluster k

  abbrev f : ℕ → ℕ
  f = value_of k l

  -- ---- one slot

  file_holder_lem : (s : ℕ) → IsFile k l s → h (slot_at k s) ≡ file_holder (cluster_bytes k) (start_of l (slot_at k s)) (size_of l (slot_at k s))
  file_holder_lem s i = at s i.below ∙ plain_holder (cluster_bytes k) l (slot_at k s) i.plain

  -- the holder at a file's slot owns the file's chain
  pub file_owns_chain : (s : ℕ) (cs : List ℕ) → IsFile k l s → Owns last f (h (slot_at k s)) cs ↔ ChainOf k l s cs
  file_owns_chain s cs i = (
    λ o. owns_file last (cluster_bytes k) (geometry k u).wide f _ _ cs (subst (λ (x : Holder). Owns last f x cs) (file_holder_lem s i) o),
    λ c. subst (λ (x : Holder). Owns last f x cs) (sym (file_holder_lem s i)) (file_owns last (cluster_bytes k) (geometry k u).wide f _ _ cs c),
  )

  slot_nobody : (s : ℕ) → s < root_entries k → ¬ PlainAt l (slot_at k s) → h (slot_at k s) ≡ nobody
  slot_nobody s i n = at s i ∙ no_holder (cluster_bytes k) l (slot_at k s) n

  -- ---- finding 5

  pub bad_chain_as : (s : ℕ) → BadChain k l s ↔ Theory.BadChain last f h (root_rows k) s
  bad_chain_as s = (to, from)
    where
      to : BadChain k l s → Theory.BadChain last f h (root_rows k) s
      to b = (slot_at k s, in_rows (slot_at k) 0 (root_entries k) s (omega arith) (omega (arith, b.0.below)), λ cs o. b.1 cs ((file_owns_chain s cs b.0).0 o))

      from : Theory.BadChain last f h (root_rows k) s → BadChain k l s
      from b =
          let r = rows_in (slot_at k) 0 (root_entries k) s b.0 b.1 in
          let i : s < root_entries k = omega (arith, r.1) in
          let none : (cs : List ℕ) → ¬ Owns last f (h (slot_at k s)) cs = subst (λ (a : ℕ). (cs : List ℕ) → ¬ Owns last f (h a) cs) r.2 b.2 in
          elim (dec_plain l (slot_at k s)) [
            | yes p ↦ let j : IsFile k l s = record { below = i; plain = p } in (j, λ cs c. none cs ((file_owns_chain s cs j).1 c))
            | no n ↦ absurd (none [] (subst (λ (x : Holder). Owns last f x []) (sym (slot_nobody s i n)) (nobody_owns (geometry k u) f)))
          ]

  -- ---- a cluster of a chain

  pub in_chain_to : (s c : ℕ) → InChain k l s c → Theory.InChain last f h (slot_at k s) c
  in_chain_to s c r = (r.1.0, (file_owns_chain s r.1.0 r.0).1 r.1.1, r.1.2)

  pub in_chain_from : (s c : ℕ) → s < root_entries k → Theory.InChain last f h (slot_at k s) c → InChain k l s c
  in_chain_from s c i r = elim (dec_plain l (slot_at k s)) [
    | yes p ↦ let j : IsFile k l s = record { below = i; plain = p } in (j, (r.0, (file_owns_chain s r.0 j).0 r.1, r.2))
    | no n ↦ absurd (subst (λ (cs : List ℕ). c ∈ cs) (owns_nobody (geometry k u) f (h (slot_at k s)) r.0 (slot_nobody s i n) r.1) r.2)
  ]

  pub listed_from : (a c : ℕ) → a ∈ root_list k → Theory.InChain last f h a c → (s : ℕ) × (a ≡ slot_at k s) × InChain k l s c
  listed_from a c m r =
      let p = listed_slot k a m in
      (p.0, p.2, in_chain_from p.0 c p.1 (subst (λ (x : ℕ). Theory.InChain last f h x c) p.2 r))

  -- ---- finding 6

  pub in_two_as : (c : ℕ) → InTwoChains k l c ↔ Theory.InTwo last f h (root_list k) c
  in_two_as c = (
    λ b. (
      slot_at k b.0,
      slot_at k b.1,
      λ e. b.2 (slot_same k b.0 b.1 e),
      slot_listed k b.0 b.3.0.below,
      slot_listed k b.1 b.4.0.below,
      in_chain_to b.0 c b.3,
      in_chain_to b.1 c b.4,
    ),
    λ b.
        let x = listed_from b.0 c b.3 b.5 in
        let y = listed_from b.1 c b.4 b.6 in
        (x.0, y.0, λ e. b.2 (x.1 ∙ ap (slot_at k) e ∙ sym y.1), x.2, y.2),
  )

  -- ---- finding 7

  pub lost_as : (c : ℕ) → Lost k l c ↔ Theory.Lost last f h (root_list k) c
  lost_as c = (
    λ b. (b.0, b.1, λ a m r. let x = listed_from a c m r in b.2 x.0 x.2),
    λ b. (b.0, b.1, λ s r. b.2 (slot_at k s) (slot_listed k s r.0.below) (in_chain_to s c r)),
  )
