-- What check answers is settled by the system area: the data and what follows it have no part in it.
use Rattle.std.specs.Prelude.{ℕ, ◌+◌, ◌<◌, List, ◌⊎◌, ◌↔◌, ◌≡◌, get_or, Result}
use Rattle.std.proofs.Common.{arith, inl, inr, sym, ◌∙◌}
use Rattle.std.proofs.Math.Path.{ap}
use Rattle.chains.specs.Sums.{bit}
use Rattle.chains.proofs.Laws.Sums.{sum_cong, tally_sum}
use Rattle.diskette.specs.Aids.Usable.{Usable}
use Rattle.diskette.specs.Places.{last_cluster, root_entries, copy_one, copy_two, slot_at}
use Rattle.diskette.specs.declared.Kind.{Kind}
use Rattle.directory.specs.Aids.Entries.{SameFields}
use Rattle.directory.specs.Slots.{NeverUsedAt, LiveAt, LabelAt, PlainAt, is_plain}
use Rattle.directory.proofs.Laws.Entries.{same_fields}
use Rattle.table.proofs.Laws.View.{table_same}
use Rattle.sound.specs.Aids.Area.{SameArea}
use Rattle.sound.specs.Counts.{is_file, file_count, held_by, held_of}
use Rattle.sound.specs.Files.{value_of, IsFile, ChainOf}
use Rattle.sound.specs.Findings.{TablesDiffer, NoValue, BadSlot, AfterNeverUsed, StrangeEntry, SecondLabel, NameTwice, BadChain, InChain, InTwoChains, Lost}
use Rattle.sound.specs.Aids.FromFinding.{Counted}
use Rattle.sound.specs.declared.Counts.{Counts}
use Rattle.sound.specs.declared.Finding.{Finding}

pub area_back : (k : Kind) (m l : List ℕ) → SameArea k m l → SameArea k l m
area_back k m l e = record { left_long = e.right_long; right_long = e.left_long; bytes = λ j h. sym (e.bytes j h) }

-- ---- each finding of the one is a finding of the other

module _ (k : Kind) (u : Usable k) (m l : List ℕ) (e : SameArea k m l) where
  pub area_table : (c : ℕ) → value_of k m c ≡ value_of k l c
  area_table = table_same (last_cluster k) l m (λ j h i. e.bytes j (omega (arith, u.reaches)))

  pub area_fields : (s : ℕ) → s < root_entries k → SameFields m (slot_at k s) l (slot_at k s)
  area_fields s h = same_fields m l (slot_at k s) (slot_at k s) (omega (arith, e.left_long)) (omega (arith, e.right_long)) (λ i j. e.bytes (slot_at k s + i) (omega arith))

  first_byte : (s : ℕ) → s < root_entries k → get_or m (slot_at k s) 0 ≡ get_or l (slot_at k s) 0
  first_byte s h = e.bytes (slot_at k s) (omega arith)

  tables_to : (j : ℕ) → TablesDiffer k m j → TablesDiffer k l j
  tables_to j b =
      let one : get_or m (copy_one + j) 0 ≡ get_or l (copy_one + j) 0 = e.bytes (copy_one + j) (omega (arith, b.0)) in
      let two : get_or m (copy_two k + j) 0 ≡ get_or l (copy_two k + j) 0 = e.bytes (copy_two k + j) (omega (arith, b.0)) in
      (b.0, rw (one, two) at b.1)

  value_to : (c : ℕ) → NoValue k m c → NoValue k l c
  value_to c b = (b.0, rw (area_table c) at b.1)

  never_to : (s : ℕ) → s < root_entries k → NeverUsedAt m (slot_at k s) → NeverUsedAt l (slot_at k s)
  never_to s h p = sym (first_byte s h) ∙ p

  live_to : (s : ℕ) → s < root_entries k → LiveAt m (slot_at k s) → LiveAt l (slot_at k s)
  live_to s h p = rw (first_byte s h) at p

  label_to : (s : ℕ) → s < root_entries k → LabelAt m (slot_at k s) → LabelAt l (slot_at k s)
  label_to s h p = (live_to s h p.0, rw (area_fields s h).attr at p.1)

  plain_to : (s : ℕ) → s < root_entries k → PlainAt m (slot_at k s) → PlainAt l (slot_at k s)
  plain_to s h p = (live_to s h p.0, rw (area_fields s h).attr at p.1)

  slot_to : (s : ℕ) → BadSlot k m s → BadSlot k l s
  slot_to s (h, b) = (h, go b)
    where
      before : (t : ℕ) → t < s → t < root_entries k
      before t i = omega arith

      go : AfterNeverUsed k m s ⊎ (StrangeEntry k m s ⊎ (SecondLabel k m s ⊎ NameTwice k m s)) → AfterNeverUsed k l s ⊎ (StrangeEntry k l s ⊎ (SecondLabel k l s ⊎ NameTwice k l s))
      go (inl (n, (t, i, p))) = inl ((λ q. n (first_byte s h ∙ q)), (t, i, never_to t (before t i) p))
      go (inr (inl (v, p))) = inr (inl (live_to s h v, rw (first_byte s h, (area_fields s h).attr) at p))
      go (inr (inr (inl (v, (t, i, p))))) = inr (inr (inl (label_to s h v, (t, i, label_to t (before t i) p))))
      go (inr (inr (inr (v, (t, i, p, q))))) =
          inr (inr (inr (plain_to s h v, (t, i, plain_to t (before t i) p, sym (area_fields t (before t i)).name ∙ q ∙ (area_fields s h).name))))

  file_to : (s : ℕ) → IsFile k m s → IsFile k l s
  file_to s i = record { below = i.below; plain = plain_to s i.below i.plain }

  chain_to : (s : ℕ) → s < root_entries k → (cs : List ℕ) → ChainOf k m s cs → ChainOf k l s cs
  chain_to s h cs c =
      let f : value_of k m ≡ value_of k l = λ j x. area_table x j in
      rw (f, (area_fields s h).start, (area_fields s h).size) at c

  member_to : (s c : ℕ) → InChain k m s c → InChain k l s c
  member_to s c r = (file_to s r.0, (r.1.0, chain_to s r.0.below r.1.0 r.1.1, r.1.2))

-- findings that deny a chain go by the other direction
module _ (k : Kind) (u : Usable k) (m l : List ℕ) (e : SameArea k m l) where
  bad_chain_to : (s : ℕ) → BadChain k m s → BadChain k l s
  bad_chain_to s b = (file_to k u m l e s b.0, λ cs c. b.1 cs (chain_to k u l m (area_back k m l e) s b.0.below cs c))

  two_to : (c : ℕ) → InTwoChains k m c → InTwoChains k l c
  two_to c b = (b.0, b.1, b.2, member_to k u m l e b.0 c b.3, member_to k u m l e b.1 c b.4)

  lost_to : (c : ℕ) → Lost k m c → Lost k l c
  lost_to c b = (b.0, rw (area_table k u m l e c) at b.1, λ s r. b.2 s (member_to k u l m (area_back k m l e) s c r))

module _ (k : Kind) (u : Usable k) (m l : List ℕ) (e : SameArea k m l) where
  abbrev back : SameArea k l m
  back = area_back k m l e

  pub tables_alike : (j : ℕ) → TablesDiffer k m j ↔ TablesDiffer k l j
  tables_alike j = (tables_to k u m l e j, tables_to k u l m back j)

  pub values_alike : (c : ℕ) → NoValue k m c ↔ NoValue k l c
  values_alike c = (value_to k u m l e c, value_to k u l m back c)

  pub slots_alike : (s : ℕ) → BadSlot k m s ↔ BadSlot k l s
  slots_alike s = (slot_to k u m l e s, slot_to k u l m back s)

  pub chains_alike : (s : ℕ) → BadChain k m s ↔ BadChain k l s
  chains_alike s = (bad_chain_to k u m l e s, bad_chain_to k u l m back s)

  pub two_alike : (c : ℕ) → InTwoChains k m c ↔ InTwoChains k l c
  two_alike c = (two_to k u m l e c, two_to k u l m back c)

  pub lost_alike : (c : ℕ) → Lost k m c ↔ Lost k l c
  lost_alike c = (lost_to k u m l e c, lost_to k u l m back c)

-- ---- the counts are the same

module _ (k : Kind) (u : Usable k) (m l : List ℕ) (e : SameArea k m l) where
  same_table : value_of k m ≡ value_of k l
  same_table j c = area_table k u m l e c j

  plain_as : (s : ℕ) → s < root_entries k → is_file k m s ≡ is_file k l s
  unfolding is_file
  plain_as s h = ap is_plain (area_fields k u m l e s h).standing

  held_as : (lists : ℕ → List ℕ) (s : ℕ) → s < root_entries k → held_by k m lists s ≡ held_by k l lists s
  unfolding held_by
  held_as lists s h = rw (plain_as s h)

  pub counted_as : (v : Result Counts Finding) → Counted k m v → Counted k l v
  counted_as v q =
      let files : file_count k m ≡ file_count k l = tally_as in
      let held : held_of k m q.0 ≡ held_of k l q.0 = sum_cong (root_entries k) _ _ (held_as q.0) in (
        q.0,
        λ s i. chain_to k u m l e s i.below (q.0 s) (q.1 s (file_to k u l m (area_back k m l e) s i)),
        rw (files, same_table, held) at q.2,
      )
    where
      tally_as : file_count k m ≡ file_count k l
      tally_as = tally_sum (is_file k m) (root_entries k) 0 ∙ sum_cong (root_entries k) _ _ (λ i h. ap bit (moved i h)) ∙ sym (tally_sum (is_file k l) (root_entries k) 0)
        where
          moved : (i : ℕ) → i < root_entries k → is_file k m (i + 0) ≡ is_file k l (i + 0)
          moved i h = plain_as (i + 0) (omega arith)
