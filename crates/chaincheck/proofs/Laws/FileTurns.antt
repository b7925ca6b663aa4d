-- The loop over the slots of a directory, turn by turn.
use Rattle.std.specs.Prelude.{ℕ, suc, ◌+◌, ◌-◌, ◌≤◌, ◌<◌, Bool, true, false, not, ◌≡◌, Option, Some, None, Result, Ok, Err}
use Rattle.std.proofs.Common.{arith, subst, ◌∙◌, Fits}
use mathlib.Core.List.{List, []}
use Rattle.std.proofs.Math.Path.{refl, sym, ap}
use Rattle.std.proofs.Math.ListN.{length}
use Rattle.std.specs.Int.{w64}
use Rattle.chains.specs.Aids.Check.{chain_of, ownsb}
use Rattle.chains.specs.Aids.Holders.{nobody}
use Rattle.chains.specs.Aids.Marks.{marks}
use Rattle.chains.specs.Aids.Sizes.{Geometry}
use Rattle.chains.specs.Sums.{sum, tally}
use Rattle.chains.proofs.Laws.Check.{says_owned}
use Rattle.chains.proofs.Laws.Chain.{chain_length}
use Rattle.chains.proofs.Laws.Holders.{nobody_owns}
use Rattle.chains.proofs.Laws.Marks.{marks_length}
use Rattle.chains.proofs.Laws.RowTurns.{marks_turn, marks_end}
use Rattle.chains.proofs.Laws.TallyTurns.{tally_hit, tally_miss, tally_end}
use Rattle.chains.proofs.Laws.Tests.{says_true, true_says}
use Rattle.search.specs.Search.{lowest}
use Rattle.search.proofs.Laws.Turns.{lowest_all, lowest_hit, lowest_miss, lowest_done}
use Rattle.table.specs.Entries.{table_of}
use Rattle.fields.specs.Fields.{start_of, size_of}
use Rattle.directory.specs.Slots.{standing_of, is_plain}
use Rattle.walks.specs.Aids.Walks.{Tails}
use Rattle.chaincheck.specs.Aids.Held.{plain_slot, chain_at, held_slot}
use Rattle.chaincheck.specs.Aids.Entries.{holder_at, bad_chain_slot, chains_of}
use Rattle.chaincheck.specs.Aids.Visits.{chains_found, slot_by, slot_found, SlotMarked, MarkedUnlessBad, SlotVisited, Underway, FilesVisited}
use Rattle.chaincheck.proofs.Laws.SlotTurns.{holder_none, chain_of_lem}
use Rattle.chaincheck.specs.declared.BadChain.{BadChain}

-- ---- what an answer for a slot says of it

abbrev is_file : Result (Option ℕ) BadChain → Bool
is_file (Ok None) = false
is_file (Err e) = true
is_file (Ok (Some n)) = true

abbrev is_bad : Result (Option ℕ) BadChain → Bool
is_bad (Ok None) = false
is_bad (Err e) = true
is_bad (Ok (Some n)) = false

abbrev holds : Result (Option ℕ) BadChain → ℕ
holds (Ok None) = 0
holds (Err e) = 0
holds (Ok (Some n)) = n

-- by the two tests that decide it: is there a plain file, does it own a chain that fits
file_by : (p o : Bool) (n : ℕ) → p ≡ is_file (slot_by p o n)
file_by false o n = refl
file_by true false n = refl
file_by true true n = refl

bad_by : (p o : Bool) (n : ℕ) → (p ≡ false → o ≡ true) → not o ≡ is_bad (slot_by p o n)
bad_by false o n h = ap not (h refl)
bad_by true false n h = refl
bad_by true true n h = refl

held_by_lem : (p o : Bool) (n : ℕ) → (p ≡ false → n ≡ 0) → is_bad (slot_by p o n) ≡ false → n ≡ holds (slot_by p o n)
held_by_lem false o n z h = z refl
held_by_lem true false n z h = absurd (let z : ◌≡◌ {A = ℕ} 0 1 = cc in omega arith)
held_by_lem true true n z h = refl

few_by : (p o : Bool) (n : ℕ) → (p ≡ true → o ≡ true → n ≤ 4096) → holds (slot_by p o n) ≤ 4096
few_by false o n h = omega arith
few_by true false n h = omega arith
few_by true true n h = h refl refl

module _ (last cb : ℕ) (l : List ℕ) (way : ℕ → ℕ) (s : ℕ) (low : last ≤ 4079) (wide : 0 < cb) (g : Result (Option ℕ) BadChain) (r : g ≡ slot_found last cb l (way s)) where
  abbrev G : Geometry
  G = record { last = last; cb = cb; small = low; wide = wide }

  abbrev f : ℕ → ℕ
  f = table_of last l

  abbrev a : ℕ
  a = way s

  abbrev p : Bool
  p = is_plain (standing_of l a)

  abbrev o : Bool
  o = ownsb last f (holder_at cb l a)

  abbrev n : ℕ
  n = length (chain_at last cb l a)

  slot_is : slot_by p o n ≡ g
  unfolding slot_found
  slot_is = sym r

  -- nobody's chain is good
  nobody_good : p ≡ false → o ≡ true
  nobody_good x = rw (holder_none cb (start_of l a) (size_of l a) (standing_of l a) x) (true_says (says_owned G f nobody) ([], nobody_owns G f))

  -- a good chain is no longer than the volume
  good_few : p ≡ true → o ≡ true → n ≤ 4096
  unfolding chain_at
  good_few x y =
      let w = says_true (says_owned G f (holder_at cb l a)) y in
      let e : chain_of last f (holder_at cb l a) ≡ w.0 = chain_of_lem G f (holder_at cb l a) w.0 w.1.chain in
      omega (arith, ap length e, chain_length G f (holder_at cb l a).start w.0 w.1.chain)

  -- nobody has none
  nobody_none : p ≡ false → n ≡ 0
  unfolding chain_at
  nobody_none x =
      let e : chain_of last f (holder_at cb l a) ≡ [] = rw (holder_none cb (start_of l a) (size_of l a) (standing_of l a) x) (chain_of_lem G f nobody [] refl) in
      ap length e

  plain_said : plain_slot l way s ≡ is_file g
  unfolding plain_slot
  plain_said = file_by p o n ∙ ap is_file slot_is

  bad_said : bad_chain_slot last cb l way s ≡ is_bad g
  unfolding bad_chain_slot
  bad_said = bad_by p o n nobody_good ∙ ap is_bad slot_is

  held_said : is_bad g ≡ false → held_slot last cb l way s ≡ holds g
  unfolding held_slot
  held_said h = held_by_lem p o n nobody_none (ap is_bad slot_is ∙ h) ∙ ap holds slot_is

  few_said : holds g ≤ 4096
  few_said = rw (sym slot_is) (few_by p o n good_few)

-- ---- the loop

pub files_begin : (last cb : ℕ) (l : List ℕ) (way : ℕ → ℕ) (count : ℕ) (m t : List ℕ) → Tails last (table_of last l) m t → Underway last cb l way count m 0 0 0 m t
unfolding sum chains_of chain_at
files_begin last cb l way count m t T =
    let z : count - 0 ≡ count = omega arith in
    record {
      within = omega arith;
      long = refl;
      few = omega arith;
      bounded = omega arith;
      none_bad = lowest_all (bad_chain_slot last cb l way) count;
      files_are = rw z (omega arith);
      held_is = refl;
      marks_are = rw z;
      tails = T;
    }

module _ (last cb : ℕ) (l : List ℕ) (way : ℕ → ℕ) (count : ℕ) (m₀ : List ℕ) (s files held : ℕ) (m t : List ℕ) (u : Underway last cb l way count m₀ s files held m t) where
  pub files_done : count ≤ s → FilesVisited last cb l way count m₀ (Ok (record { files = files; held = held })) m
  unfolding chains_found chains_of chain_at
  files_done h =
      let e : s ≡ count = omega (arith, u.within) in
      let x = lowest_done (bad_chain_slot last cb l way) s count (lowest (bad_chain_slot last cb l way) 0 count) u.none_bad h in
      let y = tally_end (plain_slot l way) count s files (tally (plain_slot l way) count 0) h u.files_are in
      let z : held ≡ sum count (held_slot last cb l way) = u.held_is ∙ ap (λ (k : ℕ). sum k (held_slot last cb l way)) e in
      record {
        is = rw (sym x, sym y, sym z);
        marks_are = marks_end (chain_at last cb l) way count s m (marks m₀ (chains_of last cb l way count)) h u.marks_are;
      }

  -- g is the answer for slot s, m' and t' are the buffers then
  module _ (g : Result (Option ℕ) BadChain) (m' t' : List ℕ) (low : last ≤ 4079) (wide : 0 < cb) (h : s < count) (v : SlotVisited last cb l (way s) m g m' t') where
    pub files_bad : (e : BadChain) → g ≡ Err e → FilesVisited last cb l way count m₀ (Err s) m'
    unfolding chains_found
    files_bad e t =
        let x = lowest_hit (bad_chain_slot last cb l way) s count (lowest (bad_chain_slot last cb l way) 0 count) u.none_bad h (is_bad g)
        (sym (bad_said last cb l way s low wide g v.is)) (ap is_bad t) in
        record { is = rw (sym x); marks_are = tt }

    pub held_fits : (n : ℕ) → count ≤ 65536 → g ≡ Ok (Some n) → Fits w64 (held + n)
    held_fits n k t = record { fits = omega (arith, u.bounded, ap holds t, few_said last cb l way s low wide g v.is) }

    next : (files' held' : ℕ) → is_bad g ≡ false → SlotMarked last cb l (way s) m m' t' → files' ≤ files + 1 → held' ≡ held + holds g
        → files' + tally (plain_slot l way) (count - (s + 1)) (s + 1) ≡ tally (plain_slot l way) count 0 → Underway last cb l way count m₀ (s + 1) files' held' m' t'
    next files' held' b x y z w = record {
      within = omega arith;
      long = ap length x.marks_are ∙ marks_length m (chain_at last cb l (way s)) ∙ u.long;
      few = omega (arith, u.few);
      bounded = omega (arith, z, u.bounded, few_said last cb l way s low wide g v.is);
      none_bad = lowest_miss (bad_chain_slot last cb l way) s count (lowest (bad_chain_slot last cb l way) 0 count) u.none_bad h (is_bad g)
          (sym (bad_said last cb l way s low wide g v.is)) b;
      files_are = w;
      held_is =
          let e : s + 1 ≡ suc s = omega arith in
          let q : sum (suc s) (held_slot last cb l way) ≡ sum s (held_slot last cb l way) + held_slot last cb l way s = unfold sum in refl in
          rw e (omega (arith, z, q, u.held_is, held_said last cb l way s low wide g v.is b));
      marks_are = marks_turn (chain_at last cb l) way count s m m' (marks m₀ (chains_of last cb l way count)) h x.marks_are u.marks_are;
      tails = x.tails;
    }

    module _ (files' held' : ℕ) where
      pub files_skip : g ≡ Ok None → files' ≡ files → held' ≡ held → Underway last cb l way count m₀ (s + 1) files' held' m' t'
      files_skip e x y =
          let d : plain_slot l way s ≡ false = plain_said last cb l way s low wide g v.is ∙ ap is_file e in
          next files' held' (ap is_bad e) (subst (λ (k : Result (Option ℕ) BadChain). MarkedUnlessBad last cb l (way s) m k m' t') e v.marked) (omega arith) (omega (arith, ap holds e))
          (tally_miss (plain_slot l way) count s files files' (tally (plain_slot l way) count 0) h d x u.files_are)

      pub files_add : (n : ℕ) → g ≡ Ok (Some n) → files' ≡ files + 1 → held' ≡ held + n → Underway last cb l way count m₀ (s + 1) files' held' m' t'
      files_add n e x y =
          let d : plain_slot l way s ≡ true = plain_said last cb l way s low wide g v.is ∙ ap is_file e in
          next files' held' (ap is_bad e) (subst (λ (k : Result (Option ℕ) BadChain). MarkedUnlessBad last cb l (way s) m k m' t') e v.marked) (omega arith) (omega (arith, ap holds e))
          (tally_hit (plain_slot l way) count s files files' (tally (plain_slot l way) count 0) h d x u.files_are)
