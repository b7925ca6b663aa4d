-- Findings 2 and 3 as the code searches for them, in the form of its needs.
use Rattle.std.specs.Prelude.{ℕ, zero, suc, ◌+◌, ◌-◌, ◌≤◌, ◌<◌, min, Bool, List, ◌≡◌, eqb, get_or, Option, Some, None, Result, Ok, Err}
use native.Mathlib.Omega.{arith}
use Rattle.std.proofs.Common.{Fits, ◌∙◌}
use Rattle.std.specs.Int.{w8}
use Rattle.std.proofs.Math.Bool.{true, false, cond, not}
use Rattle.std.proofs.Math.Path.{refl, sym, ap}
use borrow.Author.Tests.{ne_eqb}
use Rattle.image.specs.Bytes.{Bytes}
use Rattle.chains.specs.Aids.Check.{no_value}
use Rattle.chains.specs.Values.{freeb, badb, reservedb, value_count}
use Rattle.chains.specs.Aids.Values.{passes_at}
use Rattle.chains.proofs.Laws.TallyTurns.{tally_hit, tally_miss, tally_end}
use Rattle.chains.proofs.Laws.ClusterLoops.{lowest_start, count_start}
use Rattle.search.specs.Search.{lowest, is_found}
use Rattle.search.proofs.Laws.Meaning.{none_passes, lowest_none}
use Rattle.search.proofs.Laws.Turns.{lowest_hit, lowest_miss, lowest_done}
use Rattle.values.specs.Values.{meaning_of}
use Rattle.values.specs.declared.Meaning.{Meaning}
use Rattle.values.specs.declared.Meaning.TheVariants.{NoneOfThese}
use Rattle.values.proofs.Laws.Meanings.{is_free, is_bad, is_reserved, is_none, free_said, bad_said, reserved_said, none_said}
use Rattle.table.specs.Entries.{table_of, entry_of}
use Rattle.table.proofs.Laws.OneCopy.{entry_small}
use Rattle.table.proofs.Laws.View.{table_inside}
use Rattle.tablecheck.specs.Aids.Copies.{differs_at, unlike_at, search_end}
use Rattle.tablecheck.specs.Aids.Values.{census_by, census_of, Tallied, Met, CountedTo}
use Rattle.tablecheck.specs.declared.Tally.{Tally}

-- ---- the search for the lowest

-- past the first n of m numbers none passes: those n are enough
lowest_longer : (p : ℕ → Bool) (s n m : ℕ) → n ≤ m → ((i : ℕ) → s + n ≤ i → i < s + m → p i ≡ false) → lowest p s n ≡ lowest p s m
unfolding lowest
lowest_longer p s zero m h f = lowest_none p s m (λ i j k. f i (omega arith) k)
lowest_longer p s (suc n) zero h f = absurd (omega arith)
lowest_longer p s (suc n) (suc m) h f = ap (cond (p s) (Some s)) (lowest_longer p (s + 1) n m (omega arith) (λ i j k. f i (omega arith) (omega arith)))

module _ (l : List ℕ) (second size end : ℕ) (e : end ≡ search_end second l size) where
  -- from there on the copies are as they must be
  end_alike : (i : ℕ) → end ≤ i → i < size → differs_at second l i ≡ false
  unfolding search_end unlike_at differs_at
  end_alike i h k = by (lowest (unlike_at second l) 0 size) refl e
    where
      by : (f : Option ℕ) → lowest (unlike_at second l) 0 size ≡ f → end ≡ cond (is_found f) size (min 3 size) → differs_at second l i ≡ false
      by (Some x) p x' = absurd (omega arith)
      by None p x' =
          let u : not (eqb (get_or l (512 + i) 0) (get_or l (second + i) 0)) ≡ false = none_passes (unlike_at second l) 0 size (sym p) i (omega arith) (omega arith) in
          rw (u, ne_eqb i 1 (omega arith), ne_eqb i 2 (omega arith))

  pub end_enough : end ≤ size → lowest (differs_at second l) 0 end ≡ lowest (differs_at second l) 0 size
  end_enough h = lowest_longer (differs_at second l) 0 end size h (λ i j k. end_alike i (omega arith) (omega arith))

-- ---- the census

-- one more where the test passes
abbrev pub more : Bool → ℕ → ℕ
more true n = n + 1
more false n = n

module _ (t : ℕ → Bool) (last : ℕ) (f : ℕ → ℕ) where
  tallied_start : Tallied t last f 0 2
  tallied_start = record { few = omega arith; whole = count_start t f last }

  -- a turn, by the answer b of the test
  tallied_turn : (n m c : ℕ) (b : Bool) → c < last + 1 → t (f c) ≡ b → m ≡ more b n → Tallied t last f n c → Tallied t last f m (c + 1)
  unfolding passes_at
  tallied_turn n m c b h e s p = go b e s
    where
      go : (b : Bool) → passes_at t f c ≡ b → m ≡ more b n → Tallied t last f m (c + 1)
      go true x y = record { few = omega (arith, p.few); whole = tally_hit (passes_at t f) (last + 1) c n m (value_count t last f) h x y p.whole }
      go false x y = record { few = omega (arith, p.few); whole = tally_miss (passes_at t f) (last + 1) c n m (value_count t last f) h x y p.whole }

  tallied_end : (n c : ℕ) → last + 1 ≤ c → Tallied t last f n c → n ≡ value_count t last f
  tallied_end n c h p = tally_end (passes_at t f) (last + 1) c n (value_count t last f) h p.whole

pub met_start : (last : ℕ) (l : List ℕ) (t : Tally) → t.free ≡ 0 → t.bad ≡ 0 → t.reserved ≡ 0 → Met last l t 2
met_start last l t x y z = record {
  from = omega arith;
  free_are = rw x (tallied_start freeb last (table_of last l));
  bad_are = rw y (tallied_start badb last (table_of last l));
  reserved_are = rw z (tallied_start reservedb last (table_of last l));
  valued = lowest_start (no_value last (table_of last l)) last;
}

-- one turn: v is the entry that was read, m what it means. (fit is what the code knows of the slice's elements.)
module _ (last : ℕ) (l : List ℕ) (t : Tally) (c v : ℕ) (m : Meaning) (fit : (i : ℕ) → Fits w8 (get_or l i 0)) (low : last ≤ 4079) (inv : Met last l t c) (h : c < last + 1) (r : v ≡ entry_of l c) (e : m ≡ meaning_of last v) where
  abbrev f : ℕ → ℕ
  f = table_of last l

  bytes : Bytes l
  bytes i = omega (arith, fit i)

  value : v ≡ f c
  value = r ∙ sym (table_inside last l c inv.from (omega arith))

  small : v < 4096
  small = rw r (entry_small 512 l c bytes)

  none : no_value last f c ≡ is_none m
  unfolding no_value
  none = rw (sym value) (none_said last v low small m e)

  -- w is the arm that was taken: the count of its meaning goes up by one, and no other
  pub met_on : (w : Meaning) → m ≡ w → (t' : Tally) → is_none w ≡ false → t'.free ≡ more (is_free w) t.free → t'.bad ≡ more (is_bad w) t.bad → t'.reserved ≡ more (is_reserved w) t.reserved
      → Met last l t' (c + 1)
  met_on w g t' o x y z = record {
    from = omega (arith, inv.from);
    free_are = tallied_turn freeb last f t.free t'.free c (is_free w) h (rw (sym value) (free_said last v low small m e ∙ ap is_free g)) x inv.free_are;
    bad_are = tallied_turn badb last f t.bad t'.bad c (is_bad w) h (rw (sym value) (bad_said last v low small m e ∙ ap is_bad g)) y inv.bad_are;
    reserved_are = tallied_turn reservedb last f t.reserved t'.reserved c (is_reserved w) h (rw (sym value) (reserved_said last v low small m e ∙ ap is_reserved g)) z inv.reserved_are;
    valued = lowest_miss (no_value last f) c (last + 1) (lowest (no_value last f) 2 (last - 1)) inv.valued h (is_none m) (sym none) (ap is_none g ∙ o);
  }

  pub met_none : m ≡ NoneOfThese → Err c ≡ census_of last l
  unfolding census_of
  met_none g = ap (λ o. census_by o (value_count freeb last f) (value_count badb last f) (value_count reservedb last f))
      (lowest_hit (no_value last f) c (last + 1) (lowest (no_value last f) 2 (last - 1)) inv.valued h (is_none m) (sym none) (rw g))

pub met_all : (last : ℕ) (l : List ℕ) (t : Tally) (c : ℕ) → Met last l t c → last + 1 ≤ c → Ok t ≡ census_of last l
unfolding census_of
met_all last l t c inv h =
    let f : ℕ → ℕ = table_of last l in
    let all_valued : None ≡ lowest (no_value last f) 2 (last - 1)
    = lowest_done (no_value last f) c (last + 1) (lowest (no_value last f) 2 (last - 1)) inv.valued h in
    rw (sym all_valued, tallied_end freeb last f t.free c h inv.free_are, tallied_end badb last f t.bad c h inv.bad_are, tallied_end reservedb last f t.reserved c h inv.reserved_are)

-- what comes of the last cluster is the census
pub counted_last : (last : ℕ) (l : List ℕ) (c : ℕ) (r : Result Tally ℕ) → CountedTo last l (c + 1) r → last ≤ c → r ≡ census_of last l
counted_last last l c (Err d) p h = p
counted_last last l c (Ok t) p h = met_all last l t (c + 1) p (omega arith)
