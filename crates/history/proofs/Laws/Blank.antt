-- The formatted volume: sound, without files, all its clusters are free, none is bad or reserved.
use Rattle.std.specs.Prelude.{ℕ, ◌+◌, ◌-◌, ◌*◌, Bool, List, ◌≡◌, length, Some, None}
use Rattle.std.proofs.Common.{arith, ap}
use borrow.Author.Tests.{eq-eqb}
use Rattle.chains.specs.Sums.{sum, bit}
use Rattle.chains.specs.Values.{freeb}
use Rattle.chains.specs.Aids.Values.{OutOfUse}
use Rattle.chains.proofs.Laws.Sums.{sum_cong, sum_one, sum_zero}
use Rattle.chains.proofs.Laws.Values.{free_one, count_sum}
use Rattle.diskette.specs.Kinds.{named}
use Rattle.diskette.specs.Aids.Usable.{Usable}
use Rattle.diskette.specs.Places.{clusters, last_cluster}
use Rattle.diskette.specs.declared.Kind.{Kind}
use Rattle.sound.specs.Counts.{clusters_with, free_of}
use Rattle.sound.specs.Files.{value_of}
use Rattle.formatting.specs.Format.{blank, formatted}
use Rattle.formatting.proofs.Laws.Blank.{blank_table, blank_bytes}
use Rattle.formatting.proofs.Laws.Sound.{blank_no_file, blank_on}
use Rattle.changes.specs.Files.{Shows}
use Rattle.history.specs.Promises.{Begins}
use Rattle.history.specs.World.{world}
use Rattle.history.proofs.Laws.Begins.{on_begins}

module _ (k : Kind) (u : Usable k) (named_so : named k.byte ≡ Some k) where
  pub blank_begins : (t : List ℕ) → Begins k (world (blank k) t)
  blank_begins t = on_begins k (world (blank k) t) (blank_on k u named_so) (blank_bytes k u named_so)

  pub blank_shows : Shows k (blank k) (λ s. None)
  blank_shows s = blank_no_file k u s

  pub blank_free : free_of k (blank k) ≡ clusters k
  blank_free =
      let n : ℕ = last_cluster k - 1 in
      let e : sum n (λ i. bit (freeb (value_of k (blank k) (i + 2)))) ≡ sum n (λ i. 1)
      = sum_cong n _ _ (λ i h. free_one (value_of k (blank k) (i + 2)) (blank_table k u (i + 2))) in
      omega (arith, count_sum freeb (last_cluster k) (value_of k (blank k)), e, sum_one n)

  -- none is bad, none reserved
  pub blank_none : (t : ℕ → Bool) → OutOfUse (last_cluster k) t → clusters_with t k (blank k) ≡ 0
  blank_none t o =
      let n : ℕ = last_cluster k - 1 in
      let e : sum n (λ i. bit (t (value_of k (blank k) (i + 2)))) ≡ sum n (λ i. 0)
      = sum_cong n _ _ (λ i h. ap bit (o.not_free (value_of k (blank k) (i + 2)) (blank_table k u (i + 2)))) in
      omega (arith, count_sum t (last_cluster k) (value_of k (blank k)), e, sum_zero n)

  -- what format makes of any image of that length
  pub formatted_blank : (img : List ℕ) → length img ≡ 512 * k.sectors → (formatted k.byte img).image ≡ blank k
  unfolding formatted
  formatted_blank img e = rw (named_so, eq-eqb (length img) (512 * k.sectors) e)
