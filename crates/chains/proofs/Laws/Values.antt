-- The tests of a table value say what it is; free is not used.
use Rattle.std.specs.Prelude.{ℕ, ◌-◌, ◌≡◌, ◌≢◌, ◌⊎◌, ◌↔◌, Bool, true, false, ◌||◌}
use Rattle.std.proofs.Common.{arith, ap, inl, inr}
use Rattle.chains.specs.Aids.Tests.{Says}
use Rattle.chains.specs.Sums.{bit}
use Rattle.chains.specs.Aids.Sums.{sum_clusters}
use Rattle.chains.specs.Aids.Sizes.{Geometry}
use Rattle.chains.specs.Values.{Bad, End, Link, Reserved, Used, Valid, bad, badb, endb, free, freeb, linkb, reserved, reservedb, used, value_count}
use Rattle.chains.specs.Aids.Values.{OutOfUse, passes_at}
use Rattle.chains.proofs.Laws.Tests.{false_says, says_and, says_eq, says_le, says_map, says_or, says_true, true_says}
use Rattle.chains.proofs.Laws.Sums.{tally_sum}

pub says_link : (last v : ℕ) → Says (linkb last v) (Link last v)
unfolding linkb
says_link last v = says_and (says_le 2 v) (says_le v last)

pub says_end : (v : ℕ) → Says (endb v) (End v)
unfolding endb
says_end v = says_and (says_le 0xff8 v) (says_le v 0xfff)

pub says_bad : (v : ℕ) → Says (badb v) (Bad v)
says_bad v = says_eq v 0xff7

pub says_reserved : (v : ℕ) → Says (reservedb v) (Reserved v)
says_reserved v = says_and (says_le 0xff0 v) (says_le v 0xff6)

pub says_valid : (last v : ℕ) → Says (freeb v || (linkb last v || (endb v || (badb v || reservedb v)))) (Valid last v)
says_valid last v = says_map to back (says_or (says_eq v 0) (says_or (says_link last v) (says_or (says_end v) (says_or (says_bad v) (says_reserved v)))))
  where
    to : (v ≡ 0) ⊎ (Link last v ⊎ (End v ⊎ (Bad v ⊎ Reserved v))) → Valid last v
    to (inl e) = free e
    to (inr (inl x)) = used (inl x)
    to (inr (inr (inl x))) = used (inr x)
    to (inr (inr (inr (inl x)))) = bad x
    to (inr (inr (inr (inr x)))) = reserved x

    back : Valid last v → (v ≡ 0) ⊎ (Link last v ⊎ (End v ⊎ (Bad v ⊎ Reserved v)))
    back (free e) = inl e
    back (used (inl x)) = inr (inl x)
    back (used (inr x)) = inr (inr (inl x))
    back (bad x) = inr (inr (inr (inl x)))
    back (reserved x) = inr (inr (inr (inr x)))

-- ---- each test and what it means

pub free_means : (v : ℕ) → (freeb v ≡ true) ↔ (v ≡ 0)
free_means v = (says_true (says_eq v 0), true_says (says_eq v 0))

pub link_means : (last v : ℕ) → (linkb last v ≡ true) ↔ Link last v
link_means last v = (says_true (says_link last v), true_says (says_link last v))

pub end_means : (v : ℕ) → (endb v ≡ true) ↔ End v
end_means v = (says_true (says_end v), true_says (says_end v))

pub bad_means : (v : ℕ) → (badb v ≡ true) ↔ Bad v
bad_means v = (says_true (says_bad v), true_says (says_bad v))

pub reserved_means : (v : ℕ) → (reservedb v ≡ true) ↔ Reserved v
reserved_means v = (says_true (says_reserved v), true_says (says_reserved v))

-- no value is of two kinds

pub link_no_end : (G : Geometry) (v : ℕ) → Link G.last v → endb v ≡ false
link_no_end G v l = false_says (says_end v) (λ e. omega (arith, G.small))

pub free_no_use : (last v : ℕ) → v ≡ 0 → ¬ Used last v
free_no_use last v e (inl u) = omega arith
free_no_use last v e (inr u) = omega arith

-- ---- as numbers to be added

pub free_one : (v : ℕ) → v ≡ 0 → bit (freeb v) ≡ 1
free_one v e = ap bit (true_says (says_eq v 0) e)

pub free_none : (v : ℕ) → v ≢ 0 → bit (freeb v) ≡ 0
free_none v n = ap bit (false_says (says_eq v 0) n)

pub used_no_free : (last v : ℕ) → Used last v → bit (freeb v) ≡ 0
used_no_free last v u = free_none v (λ e. free_no_use last v e u)

-- ---- bad and reserved clusters are out of use

module _ (G : Geometry) where
  no_bad : (v : ℕ) → Used G.last v → ¬ Bad v
  no_bad v (inl u) b = omega (arith, G.small)
  no_bad v (inr u) b = omega arith

  no_reserved : (v : ℕ) → Used G.last v → ¬ Reserved v
  no_reserved v (inl u) r = omega (arith, G.small)
  no_reserved v (inr u) r = omega arith

  pub bad_out_of_use : OutOfUse G.last badb
  bad_out_of_use = record {
    not_free = λ v e. false_says (says_bad v) (λ b. omega arith);
    not_used = λ v u. false_says (says_bad v) (no_bad v u);
  }

  pub reserved_out_of_use : OutOfUse G.last reservedb
  reserved_out_of_use = record {
    not_free = λ v e. false_says (says_reserved v) (λ r. omega arith);
    not_used = λ v u. false_says (says_reserved v) (no_reserved v u);
  }

-- ---- a count as a sum over the clusters

pub count_sum : (t : ℕ → Bool) (last : ℕ) (f : ℕ → ℕ) → value_count t last f ≡ sum_clusters last (λ c. bit (t (f c)))
unfolding value_count passes_at
count_sum t last f = tally_sum (passes_at t f) (last - 1) 2
