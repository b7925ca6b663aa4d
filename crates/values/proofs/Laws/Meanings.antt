-- What a meaning says of the tests of its value.
use Rattle.std.specs.Prelude.{ℕ, ◌≤◌, ◌<◌, Bool, true, false, ◌||◌, not, ◌≡◌}
use Rattle.std.proofs.Common.{arith, inl, inr, eq-eqb, ne_eqb}
use Rattle.chains.specs.Values.{freeb, linkb, badb, reservedb, endb, Valid, free, used, bad, reserved}
use Rattle.chains.proofs.Laws.Tests.{says_not, true_says, false_says}
use Rattle.chains.proofs.Laws.Values.{says_link, says_bad, says_reserved, says_end, says_valid}
use Rattle.values.specs.Values.{Values, meaning_of}
use Rattle.values.proofs.Laws.Values.{meaning_is}
use Rattle.values.specs.declared.Meaning.{Meaning}
use Rattle.values.specs.declared.Meaning.TheVariants.{Free, Next, Bad, Reserved, End, NoneOfThese}

abbrev pub is_free : Meaning → Bool
is_free Free = true
is_free (Next n) = false
is_free Bad = false
is_free Reserved = false
is_free End = false
is_free NoneOfThese = false

abbrev pub is_next : Meaning → Bool
is_next Free = false
is_next (Next n) = true
is_next Bad = false
is_next Reserved = false
is_next End = false
is_next NoneOfThese = false

abbrev pub is_bad : Meaning → Bool
is_bad Free = false
is_bad (Next n) = false
is_bad Bad = true
is_bad Reserved = false
is_bad End = false
is_bad NoneOfThese = false

abbrev pub is_reserved : Meaning → Bool
is_reserved Free = false
is_reserved (Next n) = false
is_reserved Bad = false
is_reserved Reserved = true
is_reserved End = false
is_reserved NoneOfThese = false

abbrev pub is_end : Meaning → Bool
is_end Free = false
is_end (Next n) = false
is_end Bad = false
is_end Reserved = false
is_end End = true
is_end NoneOfThese = false

abbrev pub is_none : Meaning → Bool
is_none Free = false
is_none (Next n) = false
is_none Bad = false
is_none Reserved = false
is_none End = false
is_none NoneOfThese = true

module _ (last v : ℕ) (low : last ≤ 4079) where
  free_by : (m : Meaning) → Values m last v → freeb v ≡ is_free m
  free_by Free x = eq-eqb v 0 x
  free_by (Next n) x = ne_eqb v 0 (omega arith)
  free_by Bad x = ne_eqb v 0 (omega arith)
  free_by Reserved x = ne_eqb v 0 (omega arith)
  free_by End x = ne_eqb v 0 (omega arith)
  free_by NoneOfThese x = ne_eqb v 0 x.0

  link_by : (m : Meaning) → Values m last v → linkb last v ≡ is_next m
  link_by Free x = false_says (says_link last v) (λ y. omega arith)
  link_by (Next n) x = true_says (says_link last v) x.0
  link_by Bad x = false_says (says_link last v) (λ y. omega arith)
  link_by Reserved x = false_says (says_link last v) (λ y. omega arith)
  link_by End x = false_says (says_link last v) (λ y. omega arith)
  link_by NoneOfThese x = false_says (says_link last v) x.1

  bad_by : (m : Meaning) → Values m last v → badb v ≡ is_bad m
  bad_by Free x = false_says (says_bad v) (λ y. omega arith)
  bad_by (Next n) x = false_says (says_bad v) (λ y. omega arith)
  bad_by Bad x = true_says (says_bad v) x
  bad_by Reserved x = false_says (says_bad v) (λ y. omega arith)
  bad_by End x = false_says (says_bad v) (λ y. omega arith)
  bad_by NoneOfThese x = false_says (says_bad v) x.2

  reserved_by : (m : Meaning) → Values m last v → reservedb v ≡ is_reserved m
  reserved_by Free x = false_says (says_reserved v) (λ y. omega arith)
  reserved_by (Next n) x = false_says (says_reserved v) (λ y. omega arith)
  reserved_by Bad x = false_says (says_reserved v) (λ y. omega arith)
  reserved_by Reserved x = true_says (says_reserved v) x
  reserved_by End x = false_says (says_reserved v) (λ y. omega arith)
  reserved_by NoneOfThese x = false_says (says_reserved v) x.3

  end_by : (m : Meaning) → Values m last v → endb v ≡ is_end m
  end_by Free x = false_says (says_end v) (λ y. omega arith)
  end_by (Next n) x = false_says (says_end v) (λ y. omega arith)
  end_by Bad x = false_says (says_end v) (λ y. omega arith)
  end_by Reserved x = false_says (says_end v) (λ y. omega arith)
  end_by End x = true_says (says_end v) x
  end_by NoneOfThese x = false_says (says_end v) x.4

  none_by : (m : Meaning) → Values m last v → not (freeb v || (linkb last v || (endb v || (badb v || reservedb v)))) ≡ is_none m
  none_by Free x = false_says (says_not (says_valid last v)) (λ n. n (free x))
  none_by (Next n) x = false_says (says_not (says_valid last v)) (λ n. n (used (inl x.0)))
  none_by Bad x = false_says (says_not (says_valid last v)) (λ n. n (bad x))
  none_by Reserved x = false_says (says_not (says_valid last v)) (λ n. n (reserved x))
  none_by End x = false_says (says_not (says_valid last v)) (λ n. n (used (inr x)))
  none_by NoneOfThese x = true_says (says_not (says_valid last v)) no_value_lem
    where
      no_value_lem : ¬ Valid last v
      no_value_lem (free e) = x.0 e
      no_value_lem (used (inl u)) = x.1 u
      no_value_lem (used (inr u)) = x.4 u
      no_value_lem (bad u) = x.2 u
      no_value_lem (reserved u) = x.3 u

  module _ (small : v < 4096) (m : Meaning) (e : m ≡ meaning_of last v) where
    pub meaning_says : Values m last v
    meaning_says = (meaning_is last v low small m).0 e

    pub free_said : freeb v ≡ is_free m
    free_said = free_by m meaning_says

    pub link_said : linkb last v ≡ is_next m
    link_said = link_by m meaning_says

    pub bad_said : badb v ≡ is_bad m
    bad_said = bad_by m meaning_says

    pub reserved_said : reservedb v ≡ is_reserved m
    reserved_said = reserved_by m meaning_says

    pub end_said : endb v ≡ is_end m
    end_said = end_by m meaning_says

    pub none_said : not (freeb v || (linkb last v || (endb v || (badb v || reservedb v)))) ≡ is_none m
    none_said = none_by m meaning_says
