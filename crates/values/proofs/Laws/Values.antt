-- A value of 12 bits has one meaning, and it is the one that the code answers.
use Rattle.std.specs.Prelude.{ℕ, ◌≤◌, ◌<◌, ◌≢◌, ◌↔◌, ◌≡◌, refl}
use Rattle.std.proofs.Common.{arith, sym, subst}
use Rattle.std.proofs.Math.Decide.{ℕ_discrete, dec_le, dec_lt}
use borrow.Author.Tests.{eq-eqb, ne_eqb, lt-ltb, le-ltb, le-leb, lt-leb}
use Rattle.values.specs.Values.{Values, meaning_of}
use Rattle.values.specs.declared.Meaning.{Meaning}
use Rattle.values.specs.declared.Meaning.TheVariants.{Free, Next, Bad, Reserved, End, NoneOfThese}

module _ (last v : ℕ) where
  -- ---- in the form of the code's needs, test by test

  means_free : v ≡ 0 → Free ≡ meaning_of last v
  unfolding meaning_of
  means_free e = rw (eq-eqb v 0 e)

  means_one : v ≢ 0 → v < 2 → NoneOfThese ≡ meaning_of last v
  unfolding meaning_of
  means_one d h = rw (ne_eqb v 0 d, lt-ltb v 2 h)

  module _ (f : 2 ≤ v) where
    not_zero : v ≢ 0
    not_zero e = omega arith

    means_next : v ≤ last → Next v ≡ meaning_of last v
    unfolding meaning_of
    means_next h = rw (ne_eqb v 0 not_zero, le-ltb v 2 f, le-leb v last h)

    module _ (g : last < v) where
      means_end : 0xFF8 ≤ v → End ≡ meaning_of last v
      unfolding meaning_of
      means_end h = rw (ne_eqb v 0 not_zero, le-ltb v 2 f, lt-leb v last g, le-leb 0xFF8 v h)

      module _ (k : v < 0xFF8) where
        means_bad : v ≡ 0xFF7 → Bad ≡ meaning_of last v
        unfolding meaning_of
        means_bad h = rw (ne_eqb v 0 not_zero, le-ltb v 2 f, lt-leb v last g, lt-leb 0xFF8 v k, eq-eqb v 0xFF7 h)

        means_reserved : v ≢ 0xFF7 → 0xFF0 ≤ v → Reserved ≡ meaning_of last v
        unfolding meaning_of
        means_reserved b h = rw (ne_eqb v 0 not_zero, le-ltb v 2 f, lt-leb v last g, lt-leb 0xFF8 v k, ne_eqb v 0xFF7 b, le-leb 0xFF0 v h)

        means_between : v ≢ 0xFF7 → v < 0xFF0 → NoneOfThese ≡ meaning_of last v
        unfolding meaning_of
        means_between b h = rw (ne_eqb v 0 not_zero, le-ltb v 2 f, lt-leb v last g, lt-leb 0xFF8 v k, ne_eqb v 0xFF7 b, lt-leb 0xFF0 v h)

  -- ---- what it means

  module _ (low : last ≤ 4079) (small : v < 4096) where
    -- the value is one of those that the answer stands for
    pub meaning_fits : Values (meaning_of last v) last v
    meaning_fits = elim (ℕ_discrete v 0) [
      | yes e ↦ by (means_free e) e
      | no d ↦ elim (dec_lt v 2) [
        | yes h ↦ by (means_one d h) (d, (λ p. omega arith), (λ p. omega arith), (λ p. omega arith), λ p. omega arith)
        | no f ↦ elim (dec_le v last) [
          | yes h ↦ by (means_next (omega arith) h) ((omega arith, h), refl)
          | no g ↦ elim (dec_le 0xFF8 v) [
            | yes h ↦ by (means_end (omega arith) (omega arith) h) (h, omega arith)
            | no k ↦ elim (ℕ_discrete v 0xFF7) [
              | yes b ↦ by (means_bad (omega arith) (omega arith) (omega arith) b) b
              | no b ↦ elim (dec_le 0xFF0 v) [
                | yes h ↦ by (means_reserved (omega arith) (omega arith) (omega arith) b h) (h, omega arith)
                | no h ↦ by (means_between (omega arith) (omega arith) (omega arith) b (omega arith)) (d, (λ p. omega arith), b, (λ p. omega arith), λ p. omega arith)
              ]
            ]
          ]
        ]
      ]
    ]
      where
        by : {m : Meaning} → m ≡ meaning_of last v → Values m last v → Values (meaning_of last v) last v
        by e x = subst (λ m. Values m last v) e x

    -- and no second meaning fits
    pub meaning_only : (m : Meaning) → Values m last v → m ≡ meaning_of last v
    meaning_only Free x = means_free x
    meaning_only (Next n) x = rw x.1 (means_next (omega arith) (omega arith))
    meaning_only Bad x = means_bad (omega arith) (omega arith) (omega arith) x
    meaning_only Reserved x = means_reserved (omega arith) (omega arith) (omega arith) (omega arith) (omega arith)
    meaning_only End x = means_end (omega arith) (omega arith) (omega arith)
    meaning_only NoneOfThese x = elim (dec_lt v 2) [
      | yes h ↦ means_one x.0 h
      | no f ↦ elim (dec_le v last) [
        | yes h ↦ absurd (x.1 (omega arith, h))
        | no g ↦ elim (dec_le 0xFF8 v) [
          | yes h ↦ absurd (x.4 (h, omega arith))
          | no k ↦ elim (dec_le 0xFF0 v) [
            | yes h ↦ absurd (x.3 (h, let b = x.2 in omega arith))
            | no h ↦ means_between (omega arith) (omega arith) (omega arith) x.2 (omega arith)
          ]
        ]
      ]
    ]

    pub meaning_is : (m : Meaning) → (m ≡ meaning_of last v) ↔ Values m last v
    meaning_is m = ((λ e. subst (λ m. Values m last v) (sym e) meaning_fits), meaning_only m)
