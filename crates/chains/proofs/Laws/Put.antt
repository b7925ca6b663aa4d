-- What is read after a put.
use Rattle.std.specs.Prelude.{ℕ, ◌≡◌, ◌≢◌, ◌⊎◌}
use Rattle.std.proofs.Math.Decide.{ℕ_discrete}
use Rattle.std.proofs.Common.{inl, inr, eq-eqb, ne_eqb}
use Rattle.chains.specs.Aids.Put.{put}

pub put_same : {A : Type 0} (f : ℕ → A) (i : ℕ) (v : A) (c : ℕ) → c ≡ i → put f i v c ≡ v
unfolding put
put_same f i v c e = rw (eq-eqb c i e)

pub put_other : {A : Type 0} (f : ℕ → A) (i : ℕ) (v : A) (c : ℕ) → c ≢ i → put f i v c ≡ f c
unfolding put
put_other f i v c n = rw (ne_eqb c i n)

pub put_cases : {A : Type 0} (f : ℕ → A) (i : ℕ) (v : A) (c : ℕ) → ((c ≡ i) × (put f i v c ≡ v)) ⊎ ((c ≢ i) × (put f i v c ≡ f c))
put_cases f i v c = elim (ℕ_discrete c i) [
  | yes e ↦ inl (e, put_same f i v c e)
  | no n ↦ inr (n, put_other f i v c n)
]
