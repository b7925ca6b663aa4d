-- The loops along a chain, one turn each: they count down.
use Rattle.std.specs.Prelude.{ℕ, suc, ◌-◌, ◌≤◌, ◌<◌, ◌≡◌}
use Rattle.std.proofs.Common.{arith, ap, ◌∙◌}
use Rattle.std.proofs.Math.Path.{refl, sym}
use Rattle.chains.specs.Aids.Steps.{followed}

down : (k : ℕ) → 0 < k → k ≡ suc (k - 1)
down k h = omega arith

-- ---- in the shape of a loop's needs: whole is what the loop shall come to

pub followed_turn : (f : ℕ → ℕ) (k c v j whole : ℕ) → 0 < k → v ≡ f c → j ≡ k - 1 → followed f k c ≡ whole → followed f j v ≡ whole
followed_turn f k c v j whole h e q w =
    let z : followed f (suc (k - 1)) c ≡ followed f (k - 1) (f c) = unfold followed in refl in
    rw (e, q) (sym (ap (λ (n : ℕ). followed f n c) (down k h) ∙ z) ∙ w)

pub followed_end : (f : ℕ → ℕ) (k c whole : ℕ) → k ≤ 0 → followed f k c ≡ whole → c ≡ whole
followed_end f k c whole h w =
    let z : k ≡ 0 = omega arith in
    let y : followed f 0 c ≡ c = unfold followed in refl in
    sym (ap (λ (n : ℕ). followed f n c) z ∙ y) ∙ w
