-- The loop that finds the lowest free cluster, 0 where there is none: it stands at cluster c, and last + 1 - c clusters are left.
use Rattle.std.specs.Prelude.{ℕ, suc, ◌+◌, ◌-◌, ◌≤◌, ◌<◌, ◌≡◌, ◌≢◌, List, [], ◌∷◌, get_or}
use Rattle.std.proofs.Common.{arith, sym, ap, ◌∙◌}
use Rattle.chains.specs.Free.{free_from}
use Rattle.chains.proofs.Laws.Free.{free_nil, free_no, free_yes}

left_suc : (last c : ℕ) → c ≤ last → last + 1 - c ≡ suc (last + 1 - (c + 1))
left_suc last c h = omega arith

left_none : (f : ℕ → ℕ) (last c : ℕ) → last < c → free_from f (last + 1 - c) c ≡ []
left_none f last c h = let z : last + 1 - c ≡ 0 = omega arith in rw z (free_nil f c)

left_hit : (f : ℕ → ℕ) (last c : ℕ) → c ≤ last → f c ≡ 0 → free_from f (last + 1 - c) c ≡ c ∷ free_from f (last + 1 - (c + 1)) (c + 1)
left_hit f last c h e = let z : suc c ≡ c + 1 = omega arith in rw (left_suc last c h, sym z) (free_yes f (last + 1 - (suc c)) c e)

left_miss : (f : ℕ → ℕ) (last c : ℕ) → c ≤ last → f c ≢ 0 → free_from f (last + 1 - c) c ≡ free_from f (last + 1 - (c + 1)) (c + 1)
left_miss f last c h e = let z : suc c ≡ c + 1 = omega arith in rw (left_suc last c h, sym z) (free_no f (last + 1 - (suc c)) c e)

pub lowest_hit : (f : ℕ → ℕ) (last c v : ℕ) (whole : ℕ) → c ≤ last → v ≡ f c → v ≡ 0 → get_or (free_from f (last + 1 - c) c) 0 0 ≡ whole → c ≡ whole
lowest_hit f last c v whole h e z w = sym (ap (λ (cs : List ℕ). get_or cs 0 0) (left_hit f last c h (sym e ∙ z))) ∙ w

pub lowest_miss : (f : ℕ → ℕ) (last c v : ℕ) (whole : ℕ) → c ≤ last → v ≡ f c → v ≢ 0 → get_or (free_from f (last + 1 - c) c) 0 0 ≡ whole → get_or (free_from f (last + 1 - (c + 1)) (c + 1)) 0 0 ≡ whole
lowest_miss f last c v whole h e z w = sym (ap (λ (cs : List ℕ). get_or cs 0 0) (left_miss f last c h (λ y. z (e ∙ y)))) ∙ w

pub lowest_end : (f : ℕ → ℕ) (last c : ℕ) (whole : ℕ) → last < c → get_or (free_from f (last + 1 - c) c) 0 0 ≡ whole → 0 ≡ whole
lowest_end f last c whole h w = sym (ap (λ (cs : List ℕ). get_or cs 0 0) (left_none f last c h)) ∙ w
