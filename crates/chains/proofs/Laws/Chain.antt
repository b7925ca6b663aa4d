-- A chain is one list, without repetition, no longer than the volume; and a table that agrees on its clusters has it too.
use Rattle.std.specs.Prelude.{ℕ, zero, suc, ◌+◌, ◌-◌, ◌≤◌, ◌<◌, ◌≡◌, refl, length, get_or}
use native.Mathlib.Omega.{arith}
use Rattle.std.proofs.Math.Decide.{ℕ_discrete}
use Rattle.std.proofs.Common.{sym, ◌∙◌, subst}
use Rattle.std.proofs.Math.Path.{ap}
use Rattle.std.proofs.Math.Logic.{inl, inr}
use mathlib.Core.List.{List, [], ◌∷◌}
use Rattle.chains.specs.Lists.{◌∈◌}
use Rattle.chains.specs.Aids.Lists.{occ, Once}
use Rattle.chains.specs.Aids.Sizes.{Geometry}
use Rattle.chains.specs.Values.{Link, Used}
use Rattle.chains.specs.Aids.Chain.{Leads, After, Chain}
use Rattle.chains.proofs.Laws.Lists.{hit_cases, occ_mem}
use Rattle.chains.proofs.Laws.Sums.{pigeon}

module _ (G : Geometry) (f : ℕ → ℕ) where
  -- ---- one list

  leads_same : (v : ℕ) (cs ds : List ℕ) → Leads G.last f v cs → Leads G.last f v ds → cs ≡ ds
  leads_same v [] [] p q = refl
  leads_same v [] (d ∷ ds) p q = absurd (omega arith)
  leads_same v (x ∷ xs) [] p q = absurd (omega arith)
  leads_same v (x ∷ xs) (d ∷ ds) p q =
      let e : x ≡ d = sym p.0 ∙ q.0 in
      let r : Leads G.last f (f x) ds = subst (λ (y : ℕ). Leads G.last f (f y) ds) (sym e) q.2 in
      cc (e, leads_same (f x) xs ds p.2 r)

  pub chain_same : (c : ℕ) (cs ds : List ℕ) → Chain G.last f c cs → Chain G.last f c ds → cs ≡ ds
  chain_same c [] [] p q = refl
  chain_same c [] (d ∷ ds) p q = absurd (omega arith)
  chain_same c (x ∷ xs) [] p q = absurd (omega arith)
  chain_same c (x ∷ xs) (d ∷ ds) p q = leads_same c (x ∷ xs) (d ∷ ds) p q

  -- ---- no repetition: what follows a member of cs is shorter than cs

  shorter : (v a : ℕ) (cs : List ℕ) → Leads G.last f v cs → a ∈ cs → (ds : List ℕ) × After G.last f a ds × (length ds < length cs)
  shorter v a [] p m = absurd m
  shorter v a (x ∷ xs) p (inl e) = (xs, rw e p.2, omega arith)
  shorter v a (x ∷ xs) p (inr m) = let r = shorter (f x) a xs p.2 m in (r.0, r.1, omega arith)

  -- no cluster follows itself
  pub after_fresh : (c : ℕ) (cs : List ℕ) → After G.last f c cs → occ c cs ≡ 0
  after_fresh c cs p = elim (ℕ_discrete (occ c cs) 0) [
    | yes e ↦ e
    | no n ↦
        let r = shorter (f c) c cs p (occ_mem c cs (omega arith)) in
        omega (arith, ap length (leads_same (f c) cs r.0 p r.1))
  ]

  leads_once : (v : ℕ) (cs : List ℕ) → Leads G.last f v cs → Once cs
  unfolding occ
  leads_once v [] p a = omega arith
  leads_once v (x ∷ xs) p a = elim (hit_cases a x) [
    | inl h ↦ omega (arith, ap (λ (y : ℕ). occ y xs) h.0, after_fresh x xs p.2)
    | inr h ↦ omega (arith, leads_once (f x) xs p.2 a)
  ]

  pub chain_once : (c : ℕ) (cs : List ℕ) → Chain G.last f c cs → Once cs
  unfolding occ
  chain_once c [] p a = omega arith
  chain_once c (x ∷ xs) p a = leads_once c (x ∷ xs) p a

  -- ---- the members: in range, and used

  used_head : (v : ℕ) (cs : List ℕ) → Leads G.last f v cs → Used G.last v
  used_head v [] p = inr p
  used_head v (x ∷ xs) p = inl (rw p.0 p.1)

  leads_mem : (v : ℕ) (cs : List ℕ) → Leads G.last f v cs → (a : ℕ) → a ∈ cs → Link G.last a × Used G.last (f a)
  leads_mem v [] p a m = absurd m
  leads_mem v (x ∷ xs) p a (inl e) = (rw e p.1, rw e (used_head (f x) xs p.2))
  leads_mem v (x ∷ xs) p a (inr m) = leads_mem (f x) xs p.2 a m

  pub chain_mem : (c : ℕ) (cs : List ℕ) → Chain G.last f c cs → (a : ℕ) → a ∈ cs → Link G.last a × Used G.last (f a)
  chain_mem c [] p a m = absurd m
  chain_mem c (x ∷ xs) p a m = leads_mem c (x ∷ xs) p a m

  pub chain_length : (c : ℕ) (cs : List ℕ) → Chain G.last f c cs → length cs ≤ G.last - 1
  chain_length c cs p = pigeon G cs (λ a m. (chain_mem c cs p a m).0) (chain_once c cs p)

-- ---- a table that agrees on the clusters of the chain has it too

leads_frame : (G : Geometry) (f g : ℕ → ℕ) (v : ℕ) (cs : List ℕ) → ((a : ℕ) → a ∈ cs → g a ≡ f a) → Leads G.last f v cs → Leads G.last g v cs
leads_frame G f g v [] h p = p
leads_frame G f g v (x ∷ xs) h p = (p.0, p.1, rw (h x (inl refl)) (leads_frame G f g (f x) xs (λ a m. h a (inr m)) p.2))

pub after_frame : (G : Geometry) (f g : ℕ → ℕ) (c : ℕ) (cs : List ℕ) → ((a : ℕ) → a ∈ (c ∷ cs) → g a ≡ f a) → After G.last f c cs → After G.last g c cs
after_frame G f g c cs h p = rw (h c (inl refl)) (leads_frame G f g (f c) cs (λ a m. h a (inr m)) p)

pub chain_frame : (G : Geometry) (f g : ℕ → ℕ) (c : ℕ) (cs : List ℕ) → ((a : ℕ) → a ∈ cs → g a ≡ f a) → Chain G.last f c cs → Chain G.last g c cs
chain_frame G f g c [] h p = p
chain_frame G f g c (x ∷ xs) h p = leads_frame G f g c (x ∷ xs) h p

-- ---- each cluster but the last names the next

pub one_more : (i : ℕ) → i + 1 ≡ suc i
one_more i = omega arith

pub leads_next : (last : ℕ) (f : ℕ → ℕ) (v : ℕ) (cs : List ℕ) → Leads last f v cs → (i : ℕ) → i + 1 < length cs → f (get_or cs i 0) ≡ get_or cs (i + 1) 0
leads_next last f v [] p i h = absurd (omega arith)
leads_next last f v (d ∷ []) p i h = absurd (omega arith)
leads_next last f v (d ∷ (e ∷ es)) p zero h = p.2.0
leads_next last f v (d ∷ (e ∷ es)) p (suc i) h =
    leads_next last f (f d) (e ∷ es) p.2 i (omega arith)
    ∙ ap (λ (x : ℕ). get_or (e ∷ es) x 0) (one_more i) ∙ sym (ap (λ (x : ℕ). get_or (d ∷ (e ∷ es)) x 0) (one_more (suc i)))
