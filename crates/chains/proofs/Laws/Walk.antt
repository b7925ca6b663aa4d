-- A walk finds the chain, if there is one.
use Rattle.std.specs.Prelude.{ℕ, zero, suc, ◌-◌, ◌≤◌, ◌<◌, ◌≡◌, refl, Bool, true, false, List, [], ◌∷◌, eqb, length, Option, Some, None}
use Rattle.std.proofs.Common.{arith, ap, ◌∙◌, eqb-true, eq-eqb, ne_eqb}
use Rattle.chains.specs.Aids.Sizes.{Geometry}
use Rattle.chains.specs.Values.{Link, linkb, endb}
use Rattle.chains.specs.Aids.Chain.{Leads, After, Chain}
use Rattle.chains.specs.Aids.Walk.{onto, trail, walk}
use Rattle.chains.proofs.Laws.Tests.{says_true, true_says}
use Rattle.chains.proofs.Laws.Values.{link_no_end, says_end, says_link}
use Rattle.chains.proofs.Laws.Chain.{chain_length}

-- ---- the clauses of trail

trail_end : (G : Geometry) (f : ℕ → ℕ) (k v : ℕ) → endb v ≡ true → trail G.last f (suc k) v ≡ Some []
unfolding trail
trail_end G f k v e = rw (e, trail)

trail_link : (G : Geometry) (f : ℕ → ℕ) (k v : ℕ) → endb v ≡ false → linkb G.last v ≡ true → trail G.last f (suc k) v ≡ onto v (trail G.last f k (f v))
unfolding trail
trail_link G f k v e q = rw (e, q, trail)

onto_some : (v : ℕ) (o : Option (List ℕ)) (cs : List ℕ) → onto v o ≡ Some cs → (ds : List ℕ) × (o ≡ Some ds) × (cs ≡ v ∷ ds)
onto_some v None cs e = absurd (let z : ◌≡◌ {A = ℕ} 0 1 = cc in omega arith)
onto_some v (Some ds) cs e = (ds, refl, cc)

-- ---- a trail is what a value leads to

leads_trail : (G : Geometry) (f : ℕ → ℕ) (v : ℕ) (cs : List ℕ) (k : ℕ) → Leads G.last f v cs → length cs < k → trail G.last f k v ≡ Some cs
leads_trail G f v cs zero p l = absurd (omega arith)
leads_trail G f v [] (suc k) p l = trail_end G f k v (true_says (says_end v) p)
leads_trail G f v (x ∷ xs) (suc k) p l =
    rw p.0 (trail_link G f k x (link_no_end G x p.1) (true_says (says_link G.last x) p.1) ∙ ap (onto x) (leads_trail G f (f x) xs k p.2 (omega arith)))

trail_leads : (G : Geometry) (f : ℕ → ℕ) (k v : ℕ) (cs : List ℕ) → trail G.last f k v ≡ Some cs → Leads G.last f v cs
unfolding trail
trail_leads G f zero v cs e = absurd (let z : ◌≡◌ {A = ℕ} 0 1 = cc in omega arith)
trail_leads G f (suc k) v cs e = go (λ ds q. trail_leads G f k (f v) ds q) (endb v) (linkb G.last v) refl refl e
  where
    go : ((ds : List ℕ) → trail G.last f k (f v) ≡ Some ds → After G.last f v ds) → (a b : Bool) → endb v ≡ a → linkb G.last v ≡ b
        → (elim a as (λ _. Option (List ℕ)) [ true ↦ Some [] | false ↦ elim b as (λ _. Option (List ℕ)) [ true ↦ onto v (trail G.last f k (f v)) | false ↦ None ] ]) ≡ Some cs
        → Leads G.last f v cs
    go ih true b p q e = let z : cs ≡ [] = cc in rw z (says_true (says_end v) p)
    go ih false true p q e = let r = onto_some v (trail G.last f k (f v)) cs e in rw r.2 (refl, says_true (says_link G.last v) q, ih r.0 r.1)
    go ih false false p q e = absurd (let z : ◌≡◌ {A = ℕ} 0 1 = cc in omega arith)

-- ---- a walk is a chain

walk_zero : (G : Geometry) (f : ℕ → ℕ) (c : ℕ) → c ≡ 0 → walk G.last f c ≡ Some []
unfolding walk
walk_zero G f c e = rw (eq-eqb c 0 e, walk)

walk_link : (G : Geometry) (f : ℕ → ℕ) (c : ℕ) → Link G.last c → walk G.last f c ≡ onto c (trail G.last f G.last (f c))
unfolding walk
walk_link G f c l = rw (ne_eqb c 0 (omega arith), true_says (says_link G.last c) l, walk)

pub walk_chain : (G : Geometry) (f : ℕ → ℕ) (c : ℕ) (cs : List ℕ) → walk G.last f c ≡ Some cs → Chain G.last f c cs
unfolding walk
walk_chain G f c cs e = go (eqb c 0) (linkb G.last c) refl refl e
  where
    go : (a b : Bool) → eqb c 0 ≡ a → linkb G.last c ≡ b
        → (elim a as (λ _. Option (List ℕ)) [ true ↦ Some [] | false ↦ elim b as (λ _. Option (List ℕ)) [ true ↦ onto c (trail G.last f G.last (f c)) | false ↦ None ] ]) ≡ Some cs → Chain G.last f c cs
    go true b p q e = let z : cs ≡ [] = cc in rw z (eqb-true c 0 p)
    go false true p q e =
        let r = onto_some c (trail G.last f G.last (f c)) cs e in
        rw r.2 (refl, says_true (says_link G.last c) q, trail_leads G f G.last (f c) r.0 r.1)
    go false false p q e = absurd (let z : ◌≡◌ {A = ℕ} 0 1 = cc in omega arith)

pub chain_walk : (G : Geometry) (f : ℕ → ℕ) (c : ℕ) (cs : List ℕ) → Chain G.last f c cs → walk G.last f c ≡ Some cs
chain_walk G f c [] p = walk_zero G f c p
chain_walk G f c (x ∷ xs) p =
    let k : length (x ∷ xs) ≤ G.last - 1 = chain_length G f c (x ∷ xs) p in
    rw p.0 (walk_link G f x p.1 ∙ ap (onto x) (leads_trail G f (f x) xs G.last p.2 (omega arith)))
