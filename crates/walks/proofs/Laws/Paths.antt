-- Paths along a chain, and the marks of its clusters.
use Rattle.std.specs.Prelude.{ℕ, ◌+◌, ◌≤◌, ◌<◌, min, List, [], ◌∷◌, ◌++◌, ◌≡◌, refl, length, get_or}
use Rattle.std.proofs.Common.{arith, inl, inr, sym, ap, subst, ◌∙◌}
use Rattle.chains.specs.Aids.Chain.{Leads, Chain}
use Rattle.chains.specs.Lists.{◌∈◌}
use Rattle.chains.specs.Aids.Lists.{occ}
use Rattle.chains.specs.Aids.Marks.{marks}
use Rattle.chains.specs.Aids.Sizes.{Geometry}
use Rattle.chains.specs.Values.{Link}
use Rattle.chains.proofs.Laws.Chain.{chain_once}
use Rattle.chains.proofs.Laws.Lists.{dec_mem, mem_occ, occ_append, occ_not}
use Rattle.chains.proofs.Laws.Marks.{marks_at}
use Rattle.walks.specs.Aids.Walks.{Path, Tails}

-- ---- paths

module _ (last : ℕ) (f : ℕ → ℕ) where
  pub path_on : (v c : ℕ) (ps : List ℕ) → Path last f v ps c → Link last c → Path last f v (ps ++ (c ∷ [])) (f c)
  path_on v c [] p l = (p, l, refl)
  path_on v c (d ∷ ds) p l = (p.0, p.1, path_on (f d) c ds p.2 l)

  pub path_leads : (v c : ℕ) (ps ds : List ℕ) → Path last f v ps c → Leads last f c ds → Leads last f v (ps ++ ds)
  path_leads v c [] ds p q = rw p q
  path_leads v c (d ∷ ps) ds p q = (p.0, p.1, path_leads (f d) c ps ds p.2 q)

  pub path_head : (v c : ℕ) (ps : List ℕ) → Path last f v ps c → Link last c → Link last v × (v ∈ (ps ++ (c ∷ [])))
  path_head v c [] p l = (rw p l, inl p)
  path_head v c (d ∷ ds) p l = (rw p.0 p.1, inl p.0)

  -- along a path the marks do not fall
  pub path_rising : (m : List ℕ) → ((c : ℕ) → Link last c → Link last (f c) → get_or m c 0 ≤ get_or m (f c) 0)
      → (v c : ℕ) (ps : List ℕ) → Path last f v ps c → Link last c → (x : ℕ) → x ∈ (ps ++ (c ∷ [])) → get_or m x 0 ≤ get_or m c 0
  path_rising m r v c [] p l x (inl e) = omega (arith, ap (λ (y : ℕ). get_or m y 0) e)
  path_rising m r v c [] p l x (inr k) = absurd k
  path_rising m r v c (d ∷ ds) p l x (inl e) =
      let h = path_head (f d) c ds p.2 l in
      omega (arith, ap (λ (y : ℕ). get_or m y 0) e, r d p.1 h.0, path_rising m r (f d) c ds p.2 l (f d) h.1)
  path_rising m r v c (d ∷ ds) p l x (inr k) = path_rising m r (f d) c ds p.2 l x k

-- ---- on a volume, where no link is an end

module _ (last : ℕ) (f : ℕ → ℕ) (low : last ≤ 4079) where
  abbrev G : Geometry
  G = record { last = last; cb = 1; small = low; wide = omega arith }

  pub leads_chain : (v : ℕ) (cs : List ℕ) → Link last v → Leads last f v cs → Chain last f v cs
  leads_chain v [] l p = absurd (omega arith)
  leads_chain v (x ∷ xs) l p = p

  pub chain_leads : (v : ℕ) (cs : List ℕ) → Link last v → Chain last f v cs → Leads last f v cs
  chain_leads v [] l p = absurd (omega arith)
  chain_leads v (x ∷ xs) l p = p

  -- a chain goes over a path from its start
  pub path_split : (v c : ℕ) (ps cs : List ℕ) → Link last c → Path last f v ps c → Leads last f v cs → (ds : List ℕ) × (cs ≡ ps ++ (c ∷ ds)) × Leads last f (f c) ds
  path_split v c [] [] l p q = absurd (omega arith)
  path_split v c [] (x ∷ xs) l p q =
      let e : x ≡ c = sym q.0 ∙ p in
      (xs, cc, subst (λ (y : ℕ). Leads last f (f y) xs) e q.2)
  path_split v c (d ∷ ds) [] l p q = absurd (omega arith)
  path_split v c (d ∷ ds) (x ∷ xs) l p q =
      let e : x ≡ d = sym q.0 ∙ p.0 in
      let r = path_split (f d) c ds xs l p.2 (subst (λ (y : ℕ). Leads last f (f y) xs) e q.2) in
      (r.0, cc (e, r.1), r.2)

  -- and over no cluster twice
  pub path_once : (v c : ℕ) (ps ds : List ℕ) → Link last v → Leads last f v (ps ++ (c ∷ ds)) → ¬ (c ∈ ps)
  path_once v c ps ds l p m =
      omega (arith, chain_once G f v (ps ++ (c ∷ ds)) (leads_chain v (ps ++ (c ∷ ds)) l p) c, occ_append c ps (c ∷ ds), mem_occ c ps m, mem_occ c (c ∷ ds) (inl refl))

  leads_next : (v : ℕ) (cs : List ℕ) → Leads last f v cs → (c : ℕ) → c ∈ cs → Link last (f c) → f c ∈ cs
  leads_next v [] p c m l = absurd m
  leads_next v (x ∷ []) p c (inl e) l = absurd (omega (arith, ap f e))
  leads_next v (x ∷ (y ∷ ys)) p c (inl e) l = inr (inl (ap f e ∙ p.2.0))
  leads_next v (x ∷ xs) p c (inr m) l = inr (leads_next (f x) xs p.2 c m l)

  -- ---- the marks of a chain

  module _ (m t : List ℕ) (T : Tails last f m t) (big : last < length m) where
    pub mark_of : (cs : List ℕ) (c : ℕ) → Link last c → get_or (marks m cs) c 0 ≡ min 2 (get_or m c 0 + occ c cs)
    mark_of cs c l = marks_at m cs c (get_or m c 0) (omega arith) (omega (arith, T.few c l))

    pub mark_unmet : (cs : List ℕ) (c : ℕ) → Link last c → ¬ (c ∈ cs) → get_or (marks m cs) c 0 ≡ get_or m c 0
    mark_unmet cs c l n = omega (arith, mark_of cs c l, T.few c l, occ_not c cs n)

    pub marks_rising : (v : ℕ) (cs : List ℕ) → Link last v → Leads last f v cs → (c : ℕ) → Link last c → Link last (f c) → get_or (marks m cs) c 0 ≤ get_or (marks m cs) (f c) 0
    marks_rising v cs a p c l k = elim (dec_mem c cs) [
      | yes h ↦ omega (arith, mark_of cs c l, mark_of cs (f c) k, T.rising c l k, chain_once G f v cs (leads_chain v cs a p) c, mem_occ (f c) cs (leads_next v cs p c h k))
      | no h ↦ omega (arith, mark_of cs c l, mark_of cs (f c) k, T.rising c l k, occ_not c cs h)
    ]

    -- behind a cluster that was met twice all were
    pub tail_twice : (ds : List ℕ) (c : ℕ) → Link last c → Leads last f (f c) ds → get_or m c 0 ≡ 2 → (x : ℕ) → x ∈ (c ∷ ds) → Link last x × (get_or m x 0 ≡ 2)
    tail_twice [] c l p e x (inl q) = rw q (l, e)
    tail_twice [] c l p e x (inr k) = absurd k
    tail_twice (d ∷ ds) c l p e x (inl q) = rw q (l, e)
    tail_twice (d ∷ ds) c l p e x (inr k) =
        let a : f c ≡ d = p.0 in
        let r : get_or m c 0 ≤ get_or m d 0 = rw a at (T.rising c l (rw a p.1)) in
        tail_twice ds d p.1 p.2 (omega (arith, T.few d p.1)) x k
