-- What the buffers hold after a visit: the marks of the chain, and for each cluster met twice how many are left.
use Prim.Native.Nat.{ℕ, zero, suc, ◌*◌, ◌-◌, ◌≤◌, ◌<◌}
use native.Mathlib.Omega.{arith}
use Rattle.std.proofs.Math.Decide.{ℕ_discrete}
use mathlib.Core.List.{List, [], ◌∷◌, ◌++◌}
use Rattle.std.specs.Prelude.{◌≢◌, ◌⊎◌, ◌≡◌, refl, length, set, replicate, Some, None, ℕ, Option}
use Rattle.std.proofs.Math.Logic.{inl, inr}
use Rattle.std.proofs.Math.Path.{sym, ap}
use Rattle.std.proofs.Common.{subst, ◌∙◌, length-append, Fits, get_or-set_other}
use Rattle.std.proofs.Math.ListN.{get_or, length-set}
use Rattle.std.proofs.lemmas.List.{get_or-replicate}
use Rattle.std.specs.Int.{w64}
use Rattle.std.proofs.Math.Seq.{get_or-set_same}
use Rattle.chains.specs.Aids.Chain.{Leads, Chain}
use Rattle.chains.specs.Lists.{◌∈◌}
use Rattle.chains.specs.Aids.Marks.{marks}
use Rattle.chains.specs.Aids.Sizes.{Geometry}
use Rattle.chains.specs.Values.{Link}
use Rattle.chains.proofs.Laws.Chain.{chain_length}
use Rattle.chains.proofs.Laws.Lists.{dec_mem, mem_append}
use Rattle.table.specs.Entries.{table_of}
use Rattle.walks.specs.Aids.Walks.{ValueIs, LeadsTo, Tails, WalkEnds, Walked, WalkedBy, left_stored, Visited}
use Rattle.walks.proofs.Laws.Paths.{leads_chain, chain_leads, mark_of, mark_unmet, marks_rising}

-- ---- in the beginning

pub tails_begin : (last : ℕ) (l : List ℕ) → last ≤ 4079 → Tails last (table_of last l) (replicate 4080 0) (replicate 4080 0)
tails_begin last l low = record {
  few = λ c k. omega (arith, none c k);
  rising = λ c k j. omega (arith, none c k);
  known = λ c k z. absurd (z (none c k));
  twice = λ c k z. absurd (omega (arith, none c k));
}
  where
    none : (c : ℕ) → Link last c → ◌≡◌ {A = ℕ} (get_or (replicate 4080 0) c 0) 0
    none c k = get_or-replicate {A = ℕ} 4080 c 0 0 (omega arith)

-- a cluster that leads to some is the first of them
leads_from : (last : ℕ) (f : ℕ → ℕ) (c n known : ℕ) → LeadsTo last f c n → known < n → Link last c × LeadsTo last f (f c) (n - 1)
leads_from last f c n known p h = go p.clusters p.leads p.long
  where
    go : (cs : List ℕ) → Leads last f c cs → length cs ≡ n → Link last c × LeadsTo last f (f c) (n - 1)
    go [] q e = absurd (omega arith)
    go (x ∷ xs) q e = (rw q.0 q.1, record { clusters = xs; leads = rw q.0 q.2; long = omega arith })

-- ---- the loop that stores how many are left

module _ (last : ℕ) (l : List ℕ) (c rest known : ℕ) (p : LeadsTo last (table_of last l) c rest) (h : known < rest) where
  pub store_from : 2 ≤ c
  store_from = (leads_from last (table_of last l) c rest known p h).0.0

  pub store_to : c ≤ last
  store_to = (leads_from last (table_of last l) c rest known p h).0.1

  pub store_at : last ≤ 4079 → Fits w64 (c * 2)
  store_at low = record { fits = omega (arith, store_to) }

  pub store_inside : (t t₀ : List ℕ) → length t ≡ length t₀ → last < length t₀ → c < length t
  store_inside t t₀ e big = omega (arith, store_to)

  pub store_on : (v : ℕ) → ValueIs last l c v → LeadsTo last (table_of last l) v (rest - 1)
  store_on v r = rw r.is (leads_from last (table_of last l) c rest known p h).1

module _ (last : ℕ) (l t : List ℕ) (c rest known : ℕ) (whole : List ℕ) (inv : left_stored (table_of last l) t c rest (rest - known) ≡ whole) where
  pub store_turn : (t' : List ℕ) (v : ℕ) → known < rest → t' ≡ set t c rest → ValueIs last l c v → left_stored (table_of last l) t' v (rest - 1) (rest - 1 - known) ≡ whole
  unfolding left_stored
  store_turn t' v h e r = let z : rest - known ≡ suc (rest - 1 - known) = omega arith in rw (e, r.is) (rw z at inv)

  pub store_end : rest ≤ known → t ≡ whole
  unfolding left_stored
  store_end h = let z : rest - known ≡ 0 = omega arith in rw z at inv

-- ---- what is stored

set_at : (t : List ℕ) (c n : ℕ) → c < length t → (a : ℕ) → ((a ≡ c) × (get_or (set t c n) a 0 ≡ n)) ⊎ ((a ≢ c) × (get_or (set t c n) a 0 ≡ get_or t a 0))
set_at t c n k a = elim (ℕ_discrete a c) [
  | yes e ↦ inl (e, rw e (get_or-set_same t c n 0 k))
  | no e ↦ inr (e, get_or-set_other t c a n 0 e)
]

module _ (last : ℕ) (f : ℕ → ℕ) where
  stored_kept : (k : ℕ) (t : List ℕ) (c n : ℕ) → last < length t → LeadsTo last f c n → k ≤ n → (a : ℕ) → get_or t a 0 ≢ 0 → get_or (left_stored f t c n k) a 0 ≢ 0
  unfolding left_stored
  stored_kept zero t c n big p h a d = d
  stored_kept (suc k) t c n big p h a d =
      let r = leads_from last f c n k p (omega arith) in
      stored_kept k (set t c n) (f c) (n - 1) (omega (arith, length-set t c n)) r.1 (omega arith) a (λ e. elim (set_at t c n (omega (arith, r.0)) a) [
        | inl q ↦ omega (arith, q.1)
        | inr q ↦ d (sym q.1 ∙ e)
      ])

  stored_known : (k : ℕ) (t : List ℕ) (c n : ℕ) → last < length t → LeadsTo last f c n → k ≤ n → ((a : ℕ) → Link last a → get_or t a 0 ≢ 0 → LeadsTo last f a (get_or t a 0))
      → (a : ℕ) → Link last a → get_or (left_stored f t c n k) a 0 ≢ 0 → LeadsTo last f a (get_or (left_stored f t c n k) a 0)
  unfolding left_stored
  stored_known zero t c n big p h w = w
  stored_known (suc k) t c n big p h w =
      let r = leads_from last f c n k p (omega arith) in
      stored_known k (set t c n) (f c) (n - 1) (omega (arith, length-set t c n)) r.1 (omega arith) (λ a j d. elim (set_at t c n (omega (arith, r.0)) a) [
        | inl q ↦ rw (q.1, q.0) p
        | inr q ↦ rw q.1 (w a j (λ e. d (q.1 ∙ e)))
      ])

  stored_done : (ps : List ℕ) (t : List ℕ) (c n : ℕ) → last < length t → LeadsTo last f c n → (tail : List ℕ) → Leads last f c (ps ++ tail) → length ps ≤ n → (a : ℕ) → a ∈ ps → get_or (left_stored f t c n (length ps)) a 0 ≢ 0
  unfolding left_stored
  stored_done [] t c n big p tail w h a m = absurd m
  stored_done (x ∷ xs) t c n big p tail w h a (inl e) =
      let r = leads_from last f c n (length xs) p (omega arith) in
      stored_kept (length xs) (set t c n) (f c) (n - 1) (omega (arith, length-set t c n)) r.1 (omega arith) a
      (λ z. omega (arith, get_or-set_same t c n 0 (omega (arith, r.0)), ap (λ (y : ℕ). get_or (set t c n) y 0) (w.0 ∙ sym e)))
  stored_done (x ∷ xs) t c n big p tail w h a (inr m) =
      let r = leads_from last f c n (length xs) p (omega arith) in
      stored_done xs (set t c n) (f c) (n - 1) (omega (arith, length-set t c n)) r.1 tail (rw w.0 w.2) (omega arith) a m

-- ---- a walk that has come to an end

module _ (last : ℕ) (f : ℕ → ℕ) (start : ℕ) (m t : List ℕ) (n known : ℕ) (m' : List ℕ) (w : WalkEnds last f start m t n known m') where
  abbrev all : List ℕ
  all = w.ahead ++ w.behind

  all_long : length all ≡ n
  all_long = length-append w.ahead w.behind ∙ w.long

  ends_leads : LeadsTo last f start n
  ends_leads = record { clusters = all; leads = w.leads; long = all_long }

  module _ (low : last ≤ 4079) (from : Link last start) where
    ends_chain : Chain last f start all
    ends_chain = leads_chain last f low start all from w.leads

    ends_few : n ≤ last
    ends_few =
        let G : Geometry = record { last = last; cb = 1; small = low; wide = omega arith } in
        omega (arith, chain_length G f start all ends_chain, all_long)

    module _ (T : Tails last f m t) (wide : last < length m) (big : last < length t) where
      abbrev t' : List ℕ
      t' = left_stored f t start n (n - known)

      kept : (c : ℕ) → get_or t c 0 ≢ 0 → get_or t' c 0 ≢ 0
      kept = stored_kept last f (n - known) t start n big ends_leads (omega arith)

      done : (c : ℕ) → c ∈ w.ahead → get_or t' c 0 ≢ 0
      done c i =
          let z : length w.ahead ≡ n - known = omega (arith, w.long, w.known_are) in
          rw z at (stored_done last f w.ahead t start n big ends_leads w.behind w.leads (omega (arith, w.long)) c i)

      twice_now : (c : ℕ) → Link last c → get_or (marks m all) c 0 ≡ 2 → get_or t' c 0 ≢ 0
      twice_now c k e = elim (dec_mem c all) [
        | yes i ↦ elim (mem_append c w.ahead w.behind i) [
          | inl a ↦ done c a
          | inr b ↦ kept c (w.twice_known c b (ap (λ (x : List ℕ). get_or x c 0) w.marks_are ∙ e))
        ]
        | no i ↦ kept c (T.twice c k (sym (mark_unmet last f low m t T wide all c k i) ∙ e))
      ]

      ends_tails : Tails last f (marks m all) t'
      ends_tails = record {
        few = λ c k. omega (arith, mark_of last f low m t T wide all c k);
        rising = marks_rising last f low m t T wide start all from w.leads;
        known = stored_known last f (n - known) t start n big ends_leads (omega arith) T.known;
        twice = twice_now;
      }

-- ---- the visit of a chain

module _ (last : ℕ) (l : List ℕ) (start : ℕ) (m t : List ℕ) where
  abbrev f : ℕ → ℕ
  f = table_of last l

  pub visit_empty : Tails last f m t → start ≡ 0 → Visited last f start m (Some 0) m t
  visit_empty T e = record { is = record { clusters = []; chain = e; long = refl; marks_are = unfold marks in refl; tails = T } }

  no_chain : start ≢ 0 → ¬ Link last start → Visited last f start m None m t
  no_chain d n = record { is = never }
    where
      never : (cs : List ℕ) → ¬ Chain last f start cs
      never [] p = d p
      never (x ∷ xs) p = n (rw p.0 p.1)

  pub visit_below : start ≢ 0 → start < 2 → Visited last f start m None m t
  visit_below d h = no_chain d (λ g. omega arith)

  pub visit_above : start ≢ 0 → last < start → Visited last f start m None m t
  visit_above d h = no_chain d (λ g. omega arith)

  -- r is what the walk answered, m' are the marks then
  module _ (r : Option (ℕ × ℕ)) (m' : List ℕ) (w : Walked last f start m t r m') (from : 2 ≤ start) (to : start ≤ last) (low : last ≤ 4079) where
    pub visit_endless : r ≡ None → Visited last f start m None m' t
    visit_endless e = record { is = λ cs p. subst (λ (k : Option (ℕ × ℕ)). WalkedBy last f start m t k m') e w.is cs (chain_leads last f low start cs (from, to) p) }

    module _ (n known : ℕ) (e : r ≡ Some (n, known)) where
      ends : WalkEnds last f start m t n known m'
      ends = subst (λ (k : Option (ℕ × ℕ)). WalkedBy last f start m t k m') e w.is

      pub walk_leads : LeadsTo last f start n
      walk_leads = ends_leads last f start m t n known m' ends

      pub walk_known : known ≤ n
      walk_known = omega (arith, ends.long, ends.known_are)

      pub walk_few : n ≤ last
      walk_few = ends_few last f start m t n known m' ends low (from, to)

      pub visit_ends : (t' : List ℕ) → Tails last f m t → last < length m → last < length t → t' ≡ left_stored f t start n (n - known) → Visited last f start m (Some n) m' t'
      visit_ends t' T wide big s = record {
        is = record {
          clusters = ends.ahead ++ ends.behind;
          chain = ends_chain last f start m t n known m' ends low (from, to);
          long = all_long last f start m t n known m' ends;
          marks_are = ends.marks_are;
          tails = rw (ends.marks_are, s) (ends_tails last f start m t n known m' ends low (from, to) T wide big);
        };
      }
