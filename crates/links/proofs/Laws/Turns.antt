-- The turns of the loops, in the shape of their needs: whole is what a loop shall come to.
use Prim.Native.Nat.{ℕ, zero, suc, ◌+◌, ◌-◌, ◌≤◌, ◌<◌}
use native.Mathlib.Omega.{arith}
use Rattle.std.proofs.Math.Decide.{ℕ_discrete, dec_le}
use Rattle.std.specs.Prelude.{cond, List, [], ◌∷◌, Option, Some, None, MatchOption, unwrap_or, ◌⊎◌, ◌≢◌, ◌≡◌, eqb, length, get_or, take}
use Rattle.std.proofs.Common.{inl, inr, ◌∙◌}
use Rattle.std.proofs.Math.Bool.{and-false}
use Rattle.std.proofs.Math.Path.{refl, sym, ap}
use borrow.Author.Tests.{le-leb, lt-leb, eq-eqb, ne_eqb}
use Rattle.chains.specs.Values.{linkb}
use Rattle.chains.specs.Free.{free_from, free_clusters}
use Rattle.chains.proofs.Laws.FreeTurns as free
use Rattle.table.specs.Entries.{entry_of, set_both, table_of}
use Rattle.table.specs.Aids.Copies.{Reaches}
use Rattle.table.proofs.Laws.View.{table_inside}
use Rattle.links.specs.Aids.Freed.{freed_from}
use Rattle.links.specs.Linked.{linked_to}
use Rattle.links.specs.Aids.Linked.{new_clusters, next_free, linked_from, first_from, Added}

down : (n : ℕ) → 0 < n → n ≡ suc (n - 1)
down n h = omega arith

-- an image as long as before holds the same entries
pub reaches_long : (second : ℕ) (l m : List ℕ) (last c : ℕ) → Reaches second l last → length m ≡ length l → c ≤ last → Reaches second m c
reaches_long second l m last c r e h = record { low = omega arith; high = omega arith }

-- ---- a chain freed: i of its n clusters are done

module _ (second last : ℕ) (l : List ℕ) (n i c : ℕ) (whole : List ℕ) (inv : freed_from second last l (n - i) c ≡ whole) (h : i < n) where
  freed_once : freed_from second last l (n - i) c ≡ cond (linkb last c) (freed_from second last (set_both second l c 0) (n - (i + 1)) (entry_of l c)) l
  unfolding freed_from
  freed_once = let e : n - i ≡ suc (n - (i + 1)) = omega arith in ap (λ (k : ℕ). freed_from second last l k c) e

  pub freed_stops : (c < 2) ⊎ (last < c) → l ≡ whole
  unfolding linkb
  freed_stops (inl p) = sym (freed_once ∙ rw (lt-leb 2 c p)) ∙ inv
  freed_stops (inr p) = sym (freed_once ∙ rw (lt-leb c last p, and-false)) ∙ inv

  pub freed_turn : (m : List ℕ) (e : ℕ) → m ≡ set_both second l c 0 → e ≡ entry_of l c → 2 ≤ c → c ≤ last → freed_from second last m (n - (i + 1)) e ≡ whole
  unfolding linkb
  freed_turn m e r s p q = rw (r, s) (sym (freed_once ∙ rw (le-leb 2 c p, le-leb c last q)) ∙ inv)

pub freed_end : (second last : ℕ) (l : List ℕ) (n i c : ℕ) (whole : List ℕ) → freed_from second last l (n - i) c ≡ whole → n ≤ i → l ≡ whole
unfolding freed_from
freed_end second last l n i c whole inv h = let e : n - i ≡ 0 = omega arith in rw e at inv

-- ---- the search for a free cluster

module _ (last : ℕ) (l : List ℕ) where
  next_hit : (c : ℕ) → 2 ≤ c → c ≤ last → entry_of l c ≡ 0 → c ≡ next_free last l c
  unfolding next_free
  next_hit c h k z = free.lowest_hit (table_of last l) last c 0 (next_free last l c) k (sym (table_inside last l c h k ∙ z)) refl refl

  -- none of k clusters is free
  next_behind : (k c : ℕ) → 2 ≤ c → c + k ≤ last + 1 → ((j : ℕ) → c ≤ j → j < c + k → entry_of l j ≢ 0) → next_free last l (c + k) ≡ next_free last l c
  unfolding next_free
  next_behind zero c h f taken = let e : c + 0 ≡ c = omega arith in rw e
  next_behind (suc k) c h f taken =
      let e : c + suc k ≡ c + 1 + k = omega arith in
      let one : next_free last l (c + 1) ≡ next_free last l c =
      free.lowest_miss (table_of last l) last c (entry_of l c) (next_free last l c) (omega arith) (sym (table_inside last l c h (omega arith))) (taken c (omega arith) (omega arith)) refl in
      rw e (next_behind k (c + 1) (omega arith) (omega arith) (λ j a b. taken j (omega arith) (omega arith)) ∙ one)

  next_none : (c : ℕ) → last < c → 0 ≡ next_free last l c
  unfolding next_free
  next_none c h = free.lowest_end (table_of last l) last c (next_free last l c) h refl

  pub next_found : (c : ℕ) (r : Option ℕ) → 2 ≤ c
      → MatchOption r ((k : ℕ) → c ≤ k → k < last + 1 → entry_of l k ≢ 0) (λ i. (c ≤ i) × (i < last + 1) × (entry_of l i ≡ 0) × ((k : ℕ) → c ≤ k → k < i → entry_of l k ≢ 0))
      → unwrap_or r 0 ≡ next_free last l c
  next_found c (Some i) h w =
      let e : c + (i - c) ≡ i = omega (arith, w.0) in
      next_hit i (omega (arith, w.0)) (omega (arith, w.1)) w.2 ∙ (rw e at (next_behind (i - c) c h (omega (arith, w.0, w.1)) (λ j a b. w.3 j a (omega (arith, w.0)))))
  next_found c None h w = elim (dec_le c last) [
    | no d ↦ next_none c (omega arith)
    | yes d ↦
        let e : c + (last + 1 - c) ≡ last + 1 = omega arith in
        next_none (last + 1) (omega arith) ∙ (rw e at (next_behind (last + 1 - c) c h (omega arith) (λ j a b. w j a (omega arith))))
  ]

-- ---- clusters added

module _ (second : ℕ) (l : List ℕ) (prev d : ℕ) where
  pub link_first : (m : List ℕ) → m ≡ set_both second l d 0xFFF → prev ≡ 0 → m ≡ linked_to second l prev d
  unfolding linked_to
  link_first m e z = rw (eq-eqb prev 0 z) e

  pub link_behind : (m k : List ℕ) → m ≡ set_both second l d 0xFFF → prev ≢ 0 → k ≡ set_both second m prev d → k ≡ linked_to second l prev d
  unfolding linked_to
  link_behind m k e z g = rw (ne_eqb prev 0 z) (rw e at g)

module _ (second last : ℕ) (l : List ℕ) (prev c n : ℕ) (whole : List ℕ) (inv : linked_from second last l prev c n ≡ whole) where
  pub linked_end : n ≤ 0 → l ≡ whole
  unfolding linked_from
  linked_end h = let e : n ≡ 0 = omega arith in rw e at inv

  module _ (h : 0 < n) (d : ℕ) (r : d ≡ next_free last l c) where
    linked_once : linked_from second last l prev c n ≡ cond (eqb d 0) l (linked_from second last (linked_to second l prev d) d (d + 1) (n - 1))
    unfolding linked_from
    linked_once = rw r (ap (linked_from second last l prev c) (down n h))

    pub linked_none : d ≡ 0 → l ≡ whole
    linked_none z = sym (linked_once ∙ rw (eq-eqb d 0 z)) ∙ inv

    pub linked_turn : d ≢ 0 → (m : List ℕ) → m ≡ linked_to second l prev d → linked_from second last m d (d + 1) (n - 1) ≡ whole
    linked_turn z m e = rw e (sym (linked_once ∙ rw (ne_eqb d 0 z)) ∙ inv)

-- ---- the first of them

-- the first of some of a list is that of the list
start_take : (n : ℕ) (ds : List ℕ) → 0 < n → get_or (take n ds) 0 0 ≡ get_or ds 0 0
start_take zero ds h = absurd (omega arith)
start_take (suc n) [] h = refl
start_take (suc n) (d ∷ ds) h = refl

module _ (last : ℕ) (l : List ℕ) (n : ℕ) where
  pub first_all : first_from 0 last l 2 n ≡ get_or (new_clusters last l n) 0 0
  unfolding first_from free_clusters
  first_all = let z : last + 1 - 2 ≡ last - 1 = omega arith in rw z refl

module _ (first last : ℕ) (l : List ℕ) (c n whole : ℕ) (inv : first_from first last l c n ≡ whole) where
  -- a first one stays
  first_found : first ≢ 0 → first ≡ whole
  unfolding first_from
  first_found z = rw (ne_eqb first 0 z) at inv

  -- where none was found before, it is the next one
  first_next : first ≡ 0 → 0 < n → next_free last l c ≡ whole
  unfolding first_from next_free
  first_next z h = sym (start_take n (free_from (table_of last l) (last + 1 - c) c) h) ∙ (rw (eq-eqb first 0 z) at inv)

  pub first_end : n ≤ 0 → first ≡ whole
  unfolding first_from
  first_end h = elim (ℕ_discrete first 0) [
    | yes z ↦ z ∙ (let e : n ≡ 0 = omega arith in rw (eq-eqb first 0 z, e) at inv)
    | no z ↦ first_found z
  ]

  pub first_none : 0 < n → (d : ℕ) → d ≡ next_free last l c → d ≡ 0 → first ≡ whole
  first_none h d r e = elim (ℕ_discrete first 0) [
    | yes z ↦ z ∙ sym e ∙ r ∙ first_next z h
    | no z ↦ first_found z
  ]

  -- the next turn, from a first one that is there
  later : (first' : ℕ) (m : List ℕ) (c' n' : ℕ) → first' ≢ 0 → first' ≡ whole → first_from first' last m c' n' ≡ whole
  unfolding first_from
  later first' m c' n' z e = rw (ne_eqb first' 0 z) e

  pub first_kept : first ≢ 0 → (first' : ℕ) → first' ≡ first → (m : List ℕ) (c' n' : ℕ) → first_from first' last m c' n' ≡ whole
  first_kept z first' e m c' n' = later first' m c' n' (λ y. z (sym e ∙ y)) (e ∙ first_found z)

  pub first_set : first ≡ 0 → 0 < n → (d : ℕ) → d ≡ next_free last l c → d ≢ 0 → (first' : ℕ) → first' ≡ d → (m : List ℕ) (c' n' : ℕ) → first_from first' last m c' n' ≡ whole
  first_set z h d r y first' e m c' n' = later first' m c' n' (λ x. y (sym e ∙ x)) (e ∙ r ∙ first_next z h)

-- ---- both together

module _ (second last : ℕ) (l₀ : List ℕ) (prev₀ n₀ : ℕ) (first : ℕ) (l : List ℕ) (prev c n : ℕ)
    (image : linked_from second last l prev c n ≡ linked_from second last l₀ prev₀ 2 n₀) (answer : first_from first last l c n ≡ get_or (new_clusters last l₀ n₀) 0 0) where
  pub added_none : 0 < n → 0 ≡ next_free last l c → Added second last l₀ prev₀ n₀ first l
  added_none h r = record { first = first_none first last l c n _ answer h 0 r refl; image = linked_none second last l prev c n _ image h 0 r refl }

  pub added_end : n ≤ 0 → Added second last l₀ prev₀ n₀ first l
  added_end h = record { first = first_end first last l c n _ answer h; image = linked_end second last l prev c n _ image h }
