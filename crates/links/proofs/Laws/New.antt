-- The clusters that the loop takes one by one, going on from the last one found, are the lowest free ones.
use Prim.Native.Nat.{ℕ, zero, suc, ◌+◌, ◌-◌, ◌≤◌, ◌<◌}
use native.Mathlib.Omega.{arith}
use Rattle.std.proofs.Math.Decide.{ℕ_discrete}
use mathlib.Core.List.{List, [], ◌∷◌}
use Rattle.std.specs.Prelude.{◌↔◌, ◌≢◌, ◌≡◌, length}
use Rattle.std.proofs.Common.{inl, inr, ◌∙◌, length-take-le}
use Rattle.std.proofs.Math.Path.{refl, sym, ap}
use Rattle.std.proofs.Math.ListN.{get_or, take}
use Rattle.chains.specs.Aids.Put.{put}
use Rattle.chains.specs.Values.{Link, freeb, value_count}
use Rattle.chains.specs.Free.{free_from, free_clusters}
use Rattle.chains.specs.Aids.Free.{Takable}
use Rattle.chains.proofs.Laws.Put.{put_same, put_other, put_cases}
use Rattle.chains.proofs.Laws.Free.{free_nil, free_yes, free_no, free_same, free_length, lowest_takable}
use Rattle.table.specs.Entries.{table_of}
use Rattle.links.specs.Linked.{linked_to, linked}
use Rattle.links.specs.Aids.Linked.{new_clusters, Behind, next_free, linked_from}
use Rattle.links.specs.Aids.Leaves.{HasTable}
use Rattle.links.proofs.Laws.Table.{geometry, holds_linked, table_first, table_behind}
use Rattle.links.proofs.Laws.Turns.{linked_none, linked_turn}

-- ---- the head of a list of free clusters, and what is behind it

record Head (f : ℕ → ℕ) (n c d : ℕ) (ds : List ℕ) : Type 0 where
  from : c ≤ d
  to : d < c + n
  rest : free_from f (c + n - (d + 1)) (d + 1) ≡ ds

head_of : (f : ℕ → ℕ) (n c d : ℕ) (ds : List ℕ) → free_from f n c ≡ d ∷ ds → Head f n c d ds
head_of f zero c d ds e = absurd (let z : ◌≡◌ {A = ℕ} 0 1 = cc (free_nil f c) in omega arith)
head_of f (suc n) c d ds e = elim (ℕ_discrete (f c) 0) [
  | yes z ↦
      let p : c ∷ free_from f n (suc c) ≡ d ∷ ds = sym (free_yes f n c z) ∙ e in
      let q : c ≡ d = cc in
      let r : free_from f n (suc c) ≡ ds = cc in
      let i : c + suc n - (d + 1) ≡ n = omega arith in
      let j : d + 1 ≡ suc c = omega arith in
      record { from = omega arith; to = omega arith; rest = rw (i, j) r }
  | no z ↦
      let r = head_of f n (suc c) d ds (sym (free_no f n c z) ∙ e) in
      let i : c + suc n ≡ suc c + n = omega arith in
      record { from = omega (arith, r.from); to = omega (arith, r.to); rest = rw i r.rest }
]

-- ---- one turn

module _ (second last : ℕ) (l : List ℕ) (holds : HasTable second last l) (prev d : ℕ) (b : Behind last (table_of last l) prev) (h : Link last d) where
  -- the new cluster is not free then
  pub new_used : table_of last (linked_to second l prev d) d ≢ 0
  new_used = elim b [
    | inl z ↦ λ e. omega (arith, put_same (table_of last l) d 0xFFF d refl, ap (λ (f : ℕ → ℕ). f d) (table_first second last l holds prev d h z))
    | inr p ↦ elim (put_cases (put (table_of last l) d 0xFFF) prev d d) [
      | inl q ↦ λ e. omega (arith, q.1, ap (λ (f : ℕ → ℕ). f d) (table_behind second last l holds prev d h p.0))
      | inr q ↦ λ e. omega (arith, q.1, put_same (table_of last l) d 0xFFF d refl, ap (λ (f : ℕ → ℕ). f d) (table_behind second last l holds prev d h p.0))
    ]
  ]

  -- and no other cluster is free or taken for it
  still_free : (a : ℕ) → d + 1 ≤ a → (table_of last (linked_to second l prev d) a ≡ 0) ↔ (table_of last l a ≡ 0)
  still_free a k = elim b [
    | inl z ↦ same (ap (λ (f : ℕ → ℕ). f a) (table_first second last l holds prev d h z) ∙ apart)
    | inr p ↦ let t = ap (λ (f : ℕ → ℕ). f a) (table_behind second last l holds prev d h p.0) in elim (put_cases (put (table_of last l) d 0xFFF) prev d a) [
      | inl q ↦ (λ e. absurd (omega (arith, t, q.1)), λ e. absurd (p.1 (ap (table_of last l) (sym q.0) ∙ e)))
      | inr q ↦ same (t ∙ q.1 ∙ apart)
    ]
  ]
    where
      same : table_of last (linked_to second l prev d) a ≡ table_of last l a → (table_of last (linked_to second l prev d) a ≡ 0) ↔ (table_of last l a ≡ 0)
      same e = (λ z. sym e ∙ z, λ z. e ∙ z)

      apart : put (table_of last l) d 0xFFF a ≡ table_of last l a
      apart = put_other (table_of last l) d 0xFFF a (omega arith)

-- ---- the loop

module _ (second last : ℕ) where
  from_linked : (n : ℕ) (l : List ℕ) (prev c : ℕ) → HasTable second last l → Behind last (table_of last l) prev → 2 ≤ c
      → linked_from second last l prev c n ≡ linked second l prev (take n (free_from (table_of last l) (last + 1 - c) c))
  from_linked zero l prev c holds b h = unfold linked_from linked in refl
  from_linked (suc n) l prev c holds b h = by (λ m d. from_linked n m d (d + 1)) (free_from (table_of last l) (last + 1 - c) c) refl
    where
      by : ((m : List ℕ) (d : ℕ) → HasTable second last m → Behind last (table_of last m) d → 2 ≤ d + 1 → linked_from second last m d (d + 1) n ≡ linked second m d (take n (free_from (table_of last m) (last + 1 - (d + 1)) (d + 1))))
          → (ds : List ℕ) → free_from (table_of last l) (last + 1 - c) c ≡ ds → linked_from second last l prev c (suc n) ≡ linked second l prev (take (suc n) ds)
      by later [] e =
          let z : 0 ≡ next_free last l c = unfold next_free in sym (ap (λ (cs : List ℕ). get_or cs 0 0) e) in
          let y : linked second l prev [] ≡ l = unfold linked in refl in
          sym (y ∙ linked_none second last l prev c (suc n) _ refl (omega arith) 0 z refl)
      by later (d ∷ ds) e =
          let r = head_of (table_of last l) (last + 1 - c) c d ds e in
          let g : Link last d = (omega (arith, r.from), omega (arith, r.from, r.to)) in
          let m = linked_to second l prev d in
          let z : d ≡ next_free last l c = unfold next_free in sym (ap (λ (cs : List ℕ). get_or cs 0 0) e) in
          let i : c + (last + 1 - c) - (d + 1) ≡ last + 1 - (d + 1) = omega arith in
          let t : free_from (table_of last m) (last + 1 - (d + 1)) (d + 1) ≡ ds
          = free_same (table_of last l) (table_of last m) (last + 1 - (d + 1)) (d + 1) (still_free second last l holds prev d b g) ∙ (rw i at r.rest) in
          let y : linked second l prev (d ∷ take n ds) ≡ linked second m d (take n ds) = unfold linked in refl in
          let j : suc n - 1 ≡ n = omega arith in
          sym (linked_turn second last l prev c (suc n) _ refl (omega arith) d z (omega arith) m refl)
          ∙ ap (linked_from second last m d (d + 1)) j
          ∙ later m d (holds_linked second last l holds prev d) (inr (g, new_used second last l holds prev d b g)) (omega arith)
          ∙ ap (λ (xs : List ℕ). linked second m d (take n xs)) t
          ∙ sym y

  pub added_linked : (l : List ℕ) (prev n : ℕ) → HasTable second last l → Behind last (table_of last l) prev → linked_from second last l prev 2 n ≡ linked second l prev (new_clusters last l n)
  unfolding free_clusters
  added_linked l prev n holds b =
      let z : last + 1 - 2 ≡ last - 1 = omega arith in
      rw z at (from_linked n l prev 2 holds b (omega arith))

-- they may be taken, and there are as many as are needed where so many are free
pub new_takable : (last : ℕ) (l : List ℕ) (n : ℕ) → last ≤ 4079 → Takable last (table_of last l) (new_clusters last l n)
new_takable last l n s = lowest_takable (geometry last s) (table_of last l) n

pub new_length : (last : ℕ) (l : List ℕ) (n : ℕ) → last ≤ 4079 → n ≤ value_count freeb last (table_of last l) → length (new_clusters last l n) ≡ n
new_length last l n s h = length-take-le n (free_clusters last (table_of last l)) (omega (arith, free_length (geometry last s) (table_of last l)))
