-- Along a chain all its clusters are freed, and no others: the table gives the chain back.
use Prim.Native.Nat.{ℕ, zero, suc, ◌≤◌}
use Rattle.std.proofs.Common.{arith, inl, inr, sym, subst, ◌∙◌}
use Rattle.std.proofs.Math.Decide.{ℕ_discrete}
use mathlib.Core.List.{List, [], ◌∷◌}
use Rattle.std.specs.Prelude.{◌≡◌, length}
use Rattle.std.proofs.Math.Path.{refl, ap}
use Rattle.chains.specs.Aids.Put.{put}
use Rattle.chains.specs.Lists.{◌∈◌}
use Rattle.chains.specs.Values.{Link}
use Rattle.chains.specs.Aids.Chain.{Leads, Chain}
use Rattle.chains.specs.Aids.Growth.{released}
use Rattle.chains.proofs.Laws.Tests.{false_says, true_says}
use Rattle.chains.proofs.Laws.Values.{says_link}
use Rattle.chains.proofs.Laws.Put.{put_same, put_other}
use Rattle.chains.proofs.Laws.Lists.{dec_mem, mem_occ}
use Rattle.chains.proofs.Laws.Chain.{after_fresh, chain_frame}
use Rattle.chains.proofs.Laws.Growth.{released_in, released_out}
use Rattle.table.specs.Entries.{set_both, table_of}
use Rattle.table.proofs.Laws.View.{table_inside}
use Rattle.links.specs.Freed.{freed}
use Rattle.links.specs.Aids.Freed.{freed_from}
use Rattle.links.specs.Aids.Leaves.{HasTable}
use Rattle.links.proofs.Laws.Table.{geometry, holds_set, table_set}

-- ---- the loop frees the chain

-- a table that agrees on the clusters leads to them too
leads_kept : (last : ℕ) → last ≤ 4079 → (f g : ℕ → ℕ) (v : ℕ) (cs : List ℕ) → ((a : ℕ) → a ∈ cs → g a ≡ f a) → Leads last f v cs → Leads last g v cs
leads_kept last s f g v [] e p = p
leads_kept last s f g v (x ∷ xs) e p = chain_frame (geometry last s) f g v (x ∷ xs) e p

module _ (second last : ℕ) where
  freed_link : (l : List ℕ) (n c : ℕ) → Link last c → freed_from second last l (suc n) c ≡ freed_from second last (set_both second l c 0) n (table_of last l c)
  unfolding freed_from
  freed_link l n c h = rw (true_says (says_link last c) h, table_inside last l c h.0 h.1)

  -- a value that is no cluster's number ends it
  freed_stops : (l : List ℕ) (n v : ℕ) → ¬ Link last v → freed_from second last l n v ≡ l
  unfolding freed_from
  freed_stops l zero v e = refl
  freed_stops l (suc n) v e = rw (false_says (says_link last v) e)

  -- n is the length of the chain or more
  leads_freed : (cs : List ℕ) (l : List ℕ) (v n : ℕ) → HasTable second last l → Leads last (table_of last l) v cs → length cs ≤ n → freed_from second last l n v ≡ freed second l cs
  leads_freed [] l v n holds p h = freed_stops l n v (λ q. omega (arith, holds.small)) ∙ (unfold freed in refl)
  leads_freed (x ∷ xs) l v zero holds p h = absurd (omega arith)
  leads_freed (x ∷ xs) l v (suc n) holds p h =
      let m = set_both second l x 0 in
      let fresh : ¬ (x ∈ xs) = λ i. omega (arith, after_fresh (geometry last holds.small) (table_of last l) x xs p.2, mem_occ x xs i) in
      let same : (a : ℕ) → a ∈ xs → table_of last m a ≡ table_of last l a
      = λ a i. ap (λ (f : ℕ → ℕ). f a) (table_set second last l holds x 0 p.1 (omega arith)) ∙ put_other (table_of last l) x 0 a (λ e. fresh (subst (λ (b : ℕ). b ∈ xs) e i)) in
      ap (freed_from second last l (suc n)) p.0
      ∙ freed_link l n x p.1
      ∙ leads_freed xs m (table_of last l x) n (holds_set second last l holds x 0) (leads_kept last holds.small (table_of last l) (table_of last m) (table_of last l x) xs same p.2) (omega arith)
      ∙ (unfold freed in refl)

  pub chain_freed_lem : (l : List ℕ) (start : ℕ) (cs : List ℕ) (n : ℕ) → HasTable second last l → Chain last (table_of last l) start cs → length cs ≤ n → freed_from second last l n start ≡ freed second l cs
  chain_freed_lem l start [] n holds p h = freed_stops l n start (λ q. omega arith) ∙ (unfold freed in refl)
  chain_freed_lem l start (x ∷ xs) n holds p h = leads_freed (x ∷ xs) l start n holds p h

-- ---- the table then

-- a 0 put first or last is the same
released_put : (f : ℕ → ℕ) (c : ℕ) (cs : List ℕ) (a : ℕ) → released (put f c 0) cs a ≡ released f (c ∷ cs) a
unfolding released
released_put f c cs a = elim (dec_mem a cs) [
  | yes m ↦ released_in (put f c 0) cs a m ∙ sym (released_in f (c ∷ cs) a (inr m))
  | no n ↦ released_out (put f c 0) cs a n ∙ elim (ℕ_discrete a c) [
    | yes e ↦ put_same f c 0 a e ∙ sym (released_in f (c ∷ cs) a (inl e))
    | no k ↦ put_other f c 0 a k ∙ sym (released_out f (c ∷ cs) a (λ i. elim i [ inl e ↦ k e | inr j ↦ n j ]))
  ]
]

module _ (second last : ℕ) where
  freed_at : (cs : List ℕ) (l : List ℕ) → HasTable second last l → ((c : ℕ) → c ∈ cs → Link last c) → (a : ℕ) → table_of last (freed second l cs) a ≡ released (table_of last l) cs a
  freed_at [] l holds r a = unfold freed released in refl
  freed_at (c ∷ cs) l holds r a =
      let one : freed second l (c ∷ cs) ≡ freed second (set_both second l c 0) cs = unfold freed in refl in
      ap (λ (m : List ℕ). table_of last m a) one
      ∙ freed_at cs (set_both second l c 0) (holds_set second last l holds c 0) (λ b i. r b (inr i)) a
      ∙ ap (λ (f : ℕ → ℕ). released f cs a) (table_set second last l holds c 0 (r c (inl refl)) (omega arith))
      ∙ released_put (table_of last l) c cs a

  pub table_freed : (l cs : List ℕ) → HasTable second last l → ((c : ℕ) → c ∈ cs → Link last c) → table_of last (freed second l cs) ≡ released (table_of last l) cs
  table_freed l cs holds r = λ k a. freed_at cs l holds r a k

  -- other clusters keep their entries
  pub freed_others : (l cs : List ℕ) → HasTable second last l → ((c : ℕ) → c ∈ cs → Link last c) → (a : ℕ) → ¬ (a ∈ cs) → table_of last (freed second l cs) a ≡ table_of last l a
  freed_others l cs holds r a n = freed_at cs l holds r a ∙ released_out (table_of last l) cs a n
