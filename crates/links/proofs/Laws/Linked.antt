-- The table after clusters were linked behind a chain is the theory's table of the longer chain.
use Prim.Native.Nat.{ℕ, ◌-◌, ◌≤◌}
use Rattle.std.proofs.Common.{arith, subst, ◌∙◌}
use Rattle.std.proofs.Math.Decide.{ℕ_discrete}
use mathlib.Core.List.{List, [], ◌∷◌}
use Rattle.std.specs.Prelude.{◌≢◌, ◌≡◌, length}
use Rattle.std.proofs.Math.Logic.{inl, inr}
use Rattle.std.proofs.Math.Path.{refl, sym, ap}
use Rattle.chains.specs.Aids.Put.{put}
use Rattle.chains.specs.Lists.{◌∈◌}
use Rattle.chains.specs.Aids.Lists.{last_of, Once}
use Rattle.chains.specs.Values.{Link}
use Rattle.chains.specs.Aids.Chain.{Chain}
use Rattle.chains.specs.Aids.Free.{Takable}
use Rattle.chains.specs.Aids.Growth.{extended, laid}
use Rattle.chains.proofs.Laws.Put.{put_same, put_other}
use Rattle.chains.proofs.Laws.Lists.{last_mem, last_index, once_head, once_tail}
use Rattle.chains.proofs.Laws.Chain.{chain_mem}
use Rattle.chains.proofs.Laws.Growth.{laid_other}
use Rattle.table.specs.Entries.{table_of}
use Rattle.links.specs.Linked.{end_of, linked_to, linked}
use Rattle.links.specs.Aids.Linked.{new_clusters, Behind, linked_from}
use Rattle.links.specs.Aids.Leaves.{HasTable}
use Rattle.links.proofs.Laws.Table.{geometry, holds_linked, table_first, table_behind}
use Rattle.links.proofs.Laws.New.{added_linked, new_takable}

-- ---- clusters behind one, cluster by cluster

module _ (second last : ℕ) where
  -- the table g below need only agree beside the clusters that are laid
  laid_at : (ds : List ℕ) (l : List ℕ) (p d : ℕ) (g : ℕ → ℕ) → HasTable second last l → Link last p → ((c : ℕ) → c ∈ (d ∷ ds) → Link last c) → ¬ (p ∈ (d ∷ ds)) → Once (d ∷ ds)
      → (a : ℕ) → (¬ (a ∈ (p ∷ (d ∷ ds))) → g a ≡ table_of last l a) → table_of last (linked second l p (d ∷ ds)) a ≡ laid g p (d ∷ ds) a
  unfolding laid linked
  laid_at [] l p d g holds q r fresh o a e =
      let t : table_of last (linked_to second l p d) a ≡ put (put (table_of last l) d 0xFFF) p d a = ap (λ (f : ℕ → ℕ). f a) (table_behind second last l holds p d (r d (inl refl)) q) in
      t ∙ elim (ℕ_discrete a p) [
        | yes x ↦ put_same (put (table_of last l) d 0xFFF) p d a x ∙ sym (put_same (put g d 0xFFF) p d a x)
        | no x ↦ put_other (put (table_of last l) d 0xFFF) p d a x ∙ below x ∙ sym (put_other (put g d 0xFFF) p d a x)
      ]
    where
      below : a ≢ p → put (table_of last l) d 0xFFF a ≡ put g d 0xFFF a
      below x = elim (ℕ_discrete a d) [
        | yes y ↦ put_same (table_of last l) d 0xFFF a y ∙ sym (put_same g d 0xFFF a y)
        | no y ↦ put_other (table_of last l) d 0xFFF a y ∙ sym (e (λ i. elim i [ inl z ↦ x z | inr j ↦ elim j [ inl z ↦ y z | inr k ↦ k ] ])) ∙ sym (put_other g d 0xFFF a y)
      ]
  laid_at (b ∷ bs) l p d g holds q r fresh o a e =
      let m = linked_to second l p d in
      let at : table_of last m a ≡ put (put (table_of last l) d 0xFFF) p d a = ap (λ (f : ℕ → ℕ). f a) (table_behind second last l holds p d (r d (inl refl)) q) in
      let later : (h : ℕ → ℕ) → (¬ (a ∈ (d ∷ (b ∷ bs))) → h a ≡ table_of last m a) → table_of last (linked second m d (b ∷ bs)) a ≡ laid h d (b ∷ bs) a
      = λ h. laid_at bs m d b h (holds_linked second last l holds p d) (r d (inl refl)) (λ c i. r c (inr i)) (once_head d (b ∷ bs) o) (once_tail d (b ∷ bs) o) a in
      elim (ℕ_discrete a p) [
        | yes x ↦
            later (table_of last m) (λ _. refl)
            ∙ laid_other (table_of last m) d (b ∷ bs) a (λ i. fresh (subst (λ (c : ℕ). c ∈ (d ∷ (b ∷ bs))) x i))
            ∙ at
            ∙ put_same (put (table_of last l) d 0xFFF) p d a x
            ∙ sym (put_same (laid g d (b ∷ bs)) p d a x)
        | no x ↦
            later g (λ i. e (λ j. elim j [ inl z ↦ x z | inr k ↦ i k ]) ∙ sym (at ∙ put_other (put (table_of last l) d 0xFFF) p d a x ∙ put_other (table_of last l) d 0xFFF a (λ z. i (inl z))))
            ∙ sym (put_other (laid g d (b ∷ bs)) p d a x)
      ]

  -- a chain that begins with d
  begun_at : (ds : List ℕ) (l : List ℕ) (d : ℕ) → HasTable second last l → ((c : ℕ) → c ∈ (d ∷ ds) → Link last c) → Once (d ∷ ds) → (a : ℕ) → table_of last (linked second l 0 (d ∷ ds)) a ≡ laid (table_of last l) d ds a
  unfolding laid linked
  begun_at [] l d holds r o a = ap (λ (f : ℕ → ℕ). f a) (table_first second last l holds 0 d (r d (inl refl)) refl)
  begun_at (b ∷ bs) l d holds r o a = laid_at bs (linked_to second l 0 d) d b (table_of last l) (holds_linked second last l holds 0 d) (r d (inl refl)) (λ c i. r c (inr i)) (once_head d (b ∷ bs) o) (once_tail d (b ∷ bs) o) a
      (λ i. sym (ap (λ (f : ℕ → ℕ). f a) (table_first second last l holds 0 d (r d (inl refl)) refl) ∙ put_other (table_of last l) d 0xFFF a (λ z. i (inl z))))

-- ---- behind a chain

pub end_none : end_of [] ≡ 0
unfolding end_of
end_none = refl

pub end_last : (c : ℕ) (cs : List ℕ) → end_of (c ∷ cs) ≡ last_of c cs
unfolding end_of
end_last c cs = let e : length (c ∷ cs) - 1 ≡ length cs = omega arith in rw e (last_index c cs)

module _ (last : ℕ) (small : last ≤ 4079) (f : ℕ → ℕ) (start : ℕ) where
  -- its last cluster is in range and not free
  pub end_behind : (cs : List ℕ) → Chain last f start cs → Behind last f (end_of cs)
  end_behind [] p = inl end_none
  end_behind (c ∷ cs) p =
      let r = chain_mem (geometry last small) f start (c ∷ cs) p (last_of c cs) (last_mem c cs) in
      rw (end_last c cs) (inr (r.0, λ z. elim r.1 [ inl h ↦ omega arith | inr h ↦ omega arith ]))

module _ (second last : ℕ) (l : List ℕ) (holds : HasTable second last l) (start : ℕ) where
  linked_at : (cs new : List ℕ) → Chain last (table_of last l) start cs → Takable last (table_of last l) new → (a : ℕ) → table_of last (linked second l (end_of cs) new) a ≡ extended (table_of last l) cs new a
  unfolding extended linked
  linked_at cs [] p t a = refl
  linked_at [] (d ∷ ds) p t a = rw end_none (begun_at second last ds l d holds t.range t.each a)
  linked_at (c ∷ cs) (d ∷ ds) p t a = rw (end_last c cs) (elim (rw (end_last c cs) at (end_behind last holds.small (table_of last l) start (c ∷ cs) p)) [
    | inl z ↦ absurd (omega (arith, (chain_mem (geometry last holds.small) (table_of last l) start (c ∷ cs) p (last_of c cs) (last_mem c cs)).0))
    | inr h ↦ laid_at second last ds l (last_of c cs) d (table_of last l) holds h.0 t.range (λ i. h.1 (t.unused (last_of c cs) i)) t.each a (λ _. refl)
  ])

  pub table_linked : (cs new : List ℕ) → Chain last (table_of last l) start cs → Takable last (table_of last l) new → table_of last (linked second l (end_of cs) new) ≡ extended (table_of last l) cs new
  table_linked cs new p t = λ k a. linked_at cs new p t a k

  -- but for the chain's last cluster the others keep their entries
  pub linked_others : (cs new : List ℕ) → Chain last (table_of last l) start cs → Takable last (table_of last l) new → (a : ℕ) → a ≢ end_of cs → ¬ (a ∈ new) → table_of last (linked second l (end_of cs) new) a ≡ table_of last l a
  unfolding extended
  linked_others cs [] p t a n k = linked_at cs [] p t a
  linked_others [] (d ∷ ds) p t a n k = linked_at [] (d ∷ ds) p t a ∙ laid_other (table_of last l) d ds a k
  linked_others (c ∷ cs) (d ∷ ds) p t a n k = linked_at (c ∷ cs) (d ∷ ds) p t a ∙ laid_other (table_of last l) (last_of c cs) (d ∷ ds) a (λ i. elim i [ inl e ↦ n (e ∙ sym (end_last c cs)) | inr j ↦ k j ])

  -- and so for the clusters that the loop takes
  pub chain_extended : (cs : List ℕ) (n : ℕ) → Chain last (table_of last l) start cs → table_of last (linked_from second last l (end_of cs) 2 n) ≡ extended (table_of last l) cs (new_clusters last l n)
  chain_extended cs n p =
      ap (table_of last) (added_linked second last l (end_of cs) n holds (end_behind last holds.small (table_of last l) start cs p))
      ∙ table_linked cs (new_clusters last l n) p (new_takable last l n holds.small)
