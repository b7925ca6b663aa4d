-- A chain freed or made longer leaves all but the entries.
use Rattle.std.specs.Prelude.{ℕ, ◌⊎◌, ◌≡◌, refl}
use Rattle.std.proofs.Common.{arith, inl, inr, subst, ◌∙◌}
use mathlib.Core.List.{List, [], ◌∷◌}
use Rattle.image.specs.Aids.Ranges.{Outside}
use Rattle.chains.specs.Lists.{◌∈◌}
use Rattle.chains.specs.Values.{Link}
use Rattle.table.specs.Entries.{word_at, set_both}
use Rattle.table.specs.Aids.Copies.{Reaches}
use Rattle.table.proofs.Laws.Copies.{reaches_below, length_set_both, bytes_set_both, reaches_set_both, set_both_outside, agree_set_both}
use Rattle.links.specs.Freed.{freed}
use Rattle.links.specs.Linked.{linked_to, linked}
use Rattle.links.specs.Aids.Leaves.{Beside, SameButEntries}
use Rattle.links.proofs.Laws.Turns.{reaches_long, link_first, link_behind}

module _ (second last : ℕ) where
  -- ---- step by step

  pub leaves_all : (l : List ℕ) → SameButEntries second last l l
  leaves_all l = record { long = refl; bytes = λ b. b; beside = λ j p q. refl; agree = λ size s h g. g }

  pub leaves_then : (l m k : List ℕ) → SameButEntries second last l m → SameButEntries second last m k → SameButEntries second last l k
  leaves_then l m k x y = record {
    long = y.long ∙ x.long;
    bytes = λ b. y.bytes (x.bytes b);
    beside = λ j p q. y.beside j p q ∙ x.beside j p q;
    agree = λ size s h g. y.agree size s h (x.agree size s h g);
  }

  -- no byte beside the entries is in the word of a cluster's entry
  beside_word : (base n j : ℕ) → Link last n → Beside base last j → Outside (word_at base n) 2 j
  beside_word base n j h (inl p) = inl (omega arith)
  beside_word base n j h (inr p) = inr (omega arith)

  pub leaves_set : (l : List ℕ) (n v : ℕ) → Reaches second l last → Link last n → SameButEntries second last l (set_both second l n v)
  leaves_set l n v r h = record {
    long = length_set_both second l n v;
    bytes = bytes_set_both second l n v;
    beside = λ j p q. set_both_outside second l n v j (beside_word 512 n j h p) (beside_word second n j h q);
    agree = λ size s k g. agree_set_both second l n v (reaches_below second l n last h.1 r) size s (omega arith) g;
  }

  -- ---- a chain freed

  pub leaves_freed : (cs l : List ℕ) → Reaches second l last → ((c : ℕ) → c ∈ cs → Link last c) → SameButEntries second last l (freed second l cs)
  unfolding freed
  leaves_freed [] l r h = leaves_all l
  leaves_freed (c ∷ cs) l r h =
      leaves_then l (set_both second l c 0) (freed second (set_both second l c 0) cs)
      (leaves_set l c 0 r (h c (inl refl)))
      (leaves_freed cs (set_both second l c 0) (reaches_set_both second l c 0 last r) (λ a i. h a (inr i)))

  -- ---- clusters linked

  leaves_linked_to : (l : List ℕ) (prev d : ℕ) → Reaches second l last → (prev ≡ 0) ⊎ Link last prev → Link last d → SameButEntries second last l (linked_to second l prev d)
  leaves_linked_to l prev d r (inl z) h = subst (SameButEntries second last l) (link_first second l prev d _ refl z) (leaves_set l d 0xFFF r h)
  leaves_linked_to l prev d r (inr p) h =
      subst (SameButEntries second last l) (link_behind second l prev d _ _ refl (omega arith) refl)
      (leaves_then l (set_both second l d 0xFFF) (set_both second (set_both second l d 0xFFF) prev d)
      (leaves_set l d 0xFFF r h)
      (leaves_set (set_both second l d 0xFFF) prev d (reaches_set_both second l d 0xFFF last r) p))

  pub leaves_linked : (new l : List ℕ) (prev : ℕ) → Reaches second l last → (prev ≡ 0) ⊎ Link last prev → ((c : ℕ) → c ∈ new → Link last c) → SameButEntries second last l (linked second l prev new)
  unfolding linked
  leaves_linked [] l prev r b h = leaves_all l
  leaves_linked (d ∷ ds) l prev r b h =
      let m = linked_to second l prev d in
      let one : SameButEntries second last l m = leaves_linked_to l prev d r b (h d (inl refl)) in
      leaves_then l m (linked second m d ds) one
      (leaves_linked ds m d (reaches_long second l m last last r one.long (omega arith)) (inr (h d (inl refl))) (λ a i. h a (inr i)))
