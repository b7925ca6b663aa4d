-- The table as a function: a write in both copies changes one value of it, a store elsewhere none. Above these laws
-- nothing speaks of words and bits.
use Rattle.std.specs.Prelude.{ℕ, ◌+◌, ◌≤◌, ◌<◌, Bool, ◌&&◌, List, ◌⊎◌, ◌≢◌, ◌≡◌, leb, length, get_or}
use Rattle.std.proofs.Common.{arith, inl, inr, sym, ◌∙◌}
use Rattle.std.proofs.Math.Decide.{dec_le, dec_lt}
use Rattle.std.proofs.Math.Bool.{true, false, cond}
use Rattle.std.proofs.Math.Path.{refl}
use borrow.Author.Tests.{le-leb, lt-leb}
use Rattle.image.specs.Bytes.{Bytes}
use Rattle.image.specs.Store.{stored}
use Rattle.image.proofs.Laws.Store.{stored_outside}
use Rattle.image.proofs.Laws.Numbers.{number_same}
use Rattle.table.specs.Entries.{word_at, entry_of, set_both, table_of}
use Rattle.table.specs.Aids.Copies.{Reaches, Agree}
use Rattle.table.proofs.Laws.OneCopy.{entry_same}
use Rattle.table.proofs.Laws.Copies.{set_both_same, set_both_other}

-- ---- its values

-- a cluster or none
inside_or_not : (last c : ℕ) → ((2 ≤ c) × (c ≤ last)) ⊎ ((c < 2) ⊎ (last < c))
inside_or_not last c = elim (dec_lt c 2) [
  | yes h ↦ inr (inl h)
  | no h ↦ elim (dec_le c last) [ yes k ↦ inl (omega arith, k) | no k ↦ inr (inr (omega arith)) ]
]

module _ (last : ℕ) (l : List ℕ) (c : ℕ) where
  pub table_inside : 2 ≤ c → c ≤ last → table_of last l c ≡ entry_of l c
  unfolding table_of
  table_inside h k = rw (le-leb 2 c h, le-leb c last k)

  pub table_outside : (c < 2) ⊎ (last < c) → table_of last l c ≡ 0
  unfolding table_of
  table_outside (inl h) = rw (lt-leb 2 c h)
  table_outside (inr h) = rw (lt-leb c last h) (no (leb 2 c))
    where
      no : (b : Bool) → cond (b && false) (entry_of l c) 0 ≡ 0
      no true = refl
      no false = refl

-- equal where the entries of the clusters are
table_by : (last : ℕ) (m l : List ℕ) (c : ℕ) → (2 ≤ c → c ≤ last → entry_of m c ≡ entry_of l c) → table_of last m c ≡ table_of last l c
table_by last m l c e = elim (inside_or_not last c) [
  | inl h ↦ table_inside last m c h.0 h.1 ∙ e h.0 h.1 ∙ sym (table_inside last l c h.0 h.1)
  | inr h ↦ table_outside last m c h ∙ sym (table_outside last l c h)
]

-- ---- a write in both copies

module _ (last second : ℕ) (l : List ℕ) (n v : ℕ) (all : Reaches second l last) (b : Bytes l) (small : v < 4096) (to : n ≤ last) where
  reach : Reaches second l n
  reach = record { low = omega arith; high = omega arith }

  pub view_same : 2 ≤ n → table_of last (set_both second l n v) n ≡ v
  view_same from = table_inside last (set_both second l n v) n from to ∙ set_both_same second l n v reach b small

  pub view_other : (c : ℕ) → c ≢ n → table_of last (set_both second l n v) c ≡ table_of last l c
  view_other c d = table_by last (set_both second l n v) l c (λ h k. set_both_other second l n v reach b small c (omega arith) d)

-- ---- a list with the same table, and a store beside it

module _ (last : ℕ) (l m : List ℕ) where
  pub table_same : ((j : ℕ) → 512 ≤ j → j < word_at 512 last + 2 → get_or m j 0 ≡ get_or l j 0) → (c : ℕ) → table_of last m c ≡ table_of last l c
  table_same e c = table_by last m l c (λ h k. entry_same 512 512 m l c (number_same m l (word_at 512 c) (word_at 512 c) 2 (λ i t. e (word_at 512 c + i) (omega arith) (omega arith))))

pub table_beside : (last : ℕ) (l : List ℕ) (at : ℕ) (s : List ℕ) → (at + length s ≤ 512) ⊎ (word_at 512 last + 2 ≤ at) → (c : ℕ) → table_of last (stored l at s) c ≡ table_of last l c
table_beside last l at s (inl p) = table_same last l (stored l at s) (λ j h k. stored_outside l at s j (inr (omega arith)))
table_beside last l at s (inr p) = table_same last l (stored l at s) (λ j h k. stored_outside l at s j (inl (omega arith)))

-- and so do the copies go on to agree
pub agree_beside : (second size : ℕ) (l : List ℕ) (at : ℕ) (s : List ℕ) → 512 + size ≤ second → (at + length s ≤ 512) ⊎ (second + size ≤ at) → Agree second size l → Agree second size (stored l at s)
agree_beside second size l at s f (inl p) g j h = stored_outside l at s (512 + j) (inr (omega arith)) ∙ g j h ∙ sym (stored_outside l at s (second + j) (inr (omega arith)))
agree_beside second size l at s f (inr p) g j h = stored_outside l at s (512 + j) (inl (omega arith)) ∙ g j h ∙ sym (stored_outside l at s (second + j) (inl (omega arith)))
