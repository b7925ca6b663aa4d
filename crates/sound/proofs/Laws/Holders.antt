-- Who holds a chain: the plain file at an address, nobody where there is none.
use Rattle.std.specs.Prelude.{ℕ, ◌<◌, List, ◌≡◌, refl}
use Rattle.std.proofs.Common.{arith, sym, ap, ◌∙◌, eq-eqb, ne_eqb}
use Rattle.chains.specs.Aids.Holders.{Holder, nobody, file_holder}
use Rattle.chains.specs.Lists.{◌∈◌}
use Rattle.chains.specs.Aids.Lists.{occ, Once}
use Rattle.chains.proofs.Laws.Lists.{mem_occ, occ_not, dec_mem}
use Rattle.chains.proofs.Laws.Rows.{row_holder, holder_row, rows_once}
use Rattle.diskette.specs.Places.{cluster_bytes, root_entries, slot_at}
use Rattle.diskette.specs.declared.Kind.{Kind}
use Rattle.directory.specs.Aids.Entries.{SameFields}
use Rattle.fields.specs.Fields.{start_of, size_of}
use Rattle.directory.specs.Slots.{PlainAt, standing_of}
use Rattle.directory.proofs.Laws.Slots.{standing_plain}
use Rattle.directory.specs.declared.Standing.{Standing}
use Rattle.directory.specs.declared.Standing.TheVariants.{NeverUsed, Erased, Label, Plain}
use Rattle.chaincheck.specs.Aids.Entries.{holder_by, holder_at}
use Rattle.sound.specs.Aids.Holders.{root_list, only_among, root_holders}

-- ---- at one address

pub plain_holder : (cb : ℕ) (l : List ℕ) (a : ℕ) → PlainAt l a → holder_at cb l a ≡ file_holder cb (start_of l a) (size_of l a)
plain_holder cb l a p = ap (holder_by cb (start_of l a) (size_of l a)) ((standing_plain l a).1 p)

pub no_holder : (cb : ℕ) (l : List ℕ) (a : ℕ) → ¬ PlainAt l a → holder_at cb l a ≡ nobody
no_holder cb l a n = go (standing_of l a) refl
  where
    go : (s : Standing) → standing_of l a ≡ s → holder_by cb (start_of l a) (size_of l a) s ≡ nobody
    go NeverUsed e = refl
    go Erased e = refl
    go Label e = refl
    go Plain e = absurd (n ((standing_plain l a).0 e))

-- ---- the holders of a list

module _ (is : List ℕ) (h : ℕ → Holder) (a : ℕ) where
  pub among_in : a ∈ is → only_among is h a ≡ h a
  unfolding only_among
  among_in m = rw (ne_eqb (occ a is) 0 (omega (arith, mem_occ a is m)))

  pub among_out : ¬ (a ∈ is) → only_among is h a ≡ nobody
  unfolding only_among
  among_out n = rw (eq-eqb (occ a is) 0 (occ_not a is n))

-- ---- the root's

-- its addresses are those of its slots, each once
pub listed_slot : (k : Kind) (a : ℕ) → a ∈ root_list k → (s : ℕ) × (s < root_entries k) × (a ≡ slot_at k s)
listed_slot k a m = let r = row_holder (slot_at k) 0 (root_entries k) a m in (r.0, omega (arith, r.2), r.3)

pub slot_listed : (k : Kind) (s : ℕ) → s < root_entries k → slot_at k s ∈ root_list k
slot_listed k s h = holder_row (slot_at k) 0 (root_entries k) s (omega arith) (omega arith)

pub slot_same : (k : Kind) (s t : ℕ) → slot_at k s ≡ slot_at k t → s ≡ t
slot_same k s t e = omega arith

pub slots_once : (k : Kind) → Once (root_list k)
slots_once k = rows_once (slot_at k) (slot_same k) 0 (root_entries k)

module _ (k : Kind) (l : List ℕ) where
  pub root_listed : (a : ℕ) → a ∈ root_list k → root_holders k l a ≡ holder_at (cluster_bytes k) l a
  unfolding root_holders
  root_listed a m = among_in (root_list k) (holder_at (cluster_bytes k) l) a m

  pub root_holder : (s : ℕ) → s < root_entries k → root_holders k l (slot_at k s) ≡ holder_at (cluster_bytes k) l (slot_at k s)
  root_holder s h = root_listed (slot_at k s) (slot_listed k s h)

  pub root_nobody : (a : ℕ) → ¬ (a ∈ root_list k) → root_holders k l a ≡ nobody
  unfolding root_holders
  root_nobody a n = among_out (root_list k) (holder_at (cluster_bytes k) l) a n

-- ---- of two volumes

-- the same holder where start, size and standing are the same
pub holder_as : (cb : ℕ) (m l : List ℕ) (a b : ℕ) → SameFields m a l b → holder_at cb m a ≡ holder_at cb l b
holder_as cb m l a b e = ap (λ (x : ℕ). holder_by cb x (size_of m a) (standing_of m a)) e.start ∙ ap (λ (x : ℕ). holder_by cb (start_of l b) x (standing_of m a)) e.size ∙ ap (holder_by cb (start_of l b) (size_of l b)) e.standing

-- at an address that is no slot there is nobody in either
pub root_holders_as : (k : Kind) (m l : List ℕ) (a : ℕ) → ((s : ℕ) → s < root_entries k → a ≡ slot_at k s → holder_at (cluster_bytes k) m (slot_at k s) ≡ holder_at (cluster_bytes k) l (slot_at k s)) → root_holders k m a ≡ root_holders k l a
root_holders_as k m l a e = elim (dec_mem a (root_list k)) [
  | yes i ↦
      let r = listed_slot k a i in
      let at : (x : List ℕ) → root_holders k x a ≡ holder_at (cluster_bytes k) x (slot_at k r.0) = λ x. ap (root_holders k x) r.2 ∙ root_holder k x r.0 r.1 in
      at m ∙ e r.0 r.1 r.2 ∙ sym (at l)
  | no n ↦ root_nobody k m a n ∙ sym (root_nobody k l a n)
]
