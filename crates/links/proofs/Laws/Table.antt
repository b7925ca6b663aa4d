-- The table after one store in both copies, and after one cluster was linked.
use Rattle.std.specs.Prelude.{ℕ, ◌≤◌, ◌<◌, List, ◌≡◌, refl}
use Rattle.std.proofs.Common.{arith, inl, inr, sym, ap, subst, ◌∙◌}
use Rattle.std.proofs.Math.Decide.{ℕ_discrete}
use Rattle.chains.specs.Aids.Put.{put}
use Rattle.chains.specs.Aids.Sizes.{Geometry}
use Rattle.chains.specs.Values.{Link}
use Rattle.chains.proofs.Laws.Put.{put_cases}
use Rattle.table.specs.Entries.{set_both, table_of}
use Rattle.table.proofs.Laws.Copies.{bytes_set_both, reaches_set_both}
use Rattle.table.proofs.Laws.View.{view_same, view_other}
use Rattle.links.specs.Linked.{linked_to}
use Rattle.links.specs.Aids.Leaves.{HasTable}
use Rattle.links.proofs.Laws.Turns.{link_first, link_behind}

-- what the theory of chains asks of the last cluster's number (the bytes of a cluster do not matter here)
abbrev pub geometry : (last : ℕ) → last ≤ 4079 → Geometry
geometry last h = record { last = last; cb = 1; small = h; wide = omega arith }

module _ (second last : ℕ) (l : List ℕ) (holds : HasTable second last l) where
  pub holds_set : (n v : ℕ) → HasTable second last (set_both second l n v)
  holds_set n v = record {
    small = holds.small;
    bytes = bytes_set_both second l n v holds.bytes;
    reaches = reaches_set_both second l n v last holds.reaches;
  }

  pub table_set : (n v : ℕ) → Link last n → v < 4096 → table_of last (set_both second l n v) ≡ put (table_of last l) n v
  table_set n v h s = λ k c. at c k
    where
      at : (c : ℕ) → table_of last (set_both second l n v) c ≡ put (table_of last l) n v c
      at c = elim (put_cases (table_of last l) n v c) [
        | inl e ↦ ap (table_of last (set_both second l n v)) e.0 ∙ view_same last second l n v holds.reaches holds.bytes s h.1 h.0 ∙ sym e.1
        | inr e ↦ view_other last second l n v holds.reaches holds.bytes s h.1 c e.0 ∙ sym e.1
      ]

-- ---- one cluster linked

module _ (second last : ℕ) (l : List ℕ) (holds : HasTable second last l) (prev d : ℕ) where
  pub holds_linked : HasTable second last (linked_to second l prev d)
  holds_linked = elim (ℕ_discrete prev 0) [
    | yes z ↦ subst (HasTable second last) (link_first second l prev d _ refl z) (holds_set second last l holds d 0xFFF)
    | no z ↦ subst (HasTable second last) (link_behind second l prev d _ _ refl z refl) (holds_set second last (set_both second l d 0xFFF) (holds_set second last l holds d 0xFFF) prev d)
  ]

  module _ (h : Link last d) where
    pub table_first : prev ≡ 0 → table_of last (linked_to second l prev d) ≡ put (table_of last l) d 0xFFF
    table_first z = sym (ap (table_of last) (link_first second l prev d _ refl z)) ∙ table_set second last l holds d 0xFFF h (omega arith)

    pub table_behind : Link last prev → table_of last (linked_to second l prev d) ≡ put (put (table_of last l) d 0xFFF) prev d
    table_behind q =
        sym (ap (table_of last) (link_behind second l prev d _ _ refl (omega arith) refl))
        ∙ table_set second last (set_both second l d 0xFFF) (holds_set second last l holds d 0xFFF) prev d q (omega arith)
        ∙ ap (λ (f : ℕ → ℕ). put f prev d) (table_set second last l holds d 0xFFF h (omega arith))
