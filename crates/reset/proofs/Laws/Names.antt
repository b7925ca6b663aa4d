-- No second file of a torn disk has the name of one whose entry both images have.
use Rattle.std.specs.Prelude.{ℕ, ◌+◌, ◌*◌, ◌/◌, ◌%◌, ◌≤◌, ◌<◌, List, ◌⊎◌, ◌≡◌, length, get_or}
use Rattle.std.proofs.Common.{arith, inl, inr, sym, ◌∙◌}
use Rattle.std.proofs.Math.Decide.{dec_lt}
use Rattle.diskette.specs.Places.{first_data, root_entries, slot_at}
use Rattle.diskette.specs.declared.Kind.{Kind}
use Rattle.directory.specs.Entries.{SameBytes}
use Rattle.directory.specs.Aids.Entries.{SameFields}
use Rattle.directory.proofs.Laws.Entries.{same_fields}
use Rattle.fields.specs.Fields.{name_of}
use Rattle.sound.specs.Files.{IsFile}
use Rattle.calls.specs.Aids.Ready.{OnVolume}
use Rattle.calls.proofs.Laws.Ready.{on_area}
use Rattle.changes.proofs.Laws.Changed.{on_sound}
use Rattle.reset.specs.Torn.{sector_bytes, Torn}
use Rattle.reset.proofs.Laws.Bytes.{byte_kept}

-- ---- an entry stands in one sector, so on a torn disk it is the one image's or the other's

entry_sector : (k : Kind) (r i : ℕ) → i < 32 → (slot_at k r + i) / sector_bytes ≡ slot_at k r / sector_bytes
entry_sector k r i h =
    let a : r % 16 < 16 = omega arith in
    let b : r ≡ 16 * (r / 16) + r % 16 = omega arith in
    let x : (slot_at k r + i) / sector_bytes ≡ 1 + 2 * k.fat + r / 16 = omega arith in
    let y : slot_at k r / sector_bytes ≡ 1 + 2 * k.fat + r / 16 = omega arith in
    x ∙ sym y

entry_either : (k : Kind) (old new m : List ℕ) → Torn old new m → (r : ℕ)
    → SameBytes m (slot_at k r) old (slot_at k r) ⊎ SameBytes m (slot_at k r) new (slot_at k r)
entry_either k old new m t r = elim (t.sectors (slot_at k r / sector_bytes)) [
  | inl h ↦ inl (λ i b. h (slot_at k r + i) (entry_sector k r i b))
  | inr h ↦ inr (λ i b. h (slot_at k r + i) (entry_sector k r i b))
]

-- ---- one image

module _ (k : Kind) (l : List ℕ) (v : OnVolume l k) where
  -- a sound volume has one plain file of a name
  one_name : (r s : ℕ) → IsFile k l r → IsFile k l s → name_of l (slot_at k r) ≡ name_of l (slot_at k s) → r ≡ s
  one_name r s i j e = elim (dec_lt r s) [
    | yes x ↦ absurd ((on_sound k l v).1.slots s (j.below, inr (inr (inr (j.plain, (r, x, i.plain, e))))))
    | no x ↦ elim (dec_lt s r) [
      | yes y ↦ absurd ((on_sound k l v).1.slots r (i.below, inr (inr (inr (i.plain, (s, y, j.plain, sym e))))))
      | no y ↦ omega arith
    ]
  ]

  module _ (m : List ℕ) (long : length m ≡ length l) where
    -- slot a of m has the bytes of l's
    alike : (a : ℕ) → a < root_entries k → SameBytes m (slot_at k a) l (slot_at k a) → SameFields m (slot_at k a) l (slot_at k a)
    alike a b z = let h : 512 * first_data k ≤ length l = on_area l k v in same_fields m l (slot_at k a) (slot_at k a) (omega arith) (omega arith) z

    as_file : (a : ℕ) → SameBytes m (slot_at k a) l (slot_at k a) → IsFile k m a → IsFile k l a
    as_file a z f =
        let c : slot_at k a + 0 ≡ slot_at k a = omega arith in
        let d : get_or m (slot_at k a) 0 ≡ get_or l (slot_at k a) 0 = rw c at (z 0 (omega arith)) in
        record {
          below = f.below;
          plain = ((λ u. f.plain.0.0 (d ∙ u), λ u. f.plain.0.1 (d ∙ u)), rw (sym (alike a f.below z).attr) f.plain.1);
        }

    as_one : (r s : ℕ) → SameBytes m (slot_at k r) l (slot_at k r) → SameBytes m (slot_at k s) l (slot_at k s) → IsFile k m r → IsFile k m s
        → name_of m (slot_at k r) ≡ name_of m (slot_at k s) → r ≡ s
    as_one r s x y i j e = one_name r s (as_file r x i) (as_file s y j) (sym (alike r i.below x).name ∙ e ∙ (alike s j.below y).name)

-- ---- the torn disk

pub torn_alone : (k : Kind) (old new m : List ℕ) → OnVolume old k → OnVolume new k → Torn old new m
    → (s : ℕ) → IsFile k m s → SameBytes new (slot_at k s) old (slot_at k s)
    → (r : ℕ) → IsFile k m r → name_of m (slot_at k r) ≡ name_of m (slot_at k s) → r ≡ s
torn_alone k old new m vo vn t s j same r i e =
    let mine : SameBytes m (slot_at k s) old (slot_at k s) = λ q b. byte_kept old new m t (slot_at k s + q) (same q b) in
    elim (entry_either k old new m t r) [
      | inl x ↦ as_one k old vo m t.long r s x mine i j e
      | inr x ↦ as_one k new vn m (t.long ∙ sym t.alike) r s x (λ q b. mine q b ∙ sym (same q b)) i j e
    ]
