-- What a sound volume says of the slots beside a file.
use Rattle.std.specs.Prelude.{ℕ, ◌<◌, List, ◌≢◌}
use Rattle.std.proofs.Common.{arith, inl, inr, sym}
use Rattle.std.proofs.Math.Decide.{dec_lt}
use Rattle.diskette.specs.Places.{root_entries, slot_at}
use Rattle.diskette.specs.declared.Kind.{Kind}
use Rattle.fields.specs.Fields.{name_of}
use Rattle.directory.specs.Slots.{NeverUsedAt, PlainAt}
use Rattle.calls.specs.Aids.Ready.{OnVolume}
use Rattle.sound.specs.Files.{IsFile}
use Rattle.changes.proofs.Laws.Changed.{on_sound}

module _ (k : Kind) (l : List ℕ) (v : OnVolume l k) (s : ℕ) (i : IsFile k l s) where
  -- every lower slot was used
  pub used_lower : (t : ℕ) → t < s → ¬ NeverUsedAt l (slot_at k t)
  used_lower t h z = (on_sound k l v).1.slots s (i.below, inl (i.plain.0.0, (t, h, z)))

  -- no other file has its name
  pub name_once : (t : ℕ) → t < root_entries k → t ≢ s → PlainAt l (slot_at k t) → name_of l (slot_at k t) ≢ name_of l (slot_at k s)
  name_once t h n p e = elim (dec_lt t s) [
    | yes q ↦ (on_sound k l v).1.slots s (i.below, inr (inr (inr (i.plain, (t, q, p, e)))))
    | no q ↦ (on_sound k l v).1.slots t (h, inr (inr (inr (p, (s, after q, i.plain, sym e)))))
  ]
    where
      after : ¬ (t < s) → s < t
      after q = elim (dec_lt s t) [ yes r ↦ r | no r ↦ absurd (n (omega arith)) ]
