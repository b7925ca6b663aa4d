-- A file's slot that keeps its name and its attribute stays good.
use Rattle.std.specs.Prelude.{ℕ, ◌<◌, List, ◌≢◌, ◌≡◌, get_or}
use Rattle.std.proofs.Common.{arith, inl, inr, sym, ◌∙◌}
use Rattle.std.proofs.Math.Decide.{dec_lt}
use Rattle.chains.proofs.Laws.Tests.{clash}
use Rattle.diskette.specs.Places.{root_entries, slot_at}
use Rattle.diskette.specs.declared.Kind.{Kind}
use Rattle.fields.specs.Fields.{name_of, attr_of}
use Rattle.directory.specs.Slots.{PlainAt}
use Rattle.sound.specs.Findings.{BadSlot}
use Rattle.calls.specs.Aids.Ready.{OnVolume}
use Rattle.sound.specs.Files.{IsFile}
use Rattle.changes.specs.Aids.Changed.{GoodSlot}
use Rattle.changes.proofs.Laws.Changed.{on_sound}

module _ (k : Kind) (l m : List ℕ) (s : ℕ) (v : OnVolume l k) (i : IsFile k l s) (first : get_or m (slot_at k s) 0 ≡ get_or l (slot_at k s) 0)
    (name : name_of m (slot_at k s) ≡ name_of l (slot_at k s)) (attr : attr_of m (slot_at k s) ≡ attr_of l (slot_at k s)) where
  pub same_plain : PlainAt m (slot_at k s)
  same_plain = ((λ e. i.plain.0.0 (sym first ∙ e), λ e. i.plain.0.1 (sym first ∙ e)), rw attr i.plain.1)

  not_bad : (t : ℕ) → ¬ BadSlot k l t
  not_bad = (on_sound k l v).1.slots

  -- two files of the volume before have two names
  names_differ : (t : ℕ) → t < root_entries k → t ≢ s → PlainAt l (slot_at k t) → name_of l (slot_at k t) ≢ name_of l (slot_at k s)
  names_differ t h n p e = elim (dec_lt t s) [
    | yes q ↦ not_bad s (i.below, inr (inr (inr (i.plain, (t, q, p, e)))))
    | no q ↦ elim (dec_lt s t) [
      | yes r ↦ not_bad t (h, inr (inr (inr (p, (s, r, i.plain, sym e)))))
      | no r ↦ n (omega arith)
    ]
  ]

  pub same_good : GoodSlot k l m s
  same_good = record {
    used = λ e. i.plain.0.0 (sym first ∙ e);
    below = λ t h e. not_bad s (i.below, inl (i.plain.0.0, (t, h, e)));
    usual = λ x. not_bad s (i.below, inr (inl (i.plain.0, rw (sym first, sym attr) x.1)));
    no_label = λ x. clash x.1 same_plain.1;
    own_name = λ p t h n q e. names_differ t h n q (e ∙ name);
  }
