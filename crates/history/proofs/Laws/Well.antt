-- A call by its rows: it is refused, or it ended well; and then what it comes to, in the form that its own laws have.
use Rattle.std.specs.Prelude.{ℕ, List, ◌↔◌, ◌≡◌, refl, Option, Some, None, option_map}
use Rattle.std.proofs.Common.{inl, inr, sym, ap, ◌∙◌, subst}
use Rattle.image.specs.Bytes.{Bytes}
use Rattle.diskette.specs.declared.Kind.{Kind}
use Rattle.calls.specs.Outcome.{Row, Outcome, refusal, decided}
use Rattle.sound.specs.Files.{IsFile}
use Rattle.changes.specs.Aids.Changed.{SlotChanged}
use Rattle.changes.specs.Files.{File, Holds, ShowsAt}
use Rattle.history.specs.Aids.Ours.{step}
use Rattle.history.specs.Aids.Came.{Does, Came, idle, changes}
use Rattle.history.specs.History as history
use Rattle.history.specs.World.{World, Call, ours}
use Rattle.history.proofs.Laws.Rows.{decided_cases}

module _ (k : Kind) (w : World) (c : Call) where
  pub came_by : (rows : List Row) (effect : Outcome) (b : List ℕ) → ours c w ≡ decided rows effect w.image w.table b
      → (refusal rows ≡ 0 → ours c w ≡ effect → Came k w c) → Came k w c
  came_by rows effect b e well = elim (decided_cases rows effect w.image w.table b) [
    | inl x ↦ idle (inl (λ z. x.0 (sym (ap (λ (o : Outcome). o.number) (e ∙ x.1)) ∙ z))) (ap (λ (o : Outcome). o.image) (e ∙ x.1))
    | inr x ↦ well x.0 (e ∙ x.1)
  ]

  module _ (s : ℕ) (ds m : List ℕ) (does : Does k w c s) (image : (step w c).image ≡ m) (x : SlotChanged k w.image m s ds) (b : Bytes m) where
    abbrev Becomes : Option File → Option File → Type 0
    Becomes = history.Becomes c w (ours c w)

    pub came_put : ((f : Option File) → (g : Option File) × Becomes f g)
        → ((f g : Option File) → ShowsAt k w.image s f → Becomes f g → ShowsAt k m s g) → Came k w c
    came_put makes there = changes s ds does (record {
      changed = subst (λ (l : List ℕ). SlotChanged k w.image l s ds) (sym image) x;
      bytes = subst Bytes (sym image) b;
      makes = makes;
      there = λ f g y p. subst (λ (l : List ℕ). ShowsAt k l s g) (sym image) (there f g y p);
    })

    -- the file that stands there is changed
    pub came_at : IsFile k w.image s → (h : File → File) → ((f g : Option File) → Becomes f g ↔ (g ≡ option_map h f))
        → ((f : File) → Holds k w.image s f → Holds k m s (h f)) → Came k w c
    came_at i h becomes holds = came_put (λ f. (option_map h f, (becomes f (option_map h f)).1 refl))
        (λ f g y p. subst (ShowsAt k m s) (sym ((becomes f g).0 p)) (go f y))
      where
        go : (o : Option File) → ShowsAt k w.image s o → ShowsAt k m s (option_map h o)
        go None y = absurd (y i)
        go (Some f) y = holds f y
