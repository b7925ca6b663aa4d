-- Where a new file goes, seen from the files that a volume shows.
use Rattle.std.specs.Prelude.{ℕ, ◌<◌, List, ◌≢◌, ◌≡◌, length, Option, Some, None}
use Rattle.std.proofs.Math.Logic.{inl, inr}
use Rattle.std.proofs.Math.Path.{refl, subst}
use Rattle.std.proofs.Common.{sym, ◌∙◌, ltb-true}
use Rattle.diskette.specs.Places.{root_entries, slot_at}
use Rattle.diskette.specs.declared.Kind.{Kind}
use Rattle.search.proofs.Laws.Answers.{only_answer}
use Rattle.fields.specs.Fields.{name_of}
use Rattle.directory.specs.Search.{lowest_vacant, slot_named}
use Rattle.directory.specs.Slots.{NeverUsedAt, VacantAt, PlainAt}
use Rattle.directory.proofs.Laws.Search.{vacant_slot_answers, slot_named_answers}
use Rattle.names.specs.Reading.{name_given, name_bytes}
use Rattle.calls.specs.Aids.Ready.{OnVolume}
use Rattle.calls.specs.Refusals.{file_found, slot_for_new}
use Rattle.calls.proofs.Laws.Files.{slots_within}
use Rattle.calls.proofs.Laws.Ready.{on_kind_lem}
use Rattle.changes.specs.Files.{File, Files, Shows, ShowsAt}

module _ (k : Kind) (l : List ℕ) (v : OnVolume l k) (fs : Files) (shows : Shows k l fs) where
  -- no file that is shown has the name
  pub none_of_name : (s : List ℕ) → length (name_bytes (name_given s)) ≡ 11 → ((t : ℕ) (f : File) → fs t ≡ Some f → f.name ≢ (name_bytes (name_given s))) → file_found l s ≡ None
  unfolding file_found
  none_of_name s long other = rw (on_kind_lem l k v)
      (only_answer _ (slot_named l (slot_at k) (root_entries k) (name_bytes (name_given s))) None
      (slot_named_answers l (slot_at k) (root_entries k) (slots_within l k v) (name_bytes (name_given s)) long)
      (λ q x. clash q x.0 x.1 (fs q) refl (shows q)))
    where
      clash : (q : ℕ) → q < root_entries k → PlainAt l (slot_at k q) × (name_of l (slot_at k q) ≡ name_bytes (name_given s)) → (o : Option File) → fs q ≡ o → ShowsAt k l q o → ⊥
      clash q h x None e y = y (record { below = h; plain = x.0 })
      clash q h x (Some f) e y = other q f e (sym y.name ∙ x.1)

  -- files below slot n, and n was never used
  pub lowest_vacant_lem : (n : ℕ) → n < root_entries k → ((t : ℕ) → t < n → (f : File) × (fs t ≡ Some f)) → NeverUsedAt l (slot_at k n) → slot_for_new l ≡ Some n
  unfolding slot_for_new
  lowest_vacant_lem n h below never = rw (on_kind_lem l k v)
      (only_answer (λ s. (s < root_entries k) × VacantAt l (slot_at k s)) (lowest_vacant l (slot_at k) (root_entries k)) (Some n)
      (vacant_slot_answers l (slot_at k) (root_entries k)) (
        (h, inr never),
        λ q i y.
            let x = subst (ShowsAt k l q) (below q (ltb-true q n i)).1 (shows q) in
            elim y.1 [ inl e ↦ x.is_file.plain.0.1 e | inr e ↦ x.is_file.plain.0.0 e ],
      ))
