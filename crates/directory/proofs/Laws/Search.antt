-- What a search in a directory answers.
use Rattle.std.specs.Prelude.{ℕ, ◌+◌, ◌≤◌, ◌<◌, List, ◌≡◌, length}
use Rattle.search.specs.Search.{Answers}
use Rattle.search.proofs.Laws.Answers.{below_answers}
use Rattle.fields.specs.Fields.{name_of}
use Rattle.directory.specs.Slots.{PlainAt, VacantAt}
use Rattle.directory.specs.Search.{lowest_vacant, slot_named}
use Rattle.directory.specs.Aids.Search.{vacant_slot, named_slot}
use Rattle.directory.proofs.Laws.Slots.{vacant_is}
use Rattle.directory.proofs.Laws.Names.{named_is}

module _ (l : List ℕ) (way : ℕ → ℕ) (count : ℕ) where
  -- the lowest erased or never-used slot
  pub vacant_slot_answers : Answers (λ s. (s < count) × VacantAt l (way s)) (lowest_vacant l way count)
  unfolding lowest_vacant
  vacant_slot_answers = below_answers (vacant_slot l way) (λ (s : ℕ). VacantAt l (way s)) count (λ s k. vacant_is l (way s))

  -- the plain file with these 11 name bytes
  pub slot_named_answers : ((s : ℕ) → s < count → way s + 32 ≤ length l) → (name : List ℕ) → length name ≡ 11
      → Answers (λ s. (s < count) × (PlainAt l (way s) × (name_of l (way s) ≡ name))) (slot_named l way count name)
  unfolding slot_named
  slot_named_answers f name long =
      below_answers (named_slot l way name) (λ (s : ℕ). PlainAt l (way s) × (name_of l (way s) ≡ name)) count
      (λ s k. named_is l (way s) (f s k) name long)
