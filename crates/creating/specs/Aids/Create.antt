-- The last rows, of an existing file and of a new one.
use Rattle.std.specs.Prelude.{ℕ, List, [], ◌∷◌, ◌≡◌, not}
use Rattle.diskette.specs.Places.{slot_at, root_entries}
use Rattle.diskette.specs.declared.Kind.{Kind}
use Rattle.search.specs.Search.{is_found}
use Rattle.directory.specs.Search.{lowest_vacant}
use Rattle.opened.specs.Places.{is_open}
use Rattle.calls.specs.Outcome.{outcome, decided, Row}
use Rattle.calls.specs.Refusals.{place_found, read_only, no_place}
use Rattle.calls.specs.Answers.{Answer, number_told, value_told}
use Rattle.calls.specs.Numbers.{access_denied, too_many_open}
use Rattle.freeing.specs.Freed.{chain_freed}
use Rattle.creating.specs.Create.{made}

abbrev pub old_rows : List ℕ → List ℕ → ℕ → List Row
old_rows img t slot = (is_open t slot, access_denied) ∷ (read_only img slot, access_denied) ∷ (no_place t, too_many_open) ∷ []

abbrev pub new_rows : List ℕ → List ℕ → Kind → List Row
new_rows img t k = (not (is_found (lowest_vacant img (slot_at k) (root_entries k))), access_denied) ∷ (no_place t, too_many_open) ∷ []

pub record Empties (img t : List ℕ) (k : Kind) (slot : ℕ) (name : List ℕ) (attr time date : ℕ) (r : Answer) (after table : List ℕ) : Type 0 where
  pub is : outcome (number_told r) (value_told r) after table [] ≡ decided (old_rows img t slot) (made (chain_freed k img (slot_at k slot)) t k slot name attr time date) img t []

abbrev pub new_slot : Kind → List ℕ → ℕ
new_slot k img = place_found (lowest_vacant img (slot_at k) (root_entries k))

pub record MakesNew (img t : List ℕ) (k : Kind) (name : List ℕ) (attr time date : ℕ) (r : Answer) (after table : List ℕ) : Type 0 where
  pub is : outcome (number_told r) (value_told r) after table [] ≡ decided (new_rows img t k) (made img t k (new_slot k img) name attr time date) img t []
