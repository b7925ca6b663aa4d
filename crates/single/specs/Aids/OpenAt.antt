-- Open, once it is known which place is free, tried on a row of one record.
use Rattle.std.specs.Prelude.{ℕ, true, false, List, [], ◌∷◌, ◌≡◌, Option, Some, None, Result, Ok}
use Rattle.calls.specs.Outcome.{Outcome}
use Rattle.calls.specs.Refusals.{place_found}
use Rattle.calls.specs.Answers.{number_told}
use Rattle.calls.specs.declared.refusal.Refusal.{Refusal}
use Rattle.opening.specs.Open.{open_outcome}
use Rattle.records.specs.Row.{unused, row_of}
use Rattle.records.specs.declared.OpenRecord.{OpenRecord}
use Rattle.single.specs.Rows.{bytes_of}

-- the one record: a free place, or a used one where none is free
unfoldable pub spare_for : Option ℕ → OpenRecord
spare_for (Some p) = unused
spare_for None = record { used = true; slot = 0; access = 0; pointer = 0; written = false }

-- the outcome on it
abbrev pub spare_outcome : List ℕ → Option ℕ → List ℕ → ℕ → Outcome
spare_outcome img free s access = open_outcome img (bytes_of (spare_for free ∷ [])) s access

-- its number, or the place found and the record
pub record OpensAt (img : List ℕ) (free : Option ℕ) (s : List ℕ) (access : ℕ) (r : Result (ℕ × OpenRecord) Refusal) : Type 0 where
  pub number_is : number_told r ≡ (spare_outcome img free s access).number
  pub opened_is : (place : ℕ) (held : OpenRecord) → r ≡ Ok (place, held) → (place ≡ place_found free) × (held ∷ [] ≡ row_of (spare_outcome img free s access).table)
