-- What is told by an answer that came before: r is the answer that is handed on, m the buffer after it.
use Rattle.std.specs.Prelude.{ℕ, List, [], ◌≡◌, Result}
use Rattle.sound.specs.declared.Counts.{Counts}
use Rattle.sound.specs.declared.Finding.{Finding}
use Rattle.calls.specs.Answers.{Answer, number_told, value_told}
use Rattle.calls.specs.Outcome.{outcome}
use Rattle.scale.specs.Calls.{Leaves, verdict_told, free_space_call, entry_call}

-- whichever image has that verdict
pub record TellsVerdict (v : Result Counts Finding) (out : List ℕ) (r : ℕ) (m : List ℕ) : Type 0 where
  pub of : (l : List ℕ) → Leaves (verdict_told l v out) r l [] m

pub record TellsSpace (img out : List ℕ) (r : Answer) (m : List ℕ) : Type 0 where
  pub is : outcome (number_told r) (value_told r) img [] m ≡ free_space_call img out

pub record TellsEntry (img : List ℕ) (slot : ℕ) (out : List ℕ) (r : Answer) (m : List ℕ) : Type 0 where
  pub is : outcome (number_told r) (value_told r) img [] m ≡ entry_call img slot out
