-- What a look at a file answers: a refusal, or where its bytes lie in the image and how many they are.
use Rattle.std.specs.Prelude.{ℕ, ◌+◌, ◌*◌, ◌≤◌, List, [], ◌≡◌, length, Result, Ok, Err}
use Rattle.std.specs.Result.{result_unwrap_or}
use Rattle.image.specs.Store.{part}
use Rattle.chains.specs.Content.{byte_at}
use Rattle.diskette.specs.Places.{first_data, cluster_bytes, slot_at}
use Rattle.diskette.specs.declared.Kind.{Kind}
use Rattle.calls.specs.Outcome.{outcome}
use Rattle.calls.specs.Numbers.{refusal_number}
use Rattle.calls.specs.declared.refusal.Refusal.{Refusal}
use Rattle.holding.specs.Holding.{file_chain}
use Rattle.viewing.specs.View.{view_outcome, view_part}

-- where byte offset of the file in a slot lies in the image
abbrev pub view_at : Kind → List ℕ → ℕ → ℕ → ℕ
view_at k img slot offset = byte_at (512 * first_data k) (cluster_bytes k) (file_chain k img (slot_at k slot)) offset

abbrev pub Seen : Type 0
Seen = Result (ℕ × ℕ) Refusal

-- a refusal has its number, and shows no byte
abbrev pub number_seen : Seen → ℕ
number_seen (Ok p) = 0
number_seen (Err e) = refusal_number e

abbrev pub bytes_seen : Seen → ℕ × ℕ
bytes_seen r = result_unwrap_or r (0, 0)

pub record Sees (img s : List ℕ) (offset : ℕ) (r : Seen) : Type 0 where
  pub is : outcome (number_seen r) 0 img [] (part img (bytes_seen r).0 (bytes_seen r).1) ≡ view_outcome img s offset
  pub within : (bytes_seen r).0 + (bytes_seen r).1 ≤ length img

-- the same of the file in a slot
pub record SeesFile (img : List ℕ) (k : Kind) (slot offset : ℕ) (p : ℕ × ℕ) : Type 0 where
  pub part_is : part img p.0 p.1 ≡ view_part k img slot offset
  pub inside : p.0 + p.1 ≤ length img
