-- Rescue takes a name and reads that file through its own chain, on a volume that need not be sound. Of several plain files of
-- the name the lowest slot counts. It puts as many bytes as out and size allow; the rest of out keeps its bytes, and nothing
-- else changes.
use Rattle.std.specs.Prelude.{ℕ, min, Bool, not, ◌&&◌, ◌||◌, List, [], ◌∷◌, ◌≡◌, eqb, leb, length, take}
use Rattle.image.specs.Store.{stored}
use Rattle.chains.specs.Sizes.{clusters_for}
use Rattle.chains.specs.Values.{endb}
use Rattle.diskette.specs.Places.{cluster_bytes, slot_at}
use Rattle.diskette.specs.declared.Kind.{Kind}
use Rattle.fields.specs.Fields.{start_of, size_of}
use Rattle.sound.specs.Files.{value_of}
use Rattle.calls.specs.Numbers.{of_no_kind, breaks_rules, file_not_found, access_denied}
use Rattle.calls.specs.Outcome.{Row, Outcome, outcome, decided}
use Rattle.calls.specs.Refusals.{the_kind, not_of_kind, bad_name, no_file, file_slot, address_of}
use Rattle.calls.specs.Answers.{Answer, number_told, value_told}
use Rattle.links.specs.Linked.{end_of}
use Rattle.holding.specs.Holding.{file_chain, file_bytes}

-- the chain of the file in a slot is as finding 5 asks: none, with size 0 and start 0; or its clusters are "at least the size's
-- clusters", the last with an end value
unfoldable pub good_chain : Kind → List ℕ → ℕ → Bool
good_chain k img slot =
    let a = slot_at k slot in
    let cs = file_chain k img a in
    (eqb (start_of img a) 0 && eqb (size_of img a) 0)
    || (leb (clusters_for (cluster_bytes k) (size_of img a)) (length cs) && endb (value_of k img (end_of cs)))

abbrev pub rescue_rows : List ℕ → List ℕ → List Row
rescue_rows img s =
    (not_of_kind img, of_no_kind)
    ∷ (bad_name s, breaks_rules)
    ∷ (no_file img s, file_not_found)
    ∷ (not (good_chain (the_kind img) img (file_slot img s)), access_denied)
    ∷ []

-- as many as out and size allow: room is the length of out
abbrev pub rescue_count : ℕ → ℕ → ℕ
rescue_count room size = min room size

-- no table comes in
abbrev pub rescue_effect : List ℕ → List ℕ → List ℕ → Outcome
rescue_effect img s out =
    let a = address_of img (file_slot img s) in
    let n = rescue_count (length out) (size_of img a) in
    outcome 0 n img [] (stored out 0 (take n (file_bytes (the_kind img) img a)))

unfoldable pub rescue_outcome : List ℕ → List ℕ → List ℕ → Outcome
rescue_outcome img s out = decided (rescue_rows img s) (rescue_effect img s out) img [] out

-- what the call promises: its answer r, and out after
pub record Rescues (img s out : List ℕ) (r : Answer) (after : List ℕ) : Type 0 where
  pub is : outcome (number_told r) (value_told r) img [] after ≡ rescue_outcome img s out
