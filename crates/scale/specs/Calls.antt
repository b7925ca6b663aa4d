-- The calls as C sees them: what each leaves, as one function of what came in. The calls over an open table, format and rescue have
-- this function from their own crates; the others have it here.
use Rattle.std.specs.Prelude.{ℕ, List, [], ◌∷◌, ◌≡◌, Option, Some, None, Result, Ok, Err}
use Rattle.sound.specs.Judged.{check_of, check_of_area}
use Rattle.sound.specs.Numbers.{number_of, place_of}
use Rattle.sound.specs.declared.Counts.{Counts}
use Rattle.sound.specs.declared.Finding.{Finding}
use Rattle.entries.specs.Entry.{entry_told}
use Rattle.entries.specs.declared.EntryFields.{EntryFields}
use Rattle.freespace.specs.FreeSpace.{free_space}
use Rattle.freespace.specs.declared.Space.{Space}
use Rattle.calls.specs.Numbers.{refusal_number}
use Rattle.calls.specs.Outcome.{Outcome, outcome}
use Rattle.calls.specs.declared.refusal.Refusal.{Refusal}
use Rattle.viewing.specs.View.{view_outcome}
use Rattle.packing.specs.Packing.{upper, lower}
use Rattle.scale.specs.Out.{put_out, words, fields}

-- What every call promises of its answer and of image, table and buffer after it. `out` is a buffer; a slice that a call only
-- reads stands here as it came, and one that it does not take is [].
pub record Leaves (o : Outcome) (answer : ℕ) (image table buffer : List ℕ) : Type 0 where
  pub is : outcome (upper answer) (lower answer) image table buffer ≡ o

-- ---- the calls that need no open table

-- "check and check_system never refuse: there the upper half is the finding (0: sound) and the lower its place",
-- "20 bytes into out: files, free, held, bad, reserved"; l is the image, or the system area
unfoldable pub verdict_told : List ℕ → Result Counts Finding → List ℕ → Outcome
verdict_told l (Ok n) out = outcome 0 0 l [] (put_out out (words (n.files ∷ n.free ∷ n.held ∷ n.bad ∷ n.reserved ∷ [])))
verdict_told l (Err f) out = outcome (number_of f) (place_of f) l [] out

-- "bm_check: image, out"
abbrev pub check_call : List ℕ → List ℕ → Outcome
check_call img out = verdict_told img (check_of img) out

-- "bm_check_system: system area, out"
abbrev pub check_system_call : List ℕ → List ℕ → Outcome
check_system_call area out = verdict_told area (check_of_area area) out

-- "16 bytes: free, clusters, 512, sectors per cluster"; where "the call refuses, it is left as it came"
abbrev pub space_told : List ℕ → Result Space Refusal → List ℕ → Outcome
space_told img (Ok s) out = outcome 0 s.free img [] (put_out out (words (s.free ∷ s.clusters ∷ s.sector ∷ s.per ∷ [])))
space_told img (Err e) out = outcome (refusal_number e) 0 img [] out

-- "bm_free_space: image, out; value free clusters"
unfoldable pub free_space_call : List ℕ → List ℕ → Outcome
free_space_call img out = space_told img (free_space img) out

-- "1, or 0 for none", "if 1, 22 bytes as stored"
abbrev pub fields_told : List ℕ → Result (Option EntryFields) Refusal → List ℕ → Outcome
fields_told img (Ok (Some e)) out = outcome 0 1 img [] (put_out out (fields e.name e.attr e.time e.date e.start e.size))
fields_told img (Ok None) out = outcome 0 0 img [] out
fields_told img (Err e) out = outcome (refusal_number e) 0 img [] out

-- "bm_entry: image, slot, out"
unfoldable pub entry_call : List ℕ → ℕ → List ℕ → Outcome
entry_call img slot out = fields_told img (entry_told img slot) out

-- "bm_view_number: image, name, offset; value 0 (its upper half is view's refusal number)"
unfoldable pub view_number_call : List ℕ → List ℕ → ℕ → Outcome
view_number_call img name offset = outcome (view_outcome img name offset).number 0 img [] []
