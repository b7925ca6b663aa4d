-- A world is an image and an open table. A call is its name with what the caller gives; a run is a list of calls; a library is
-- what answers calls. Format stands apart: it makes a new volume. Check on a system area alone reads other bytes than the world's.
use Rattle.std.specs.Prelude.{ℕ, List, [], ◌∷◌, ℤ}
use Rattle.stamps.specs.declared.Stamp.{Stamp}
use Rattle.calls.specs.Outcome.{Outcome, outcome}
use Rattle.matching.specs.Find.{find_outcome}
use Rattle.opening.specs.Open.{open_outcome}
use Rattle.seeking.specs.Seek.{seek_outcome}
use Rattle.closing.specs.Close.{close_outcome}
use Rattle.marking.specs.Mode.{mode_outcome}
use Rattle.renaming.specs.Rename.{rename_outcome}
use Rattle.reading.specs.Read.{read_outcome}
use Rattle.viewing.specs.View.{view_outcome}
use Rattle.rescuing.specs.Rescue.{rescue_outcome}
use Rattle.creating.specs.Create.{create_outcome}
use Rattle.deleting.specs.Delete.{delete_outcome}
use Rattle.writing.specs.Write.{write_outcome}
use Rattle.scale.specs.Calls.{check_call, free_space_call, entry_call}

pub record World : Type 0 where
  pub image : List ℕ
  pub table : List ℕ

abbrev pub world : List ℕ → List ℕ → World
world image table = record { image = image; table = table }

-- ---- calls: names, buffers and bytes to write are lists; the numbers come in the order of the calls' own arguments

-- the calls that only look
pub data Look : Type 0 where
  check : Look
  count_free : Look
  tell_entry : ℕ → Look
  find : List ℕ → ℕ → ℕ → Look
  view : List ℕ → ℕ → Look
  rescue : List ℕ → List ℕ → Look

pub data Call : Type 0 where
  look : Look → Call
  open_file : List ℕ → ℕ → Call
  create : List ℕ → ℕ → Stamp → Call
  read : ℕ → List ℕ → Call
  write : ℕ → List ℕ → Call
  seek : ℕ → ℕ → ℤ → Call
  close : ℕ → Stamp → Call
  delete : List ℕ → Call
  rename : List ℕ → List ℕ → Call
  mode : List ℕ → ℕ → ℕ → Call

-- ---- libraries

abbrev pub Library : Type 0
Library = Call → World → Outcome

-- the world after a call, if this library answers it
abbrev pub step_by : Library → World → Call → World
step_by lib w c = world (lib c w).image (lib c w).table

-- the world after a run
abbrev pub run_by : Library → World → List Call → World
run_by lib w [] = w
run_by lib w (c ∷ cs) = run_by lib (step_by lib w c) cs

-- ---- our library: the calls' own outcome functions

-- check, free space and entry as C sees them, with no room in out; check never refuses: its number is the finding, its value the
-- place
abbrev pub look_outcome : Look → List ℕ → Outcome
look_outcome check img = check_call img []
look_outcome count_free img = free_space_call img []
look_outcome (tell_entry slot) img = entry_call img slot []
look_outcome (find pattern slot mask) img = find_outcome img pattern slot mask
look_outcome (view name offset) img = view_outcome img name offset
look_outcome (rescue name out) img = rescue_outcome img name out

-- a look takes no table: it stays
abbrev pub ours : Library
ours (look x) w = let o = look_outcome x w.image in outcome o.number o.value o.image w.table o.buffer
ours (open_file name access) w = open_outcome w.image w.table name access
ours (create name attr stamp) w = create_outcome w.image w.table name attr stamp
ours (read h buffer) w = read_outcome w.image w.table h buffer
ours (write h bs) w = write_outcome w.image w.table h bs
ours (seek h method offset) w = seek_outcome w.image w.table h method offset
ours (close h stamp) w = close_outcome w.image w.table h stamp
ours (delete name) w = delete_outcome w.image w.table name
ours (rename name new) w = rename_outcome w.image w.table name new
ours (mode name function attr) w = mode_outcome w.image w.table name function attr
