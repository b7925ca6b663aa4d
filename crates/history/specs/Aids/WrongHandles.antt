-- A library that is ours but for one fault: whatever file its open is asked for, the place that it takes is for slot 0.
use Rattle.std.specs.Prelude.{ℕ, false, cond, List, [], eqb}
use Rattle.opened.specs.Records.{with_record}
use Rattle.calls.specs.Outcome.{Outcome, outcome}
use Rattle.history.specs.World.{World, Library, ours, look, open_file, create, read, write, seek, close, delete, rename, mode}

abbrev pub opening_first : List ℕ → ℕ → World → Outcome
opening_first name access w =
    let o = ours (open_file name access) w in
    cond (eqb o.number 0) (outcome 0 o.value w.image (with_record w.table o.value access 0 0 false) []) o

abbrev pub opens_first : Library
opens_first (open_file name access) w = opening_first name access w
opens_first (look x) w = ours (look x) w
opens_first (create name attr stamp) w = ours (create name attr stamp) w
opens_first (read h buffer) w = ours (read h buffer) w
opens_first (write h bs) w = ours (write h bs) w
opens_first (seek h method offset) w = ours (seek h method offset) w
opens_first (close h stamp) w = ours (close h stamp) w
opens_first (delete name) w = ours (delete name) w
opens_first (rename name new) w = ours (rename name new) w
opens_first (mode name function attr) w = ours (mode name function attr) w
