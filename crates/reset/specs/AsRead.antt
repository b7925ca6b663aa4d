-- On a sound volume rescue gives what open, read and close give, with any open table that has an unused place: open with access
-- 0, then read and close with the handle that it answers.
use Rattle.std.specs.Prelude.{ℕ, false, List, ◌≢◌, ◌≡◌}
use Rattle.stamps.specs.declared.Stamp.{Stamp}
use Rattle.calls.specs.Outcome.{Outcome}
use Rattle.calls.specs.Refusals.{bad_stamp}
use Rattle.history.specs.Promises.{AfterAnyRun}
use Rattle.history.specs.World.{World, Library, step_by, look, rescue, open_file, read, close}

-- Read and rescue end well, with the same count and the same bytes; so does close, with a stamp in its ranges. The image stays.
-- The outcomes are those of read, close and rescue.
pub record SameAsRead (w : World) (stamp : Stamp) (reads closes rescues : Outcome) : Type 0 where
  pub read_well : reads.number ≡ 0
  pub close_well : bad_stamp stamp ≡ false → closes.number ≡ 0
  pub image_stays : closes.image ≡ w.image
  pub rescue_well : rescues.number ≡ 0
  pub same_count : rescues.value ≡ reads.value
  pub same_bytes : rescues.buffer ≡ reads.buffer

-- where open ends well: h is its handle, u the world after it, v that after read
abbrev pub RescueAsRead : Library → Type 0
RescueAsRead lib = AfterAnyRun lib (λ k w. (name out : List ℕ) (stamp : Stamp) →
    let opens = lib (open_file name 0) w in
    let h = opens.value in
    let u = step_by lib w (open_file name 0) in
    let v = step_by lib u (read h out) in
    opens.number ≡ 0 → SameAsRead w stamp (lib (read h out) u) (lib (close h stamp) v) (lib (look (rescue name out)) w))

-- where open refuses, but for want of a place (4), rescue refuses by the same number
abbrev pub RefusedAsOpen : Library → Type 0
RefusedAsOpen lib = AfterAnyRun lib (λ k w. (name out : List ℕ) →
    let opens = lib (open_file name 0) w in
    opens.number ≢ 0 → opens.number ≢ 4 → (lib (look (rescue name out)) w).number ≡ opens.number)
