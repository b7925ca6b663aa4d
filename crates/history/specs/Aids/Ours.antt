-- The worlds after a call and after a run of our library.
use Rattle.std.specs.Prelude.{List}
use Rattle.history.specs.World.{World, Call, step_by, run_by, ours}

abbrev pub step : World → Call → World
step = step_by ours

abbrev pub run : World → List Call → World
run = run_by ours
