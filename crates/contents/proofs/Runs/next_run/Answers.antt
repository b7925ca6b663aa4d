-- A run is no longer than what is left of the bytes.
use Rattle.std.proofs.Common.{◌+◌, ◌-◌, arith}
use Rattle.contents.proofs.Laws.Runs.{run_left}
use Rattle.contents.proofs.Runs.next_run.Goals as goal

pub overflow_add-self : goal.overflow_add-self
overflow_add-self c =
    let s = c.args.self.now in
    record { fits = omega (arith, c.run_of.ensures, run_left s.cb (s.pos + s.done) (s.n - s.done) c.requires.wide) }
