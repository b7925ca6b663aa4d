-- What fits 32 bits: of such numbers answers and words lose nothing.
use Rattle.std.specs.Prelude.{ℕ, ◌<◌, Result, Ok, Err}
use Rattle.sound.specs.Numbers.{number_of, place_of}
use Rattle.sound.specs.declared.Counts.{Counts}
use Rattle.sound.specs.declared.Finding.{Finding}
use Rattle.freespace.specs.declared.Space.{Space}

abbrev pub Fits : ℕ → Type 0
Fits n = n < 4294967296

abbrev pub NumbersFit : Result Counts Finding → Type 0
NumbersFit (Ok n) = Fits n.files × Fits n.free × Fits n.held × Fits n.bad × Fits n.reserved
NumbersFit (Err f) = Fits (number_of f) × Fits (place_of f)

pub record VerdictFits (v : Result Counts Finding) : Type 0 where
  pub numbers : NumbersFit v

pub record SpaceFits (s : Space) : Type 0 where
  pub free_fits : Fits s.free
  pub clusters_fit : Fits s.clusters
  pub sector_fits : Fits s.sector
  pub per_fits : Fits s.per
