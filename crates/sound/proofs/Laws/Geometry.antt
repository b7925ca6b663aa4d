-- A usable kind has what the theory of chains asks of a volume.
use Rattle.std.proofs.Common.{arith}
use Rattle.chains.specs.Aids.Sizes.{Geometry}
use Rattle.diskette.specs.Aids.Usable.{Usable}
use Rattle.diskette.specs.Places.{cluster_bytes, last_cluster}
use Rattle.diskette.specs.declared.Kind.{Kind}

abbrev pub geometry : (k : Kind) → Usable k → Geometry
geometry k u = record { last = last_cluster k; cb = cluster_bytes k; small = u.below_reserved; wide = omega (arith, u.per_low) }
