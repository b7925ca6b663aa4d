-- The sector of a cluster in range, in the form of the code's needs: first is the first data sector, cb the bytes of a cluster.
use Rattle.std.specs.Prelude.{ℕ, ◌+◌, ◌*◌, ◌/◌, ◌%◌, ◌≤◌, ◌<◌, ◌≡◌}
use Rattle.std.proofs.Common.{arith, mod-eq_of_lt}
use Rattle.chains.specs.Content.{cluster_begin}
use Rattle.diskette.specs.Aids.Usable.{Usable}
use Rattle.diskette.specs.Places.{first_data, cluster_bytes, last_cluster, sector_of}
use Rattle.diskette.proofs.Laws.Places.{cluster_starts, cluster_within}
use Rattle.diskette.specs.declared.Kind.{Kind}

module _ (k : Kind) (u : Usable k) (cb : ℕ) (ce : cb ≡ cluster_bytes k) where
  pub some_bytes : 0 < cb
  some_bytes = omega (arith, u.per_low)

  module _ (n first : ℕ) (fe : first ≡ first_data k) where
    starts : cluster_begin (512 * first) cb n ≡ 512 * sector_of k n
    starts = rw (fe, ce) (cluster_starts k n)

    pub cluster_fits : 2 ≤ n → n ≤ last_cluster k → cluster_begin (512 * first) cb n + cb < 18446744073709551616
    cluster_fits h l = omega (arith, starts, cluster_within k u n h l, u.small)

    -- the tie of document 01's sector and of the byte where every call finds the cluster
    pub sector_is : (at : ℕ) → at ≡ cluster_begin (512 * first) cb n + 0 % cb → at / 512 ≡ sector_of k n
    sector_is at e = let z : 0 % cb ≡ 0 = mod-eq_of_lt some_bytes in omega (arith, starts)
