-- What the functions without a loop owe: in the form of their needs.
use Rattle.std.specs.Prelude.{ℕ, ◌+◌, ◌-◌, ◌*◌, ◌/◌, ◌%◌, ◌≤◌, ◌<◌, ◌≡◌, List, length, get_or, take, drop}
use native.Mathlib.Omega.{arith}
use Rattle.std.proofs.Math.Nat.{mod-lt}
use Rattle.std.proofs.Common.{◌∙◌}
use Rattle.image.specs.Store.{stored, part}
use Rattle.chains.specs.Content.{byte_at, cluster_begin}
use Rattle.chains.specs.Values.{Link}
use Rattle.chains.proofs.Laws.Content.{cluster_high}
use Rattle.chains.specs.Aids.Steps.{followed}
use Rattle.table.specs.Entries.{table_of}
use Rattle.contents.specs.Aids.Contents.{chain_from, Area, place_of}
use Rattle.contents.proofs.Laws.Chain.{geometry, holder_link, holder_followed}

-- ---- places, on numbers alone

module _ (base cb c p : ℕ) (wide : 0 < cb) (fits : cluster_begin base cb c + cb < 18446744073709551616) where
  pub steps_fit : (c - 2) * cb < 18446744073709551616
  unfolding cluster_begin
  steps_fit = omega arith

  pub start_fits : base + (c - 2) * cb < 18446744073709551616
  unfolding cluster_begin
  start_fits = omega arith

  pub place_fits : base + (c - 2) * cb + p % cb < 18446744073709551616
  unfolding cluster_begin
  place_fits = omega (arith, mod-lt p wide)

-- ---- parts

-- a part as the code names it, by start and end
pub part_between : (l m s : List ℕ) (at from n : ℕ) → m ≡ stored l at (take (from + n - from) (drop from s)) → m ≡ stored l at (part s from n)
part_between l m s at from n e = let z : from + n - from ≡ n = omega arith in rw z at e

-- ---- the place of one byte

module _ (base cb last : ℕ) (l : List ℕ) (start : ℕ) (a : Area base cb last (length l)) (p c : ℕ) (h : p < length (chain_from last l start) * cb) where
  -- by the cluster that holds it
  module _ (e : c ≡ get_or (chain_from last l start) (p / cb) 0) where
    pub in_range : Link last c
    in_range = rw e (holder_link base cb last l start a p h)

    pub in_reach : length l < 18446744073709551616 → cluster_begin base cb c + cb < 18446744073709551616
    in_reach k = omega (arith, a.clusters, cluster_high base cb a.wide (geometry a) c in_range)

    pub in_place : (at : ℕ) → at ≡ cluster_begin base cb c + p % cb → at ≡ place_of base cb last l start p
    unfolding byte_at
    in_place at t = rw e at t

  -- by the cluster that the links lead to
  module _ (e : c ≡ followed (table_of last l) (p / cb) start) where
    pub met_holds : c ≡ get_or (chain_from last l start) (p / cb) 0
    met_holds = e ∙ holder_followed base cb last l start a p h

    pub met_from : 2 ≤ c
    met_from = (in_range met_holds).0

    pub met_fits : length l < 18446744073709551616 → cluster_begin base cb c + cb < 18446744073709551616
    met_fits = in_reach met_holds

    pub met_place : (at : ℕ) → at ≡ cluster_begin base cb c + p % cb → at ≡ place_of base cb last l start p
    met_place = in_place met_holds
