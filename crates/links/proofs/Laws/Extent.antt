-- A chain followed to its end: the turns of the loop, in the shape of its needs; n clusters were met, e is the last, c the next value.
use Prim.Native.Nat.{ℕ, suc, ◌+◌, ◌-◌, ◌≤◌, ◌<◌}
use native.Mathlib.Omega.{arith}
use Rattle.std.specs.Prelude.{List, [], ◌∷◌, ◌⊎◌, ◌≡◌}
use Rattle.std.proofs.Math.Path.{sym, ap}
use Rattle.std.proofs.Common.{inl, inr, ◌∙◌}
use Rattle.std.proofs.Math.ListN.{length}
use Rattle.chains.specs.Chain.{clusters_from}
use Rattle.chains.specs.Aids.Lists.{last_of}
use Rattle.chains.specs.Values.{Link}
use Rattle.chains.proofs.Laws.Met.{from_link, from_none}
use Rattle.chains.proofs.Laws.Tests.{false_says, true_says}
use Rattle.chains.proofs.Laws.Values.{says_link}
use Rattle.table.specs.Entries.{entry_of, table_of}
use Rattle.table.proofs.Laws.View.{table_inside}
use Rattle.links.specs.Aids.Extent.{extent_of, extent_from}
use Rattle.links.proofs.Laws.Linked.{end_none, end_last}
use Rattle.links.specs.declared.Extent.{Extent}

from_start : (cs : List ℕ) → extent_from 0 0 cs ≡ extent_of cs
unfolding last_of
from_start [] = rw end_none
from_start (c ∷ cs) = let z : 0 + length (c ∷ cs) ≡ length (c ∷ cs) = omega arith in rw (z, end_last c cs)

pub extent_all : (last : ℕ) (f : ℕ → ℕ) (c : ℕ) → extent_from 0 0 (clusters_from last f (last - 1) c) ≡ extent_of (clusters_from last f (last - 1) c)
extent_all last f c = from_start (clusters_from last f (last - 1) c)

abbrev at : ℕ → ℕ → Extent
at n e = record { clusters = n; end = e }

-- none to come
ended : (n e : ℕ) (cs : List ℕ) → cs ≡ [] → at n e ≡ extent_from n e cs
unfolding last_of
ended n e cs q = let z : n + 0 ≡ n = omega arith in rw (q, z)

module _ (last : ℕ) (l : List ℕ) (x : Extent) (i c : ℕ) (whole : Extent) (inv : extent_from x.clusters x.end (clusters_from last (table_of last l) (last - i) c) ≡ whole) where
  pub extent_stops : (c < 2) ⊎ (last < c) → x ≡ whole
  extent_stops h = ended x.clusters x.end _ (from_none last (table_of last l) (last - i) c (false_says (says_link last c) (none h))) ∙ inv
    where
      none : (c < 2) ⊎ (last < c) → ¬ Link last c
      none (inl h) q = omega arith
      none (inr h) q = omega arith

  pub extent_turn : i ≡ x.clusters + 1 → i < last → 2 ≤ c → c ≤ last → (v : ℕ) → v ≡ entry_of l c
      → extent_from i c (clusters_from last (table_of last l) (last - (i + 1)) v) ≡ whole
  unfolding last_of
  extent_turn q h a b v r =
      let f = table_of last l in
      let z : last - i ≡ suc (last - (i + 1)) = omega arith in
      let rest = clusters_from last f (last - (i + 1)) (f c) in
      let more : clusters_from last f (last - i) c ≡ c ∷ rest = ap (λ (k : ℕ). clusters_from last f k c) z ∙ from_link last f (last - (i + 1)) c (true_says (says_link last c) (a, b)) in
      let count : i + length rest ≡ x.clusters + length (c ∷ rest) = omega arith in
      rw (r, sym (table_inside last l c a b)) (ap (λ (k : ℕ). at k (last_of c rest)) count ∙ sym (ap (extent_from x.clusters x.end) more) ∙ inv)

  pub extent_done : last ≤ i → x ≡ whole
  unfolding clusters_from
  extent_done h = let z : last - i ≡ 0 = omega arith in ended x.clusters x.end _ (ap (λ (k : ℕ). clusters_from last (table_of last l) k c) z) ∙ inv
