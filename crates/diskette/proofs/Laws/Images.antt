-- The functions that answer a kind say what the definitions say.
use Rattle.std.specs.Prelude.{ℕ, ◌*◌, ◌≤◌, Bool, true, List, ◌↔◌, ◌≡◌, get_or, Option, Some, None}
use Rattle.std.proofs.Common.{arith}
use Rattle.std.proofs.Math.Path.{subst}
use Rattle.std.proofs.Math.ListN.{length, get_or-eq_default}
use borrow.Author.Tests.{eqb-true, leb-true, eq-eqb, le-leb}
use Rattle.diskette.specs.Places.{first_data}
use Rattle.diskette.specs.Kinds.{named}
use Rattle.diskette.specs.Aids.Usable.{Usable}
use Rattle.diskette.specs.Images.{OfKind, AreaOf, only_if, kind_of_image, kind_of_area}
use Rattle.diskette.proofs.Laws.Kinds.{OfKnown, of_cond, NamedBy, named_is}
use Rattle.diskette.specs.declared.Kind.{Kind}

-- ---- the code's needs; without byte 512 `get_or` gives 0, which names no kind

module _ (l : List ℕ) (short : length l ≤ 512) where
  no_byte : get_or l 512 0 ≡ 0
  no_byte = get_or-eq_default l 0 short

  pub image_short : None ≡ kind_of_image l
  unfolding kind_of_image named
  image_short = rw no_byte

  pub area_short : None ≡ kind_of_area l
  unfolding kind_of_area named
  area_short = rw no_byte

-- ---- what is known of the kind that was found

only_known : (P : Kind → Type 0) (Q : Kind → Type 0) (test : Kind → Bool) (r : Option Kind) → ((k : Kind) → test k ≡ true → Q k) → OfKnown P r → OfKnown (λ k. P k × Q k) (only_if test r)
only_known P Q test None q n = tt
only_known P Q test (Some k) q n = of_cond _ (test k) (Some k) None (λ e. (n, q k e)) tt

module _ (l : List ℕ) (k : Kind) where
  found_image : kind_of_image l ≡ Some k → NamedBy (get_or l 512 0) k × (length l ≡ 512 * k.sectors)
  unfolding kind_of_image
  found_image e = subst (OfKnown _) e
      (only_known _ (λ k. length l ≡ 512 * k.sectors) _ (named (get_or l 512 0)) (λ k. eqb-true (length l) (512 * k.sectors)) (named_is (get_or l 512 0)))

  found_area : kind_of_area l ≡ Some k → NamedBy (get_or l 512 0) k × (512 * first_data k ≤ length l)
  unfolding kind_of_area
  found_area e = subst (OfKnown _) e
      (only_known _ (λ k. 512 * first_data k ≤ length l) _ (named (get_or l 512 0)) (λ k. leb-true (512 * first_data k) (length l)) (named_is (get_or l 512 0)))

  -- an image of that kind is just what the call answers
  pub image_of_kind : (kind_of_image l ≡ Some k) ↔ OfKind l k
  unfolding kind_of_image
  image_of_kind = (to, from)
    where
      to : kind_of_image l ≡ Some k → OfKind l k
      to e = let f = found_image e in record { listed = f.0.listed; long = f.1; byte = f.0.byte }

      from : OfKind l k → kind_of_image l ≡ Some k
      from o = rw (o.byte, o.listed, eq-eqb (length l) (512 * k.sectors) o.long)

  -- and so for a system area
  pub area_of_kind : (kind_of_area l ≡ Some k) ↔ AreaOf l k
  unfolding kind_of_area
  area_of_kind = (to, from)
    where
      to : kind_of_area l ≡ Some k → AreaOf l k
      to e = let f = found_area e in record { listed = f.0.listed; long = f.1; byte = f.0.byte }

      from : AreaOf l k → kind_of_area l ≡ Some k
      from o = rw (o.byte, o.listed, le-leb (512 * first_data k) (length l) o.long)

  pub image_usable : kind_of_image l ≡ Some k → Usable k
  image_usable e = (found_image e).0.usable

  pub area_usable : kind_of_area l ≡ Some k → Usable k
  area_usable e = (found_area e).0.usable

-- the system area of an image lies within it
pub image_has_area : (l : List ℕ) (k : Kind) → OfKind l k → Usable k → 512 * first_data k ≤ length l
image_has_area l k o u = omega arith
