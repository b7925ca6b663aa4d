-- What the tests answer.
use Rattle.std.specs.Prelude.{ℕ, Bool, true, false, ◌&&◌, List, ◌≡◌, refl, leb, length}
use borrow.Author.Tests.{leb-true, le-leb}
use Rattle.names.specs.Spelling.{Parts}
use Rattle.names.specs.Reading.{fitting}

pub and_left : (a b : Bool) → (a && b) ≡ true → a ≡ true
and_left true b e = refl
and_left false b e = e

pub and_right : (a b : Bool) → (a && b) ≡ true → b ≡ true
and_right true b e = e
and_right false true e = refl
and_right false false e = e

module _ (good : List ℕ → Bool) (base ext : List ℕ) where
  pub fitting_parts : fitting good base ext ≡ true → Parts good base ext
  unfolding fitting
  fitting_parts e =
      let e₁ = and_right (leb 1 (length base)) _ e in
      let e₂ = and_right (leb (length base) 8) _ e₁ in
      let e₃ = and_right (leb (length ext) 3) _ e₂ in
      record {
        some = leb-true 1 (length base) (and_left _ _ e);
        eight = leb-true (length base) 8 (and_left _ _ e₁);
        three = leb-true (length ext) 3 (and_left _ _ e₂);
        base_good = and_left (good base) _ e₃;
        ext_good = and_right (good base) _ e₃;
      }

  pub parts_fitting : Parts good base ext → fitting good base ext ≡ true
  unfolding fitting
  parts_fitting p =
      rw (le-leb 1 (length base) p.some, le-leb (length base) 8 p.eight, le-leb (length ext) 3 p.three, p.base_good, p.ext_good)
