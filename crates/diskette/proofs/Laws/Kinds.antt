-- The four kinds are usable, and document 01's table follows from their numbers.
use Rattle.std.specs.Prelude.{ℕ, Bool, true, false, cond, ◌≡◌, refl, List, [], ◌∷◌, map, eqb, Option, Some, None}
use Rattle.std.proofs.Common.{arith, sym, ◌∙◌, subst, eqb-true}
use Rattle.diskette.specs.Places.{first_data, clusters, last_cluster, root_entries}
use Rattle.diskette.specs.Kinds.{kind_fe, kind_ff, kind_fc, kind_fd, named}
use Rattle.diskette.specs.Aids.Usable.{Usable}
use Rattle.diskette.specs.declared.Kind.{Kind}

-- ---- the columns of document 01's table that follow

abbrev row : Kind → List ℕ
row k = k.byte ∷ k.sectors ∷ k.fat ∷ k.root ∷ root_entries k ∷ k.per ∷ first_data k ∷ clusters k ∷ last_cluster k ∷ []

pub document_table : map row (kind_fe ∷ kind_ff ∷ kind_fc ∷ kind_fd ∷ [])
    ≡ (0xFE ∷ 320 ∷ 1 ∷ 4 ∷ 64 ∷ 1 ∷ 7 ∷ 313 ∷ 314 ∷ [])
    ∷ (0xFF ∷ 640 ∷ 1 ∷ 7 ∷ 112 ∷ 2 ∷ 10 ∷ 315 ∷ 316 ∷ [])
    ∷ (0xFC ∷ 360 ∷ 2 ∷ 4 ∷ 64 ∷ 1 ∷ 9 ∷ 351 ∷ 352 ∷ [])
    ∷ (0xFD ∷ 720 ∷ 2 ∷ 7 ∷ 112 ∷ 2 ∷ 12 ∷ 354 ∷ 355 ∷ []) ∷ []
unfolding clusters
document_table = refl

-- ---- the four are usable

usable_fe : Usable kind_fe
unfolding clusters
usable_fe = omega arith

usable_ff : Usable kind_ff
unfolding clusters
usable_ff = omega arith

usable_fc : Usable kind_fc
unfolding clusters
usable_fc = omega arith

usable_fd : Usable kind_fd
unfolding clusters
usable_fd = omega arith

-- what holds of the kind that was found, if one was
abbrev pub OfKnown : (Kind → Type 0) → Option Kind → Type 0
OfKnown P (Some k) = P k
OfKnown P None = Unit

pub of_cond : (P : Kind → Type 0) (b : Bool) (x y : Option Kind) → (b ≡ true → OfKnown P x) → OfKnown P y → OfKnown P (cond b x y)
of_cond P true x y p q = p refl
of_cond P false x y p q = q

-- what a byte names is usable, has that byte, and is what its byte names
pub record NamedBy (b : ℕ) (k : Kind) : Type 0 where
  pub usable : Usable k
  pub byte : b ≡ k.byte
  pub listed : named k.byte ≡ Some k

pub named_is : (b : ℕ) → OfKnown (NamedBy b) (named b)
unfolding named
named_is b =
    let P = NamedBy b in
    of_cond P (eqb b 0xFE) _ _ (λ e. record { usable = usable_fe; byte = eqb-true b 0xFE e; listed = refl })
    (of_cond P (eqb b 0xFF) _ _ (λ e. record { usable = usable_ff; byte = eqb-true b 0xFF e; listed = refl })
    (of_cond P (eqb b 0xFC) _ _ (λ e. record { usable = usable_fc; byte = eqb-true b 0xFC e; listed = refl })
    (of_cond P (eqb b 0xFD) _ _ (λ e. record { usable = usable_fd; byte = eqb-true b 0xFD e; listed = refl })
    tt)))

-- in the form of a caller's need: from an answer and the pattern that it matched
pub named_usable : (b : ℕ) (r : Option Kind) (k : Kind) → r ≡ named b → r ≡ Some k → Usable k
named_usable b r k p q = (subst (OfKnown (NamedBy b)) (sym p ∙ q) (named_is b)).usable
