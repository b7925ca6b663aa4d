-- Open with one place free: what its code has found out where it ends.
use Rattle.std.specs.Prelude.{ℕ, Bool, true, false, List, [], ◌∷◌, ◌≡◌, refl, Option, Some, None, Result, Ok, Err, is_some, not}
use Rattle.std.specs.Option.{unwrap_or}
use Rattle.std.proofs.Common.{arith, sym, ap, ◌∙◌}
use Rattle.calls.specs.declared.refusal.Refusal.{Refusal}
use Rattle.calls.specs.Refusals.{place_found}
use Rattle.opening.specs.Open.{open_outcome}
use Rattle.records.specs.Row.{unused}
use Rattle.records.specs.declared.OpenRecord.{OpenRecord}
use Rattle.single.specs.declared.held.Done.{Done}
use Rattle.single.specs.Rows.{bytes_of, LeavesRow}
use Rattle.single.specs.Aids.OpenAt.{spare_for, OpensAt}

-- an unused record, but for its mark
pub spare_by : (free : Option ℕ) (r : OpenRecord) (u : Bool) → is_some free ≡ not u → r ≡ unused
    → record { used = u; slot = r.slot; access = r.access; pointer = r.pointer; written = r.written } ≡ spare_for free
unfolding spare_for
spare_by (Some p) r false e d = rw d
spare_by (Some p) r true e d = absurd (let z : ◌≡◌ {A = Bool} true false = e in cc)
spare_by None r false e d = absurd (let z : ◌≡◌ {A = Bool} false true = e in cc)
spare_by None r true e d = rw d

place_by : (free : Option ℕ) → unwrap_or free 0 ≡ place_found free
place_by (Some p) = refl
place_by None = refl

module _ (img : List ℕ) (free : Option ℕ) (s : List ℕ) (access : ℕ) (one : OpenRecord) (is : one ≡ spare_for free) (d : Done) (left : LeavesRow (open_outcome img (bytes_of (one ∷ [])) s access) d.answer img (d.held ∷ []) [])
    (r : Result (ℕ × OpenRecord) Refusal) where
  pub opened_well : (n : ℕ) → d.answer ≡ Ok n → (place : ℕ) → place ≡ unwrap_or free 0 → r ≡ Ok (place, d.held) → OpensAt img free s access r
  opened_well n z place p e =
      let l = rw (is, z) at left in
      rw e record {
        number_is = l.number_is;
        opened_is = λ q h i. let b : ◌≡◌ {A = ℕ × OpenRecord} (place, d.held) (q, h) = cc in (sym (ap (λ (y : ℕ × OpenRecord). y.0) b) ∙ p ∙ place_by free, rw (ap (λ (y : ℕ × OpenRecord). y.1) b) at l.row_is);
      }

  pub opened_refused : (n : Refusal) → d.answer ≡ Err n → r ≡ Err n → OpensAt img free s access r
  opened_refused n z e =
      let l = rw (is, z) at left in
      rw e record { number_is = l.number_is; opened_is = λ q h i. absurd (let z : ◌≡◌ {A = ℕ} 0 1 = cc in omega arith) }
