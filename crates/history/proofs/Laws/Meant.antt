-- The file that a call names: that there is one, by the rows that were passed, and that there is no second.
use Rattle.std.specs.Prelude.{ℕ, ◌<◌, true, false, not, List, ◌↔◌, ◌≡◌, refl, Option, Some, None, is_some}
use Rattle.std.proofs.Common.{sym, ap, subst}
use Rattle.diskette.specs.Places.{root_entries, slot_at}
use Rattle.diskette.specs.declared.Kind.{Kind}
use Rattle.search.specs.Search.{is_found, Answers}
use Rattle.fields.specs.Fields.{name_of}
use Rattle.directory.specs.Search.{slot_named}
use Rattle.directory.specs.Slots.{PlainAt}
use Rattle.directory.proofs.Laws.Search.{slot_named_answers}
use Rattle.names.specs.Reading.{name_given, name_bytes}
use Rattle.names.specs.Spelling.{Means}
use Rattle.names.proofs.Laws.Given.{given_bytes}
use Rattle.names.proofs.Laws.Meaning.{accepted}
use Rattle.names.proofs.Laws.Proper.{proper}
use Rattle.calls.specs.Aids.Ready.{OnVolume}
use Rattle.calls.specs.Refusals.{place_found, bad_name, no_file, file_slot, not_live, slot_for_new}
use Rattle.calls.proofs.Laws.Files.{slots_within}
use Rattle.calls.proofs.Laws.Ready.{on_kind_lem}
use Rattle.opened.specs.Places.{LivePlace}
use Rattle.opened.specs.Records.{slot_of}
use Rattle.history.specs.Meant.{HasName, Reaches, IsForNew, Names}
use Rattle.history.specs.World.{World, Call, Look, look}
use Rattle.history.proofs.Laws.Found.{good_name, file_found_lem, no_file_found, live_at, new_slot_lem}

-- ---- the 11 bytes that a name means

pub means : (name : List ℕ) → is_some (name_given name) ≡ true → Means name (name_bytes (name_given name))
means name fits = (accepted name (name_bytes (name_given name))).0 (given_bytes (name_given name) fits)

pub meant_is : {name n : List ℕ} → Means name n → (name_bytes (name_given name)) ≡ n
meant_is {name} {n} m = ap name_bytes ((accepted name n).1 m)

-- what holds of bytes that the name means holds of these
pub meant_exactly : (name : List ℕ) → is_some (name_given name) ≡ true → (P : List ℕ → Type 0) → ((n : List ℕ) × Means name n × P n) ↔ P (name_bytes (name_given name))
meant_exactly name fits P = (λ x. subst P (sym (meant_is x.1)) x.2, λ p. ((name_bytes (name_given name)), means name fits, p))

-- ---- there is one

module _ (k : Kind) (l : List ℕ) (v : OnVolume l k) (name : List ℕ) (fits : is_some (name_given name) ≡ true) where
  abbrev Named : ℕ → Type 0
  Named s = (s < root_entries k) × (PlainAt l (slot_at k s) × (name_of l (slot_at k s) ≡ name_bytes (name_given name)))

  searched : (f : Option ℕ) → slot_named l (slot_at k) (root_entries k) (name_bytes (name_given name)) ≡ f → Answers Named f
  searched f e =
      let within = slots_within l k v in
      subst (Answers Named) e (slot_named_answers l (slot_at k) (root_entries k) within (name_bytes (name_given name)) (proper name _ (given_bytes (name_given name) fits)).long)

  -- the file that the search finds
  pub has_name : no_file l name ≡ false → HasName k l name (file_slot l name)
  has_name there =
      let x = searched (Some (file_slot l name)) (file_found_lem k l v name there) in
      record { is_file = record { below = x.0.0; plain = x.0.1.0 }; meant = rw x.0.1.1 (means name fits) }

  -- and where it finds none
  pub no_name : no_file l name ≡ true → (s : ℕ) → ¬ HasName k l name s
  no_name none s x = searched None (no_file_found k l v name none) s (x.is_file.below, (x.is_file.plain, sym (meant_is x.meant)))

  pub for_new : no_file l name ≡ true → not (is_found (slot_for_new l)) ≡ false → IsForNew k l name (place_found (slot_for_new l))
  for_new none room = record { good = ((name_bytes (name_given name)), means name fits); new = no_name none; lowest = new_slot_lem k l v room }

pub reaches : (k : Kind) (w : World) → OnVolume w.image k → (h : ℕ) → not_live w.image w.table h ≡ false
    → Reaches k w h (slot_of w.table h)
reaches k w v h e =
    let x : LivePlace w.table h w.image (slot_at k) (root_entries k) = rw (← on_kind_lem w.image k v) (live_at k w.image v w.table h e) in
    record { live = x; slot = refl }

-- a call that only looks names nothing
pub names_none : (k : Kind) (w : World) (c : Call) (x : Look) → c ≡ look x → (s : ℕ) → ¬ Names c k w s
names_none k w c x e s = subst (λ (d : Call). ¬ Names d k w s) (sym e) (λ n. n)

-- ---- a call by a name, where the search finds a file

module _ (k : Kind) (w : World) (v : OnVolume w.image k) (name : List ℕ) (good : bad_name name ≡ false) (there : no_file w.image name ≡ false) where
  pub by_name : HasName k w.image name (file_slot w.image name)
  by_name = has_name k w.image v name (good_name name good) there
