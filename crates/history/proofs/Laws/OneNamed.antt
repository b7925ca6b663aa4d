-- There is no second: a call names one slot at most.
use Rattle.std.specs.Prelude.{ℕ, false, List, ◌≡◌}
use Rattle.std.proofs.Math.Decide.{ℕ_discrete}
use Rattle.std.proofs.Common.{inl, inr, sym, ◌∙◌}
use Rattle.diskette.specs.declared.Kind.{Kind}
use Rattle.search.proofs.Laws.Answers.{lowest_one}
use Rattle.calls.specs.Aids.Ready.{OnVolume}
use Rattle.calls.specs.Refusals.{bad_name, no_file, file_slot}
use Rattle.changes.proofs.Laws.Slots.{name_once}
use Rattle.history.specs.Meant.{HasName, Reaches, Names}
use Rattle.history.specs.World.{World, Call, look, open_file, create, read, write, seek, close, delete, rename, mode}
use Rattle.history.proofs.Laws.Meant.{meant_is, by_name}

module _ (k : Kind) (w : World) (v : OnVolume w.image k) (s t : ℕ) where
  name_one : {name : List ℕ} → HasName k w.image name s → HasName k w.image name t → s ≡ t
  name_one x y = elim (ℕ_discrete s t) [
    | yes e ↦ e
    | no d ↦
        absurd (name_once k w.image v t y.is_file s x.is_file.below d x.is_file.plain (sym (meant_is x.meant) ∙ meant_is y.meant))
  ]

  reached_one : {h : ℕ} → Reaches k w h s → Reaches k w h t → s ≡ t
  reached_one x y = sym x.slot ∙ y.slot

  pub names_one : (c : Call) → Names c k w s → Names c k w t → s ≡ t
  names_one (look n) x y = absurd x
  names_one (open_file name access) x y = name_one x y
  names_one (create name attr stamp) (inl x) (inl y) = name_one x y
  names_one (create name attr stamp) (inl x) (inr y) = absurd (y.new s x)
  names_one (create name attr stamp) (inr x) (inl y) = absurd (x.new t y)
  names_one (create name attr stamp) (inr x) (inr y) = lowest_one _ s t x.lowest y.lowest
  names_one (read h buffer) x y = reached_one x y
  names_one (write h bs) x y = reached_one x y
  names_one (seek h method offset) x y = reached_one x y
  names_one (close h stamp) x y = reached_one x y
  names_one (delete name) x y = name_one x y
  names_one (rename name new) x y = name_one x y
  names_one (mode name function attr) x y = name_one x y

module _ (k : Kind) (w : World) (v : OnVolume w.image k) (name : List ℕ) (good : bad_name name ≡ false) (there : no_file w.image name ≡ false) where
  pub by_name_only : (s : ℕ) → HasName k w.image name s → s ≡ file_slot w.image name
  by_name_only s x = name_one k w v s (file_slot w.image name) x (by_name k w v name good there)
