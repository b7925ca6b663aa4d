-- A call that does not name a slot, and after which that slot shows another file: what its library does not keep.
use Rattle.std.specs.Prelude.{ℕ, ◌<◌, [], ◌∷◌}
use Rattle.std.proofs.Common.{◌∙◌, subst}
use Rattle.diskette.specs.Places.{root_entries}
use Rattle.diskette.specs.declared.Kind.{Kind}
use Rattle.changes.specs.Files.{Files, Shows, ShowsAt}
use Rattle.history.specs.Meant.{Names}
use Rattle.history.specs.Promises.{Given, Begins, FilesOfHistory, AltersNoOther}
use Rattle.history.specs.World.{World, Call, Library, step_by}

pub record Spoils (lib : Library) : Type 0 where
  pub kind : Kind
  pub before : World
  pub begins : Begins kind before
  pub files : Files
  pub shows : Shows kind before.image files
  pub call : Call
  pub given : Given call
  pub slot : ℕ
  pub below : slot < root_entries kind
  pub unnamed : ¬ Names call kind before slot
  pub gone : ¬ ShowsAt kind (step_by lib before call).image slot (files slot)

module _ {lib : Library} (x : Spoils lib) where
  pub spoils_others : ¬ AltersNoOther lib
  spoils_others keeps =
      let kept = keeps x.kind x.before x.begins [] tt x.call x.given x.slot x.below x.unnamed in
      x.gone (kept.1 (x.files x.slot) (x.shows x.slot))

  pub spoils_files : ¬ FilesOfHistory lib
  spoils_files keeps =
      let r = keeps x.kind x.before x.begins x.files x.shows (x.call ∷ []) (x.given, tt) in
      let h = r.0.1 in
      let same = h.2 x.slot ∙ h.1.others x.slot x.unnamed in
      x.gone (subst (ShowsAt x.kind (step_by lib x.before x.call).image x.slot) same (r.1 r.0.0 h x.slot))
