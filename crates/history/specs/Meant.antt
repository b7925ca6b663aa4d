-- The file that a call names, in its caller's words: by the volume and the open table before the call. Nothing is named by default.
use Rattle.std.specs.Prelude.{ℕ, ◌<◌, List, ◌⊎◌, ◌≡◌, ltb}
use Rattle.diskette.specs.Places.{root_entries, slot_at}
use Rattle.diskette.specs.declared.Kind.{Kind}
use Rattle.search.specs.Search.{Lowest}
use Rattle.fields.specs.Fields.{name_of}
use Rattle.directory.specs.Slots.{VacantAt}
use Rattle.names.specs.Spelling.{Means}
use Rattle.opened.specs.Places.{LivePlace}
use Rattle.opened.specs.Records.{slot_of}
use Rattle.sound.specs.Files.{IsFile}
use Rattle.history.specs.World.{World, Call, look, open_file, create, read, write, seek, close, delete, rename, mode}

-- slot s holds a plain file, whose 11 name bytes are those that the name means
pub record HasName (k : Kind) (l name : List ℕ) (s : ℕ) : Type 0 where
  pub is_file : IsFile k l s
  pub meant : Means name (name_of l (slot_at k s))

-- place h is live, and its slot is s
pub record Reaches (k : Kind) (w : World) (h s : ℕ) : Type 0 where
  pub live : LivePlace w.table h w.image (slot_at k) (root_entries k)
  pub slot : slot_of w.table h ≡ s

-- the name may be a file's, and no file has it: "else the lowest erased or never-used slot is taken"
pub record IsForNew (k : Kind) (l name : List ℕ) (s : ℕ) : Type 0 where
  pub good : (n : List ℕ) × Means name n
  pub new : (t : ℕ) → ¬ HasName k l name t
  pub lowest : Lowest ltb (λ i. (i < root_entries k) × VacantAt l (slot_at k i)) s

-- slot s is the one that a call names
abbrev pub Names : Call → Kind → World → ℕ → Type 0
Names (look x) k w s = ⊥
Names (open_file name access) k w s = HasName k w.image name s
Names (create name attr stamp) k w s = HasName k w.image name s ⊎ IsForNew k w.image name s
Names (read h buffer) k w s = Reaches k w h s
Names (write h bs) k w s = Reaches k w h s
Names (seek h method offset) k w s = Reaches k w h s
Names (close h stamp) k w s = Reaches k w h s
Names (delete name) k w s = HasName k w.image name s
Names (rename name new) k w s = HasName k w.image name s
Names (mode name function attr) k w s = HasName k w.image name s
