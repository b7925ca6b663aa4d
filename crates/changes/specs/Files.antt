-- The files of a volume: a file is a name, an attribute and bytes. Nothing above this knows of clusters.
use Rattle.std.specs.Prelude.{ℕ, ◌*◌, List, ◌≡◌, Option, Some, None}
use Rattle.chains.specs.Content.{content}
use Rattle.diskette.specs.Places.{first_data, cluster_bytes, slot_at}
use Rattle.diskette.specs.declared.Kind.{Kind}
use Rattle.fields.specs.Fields.{name_of, attr_of, size_of}
use Rattle.sound.specs.Files.{IsFile, ChainOf}

pub record File : Type 0 where
  pub name : List ℕ
  pub attr : ℕ
  pub bytes : List ℕ

abbrev pub file : List ℕ → ℕ → List ℕ → File
file name attr bytes = record { name = name; attr = attr; bytes = bytes }

-- slot s of the volume holds this file
pub record Holds (k : Kind) (l : List ℕ) (s : ℕ) (f : File) : Type 0 where
  pub is_file : IsFile k l s
  pub name : name_of l (slot_at k s) ≡ f.name
  pub attr : attr_of l (slot_at k s) ≡ f.attr
  -- some list of clusters is its chain, and its bytes are the first of these, as many as its size says
  pub bytes : (cs : List ℕ) × ChainOf k l s cs × (content (512 * first_data k) (cluster_bytes k) l cs (size_of l (slot_at k s)) ≡ f.bytes)

-- files by their slots; none where no file is
abbrev pub Files : Type 0
Files = ℕ → Option File

abbrev pub ShowsAt : Kind → List ℕ → ℕ → Option File → Type 0
ShowsAt k l s None = ¬ IsFile k l s
ShowsAt k l s (Some f) = Holds k l s f

-- the volume has these files and no others
abbrev pub Shows : Kind → List ℕ → Files → Type 0
Shows k l files = (s : ℕ) → ShowsAt k l s (files s)
