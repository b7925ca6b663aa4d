-- "The history of demand 3 knows no clusters: a file begins with the bytes it has on the first volume, with none when created; a
-- write above 0 puts as many bytes as it answers at the pointer, with zeros before them where that was past the size; delete ends
-- the file; no other call here alters its bytes."
use Rattle.std.specs.Prelude.{ℕ, cond, List, [], ◌∷◌, ◌≢◌, ◌≡◌, eqb, take, Option, Some, None, option_map}
use Rattle.chains.specs.Write.{written}
use Rattle.diskette.specs.declared.Kind.{Kind}
use Rattle.names.specs.Spelling.{Means}
use Rattle.opened.specs.Records.{pointer_of, written_of}
use Rattle.calls.specs.Outcome.{Outcome}
use Rattle.closing.specs.Close.{archived}
use Rattle.changes.specs.Files.{File, file, Files}
use Rattle.history.specs.Meant.{Names}
use Rattle.history.specs.World.{World, Call, Library, step_by, look, open_file, create, read, write, seek, close, delete, rename, mode}

-- ---- what a call that ends well makes of the file f in the slot that it names: w is the world before it, o its outcome

abbrev pub Becomes : Call → World → Outcome → Option File → Option File → Type 0
Becomes (create name attr stamp) w o f g = (n : List ℕ) × Means name n × (g ≡ Some (file n attr []))
Becomes (write h bs) w o f g =
    let put : File → File = λ x. file x.name x.attr (written x.bytes (pointer_of w.table h) (take o.value bs)) in
    g ≡ cond (eqb o.value 0) f (option_map put f)
-- a close of a written file sets bit 20
Becomes (close h stamp) w o f g =
    let mark : File → File = λ x. file x.name (archived x.attr) x.bytes in
    g ≡ cond (written_of w.table h) (option_map mark f) f
Becomes (delete name) w o f g = g ≡ None
Becomes (rename name new) w o f g = (n : List ℕ) × Means new n × (g ≡ option_map (λ (x : File). file n x.attr x.bytes) f)
Becomes (mode name function attr) w o f g =
    let mark : File → File = λ x. file x.name attr x.bytes in
    g ≡ cond (eqb function 1) (option_map mark f) f
Becomes (open_file name access) w o f g = g ≡ f
Becomes (read h buffer) w o f g = g ≡ f
Becomes (seek h method offset) w o f g = g ≡ f
Becomes (look x) w o f g = g ≡ f

-- ---- the files after a call: fs are those before it, gs those after

pub record After (lib : Library) (k : Kind) (w : World) (c : Call) (fs gs : Files) : Type 0 where
  -- a call that refuses changes no file
  pub refused : (lib c w).number ≢ 0 → (s : ℕ) → gs s ≡ fs s
  -- one that ends well changes the one that it names
  pub named : (lib c w).number ≡ 0 → (s : ℕ) → Names c k w s → Becomes c w (lib c w) (fs s) (gs s)
  -- and no other
  pub others : (s : ℕ) → ¬ Names c k w s → gs s ≡ fs s

-- and after a run
abbrev pub History : Library → Kind → World → List Call → Files → Files → Type 0
History lib k w [] fs gs = (s : ℕ) → gs s ≡ fs s
History lib k w (c ∷ cs) fs gs = (hs : Files) × After lib k w c fs hs × History lib k (step_by lib w c) cs hs gs
