-- A file is there after any call that does not delete it; and a file that is created is there.
use Rattle.std.specs.Prelude.{ℕ, Bool, true, false, cond, List, ◌≡◌, refl, eqb, Option, Some, None, option_map}
use Rattle.std.proofs.Common.{arith, sym, ◌∙◌, subst}
use Rattle.std.proofs.Math.Decide.{ℕ_discrete}
use Rattle.diskette.specs.declared.Kind.{Kind}
use Rattle.opened.specs.Records.{written_of}
use Rattle.sound.specs.Files.{IsFile}
use Rattle.stamps.specs.declared.Stamp.{Stamp}
use Rattle.changes.specs.Files.{File, Files, Shows, ShowsAt}
use Rattle.history.specs.Aids.Ours.{step}
use Rattle.history.specs.Aids.Came.{Came, Does, idle, stays, changes}
use Rattle.history.specs.History.{Becomes}
use Rattle.history.specs.Meant.{Names}
use Rattle.history.specs.Promises.{Given, Begins}
use Rattle.history.specs.World.{World, Call, ours, look, open_file, create, read, write, seek, close, delete, rename, mode}
use Rattle.history.proofs.Laws.Begins.{on}
use Rattle.history.proofs.Laws.Came.{came_after, came_shows, came_others}
use Rattle.history.proofs.Laws.EveryCall.{came}
use Rattle.history.proofs.Laws.Given.{given_create}
use Rattle.history.proofs.Laws.OneNamed.{names_one}
use Rattle.history.proofs.Laws.Shown.{volume_shows}

-- there is a file
abbrev AFile : Option File → Type 0
AFile o = (f : File) × (o ≡ Some f)

-- the call deletes the file in slot s
pub record Erases (k : Kind) (w : World) (c : Call) (s : ℕ) : Type 0 where
  pub name : List ℕ
  pub call : c ≡ delete name
  pub does : Does k w c s

module _ (k : Kind) (l : List ℕ) (s : ℕ) where
  some_shown : (o : Option File) → ShowsAt k l s o → IsFile k l s → AFile o
  some_shown None y i = absurd (y i)
  some_shown (Some f) y i = (f, refl)

  shown_file : (o : Option File) → ShowsAt k l s o → AFile o → IsFile k l s
  shown_file o y x = (subst (ShowsAt k l s) x.1 y).is_file

-- ---- what becomes of a file

each_some : (h : File → File) (f : Option File) → AFile f → AFile (option_map h f)
each_some h None x = absurd (clash x.1)
  where
    clash : {f : File} → None ≡ Some f → ⊥
    clash e = let z : ◌≡◌ {A = ℕ} 0 1 = cc in omega arith
each_some h (Some f) x = (h f, refl)

either_some : (b : Bool) (f g : Option File) → AFile f → AFile g → AFile (cond b f g)
either_some true f g x y = x
either_some false f g x y = y

module _ (k : Kind) (w : World) (s : ℕ) (f g : Option File) (x : AFile f) where
  by : {o : Option File} → g ≡ o → AFile o → AFile g
  by e y = (y.0, e ∙ y.1)

  becomes_some : (c : Call) → Does k w c s → ¬ Erases k w c s → Becomes c w (ours c w) f g → AFile g
  becomes_some (look i) d n e = by e x
  becomes_some (open_file name access) d n e = by e x
  becomes_some (create name attr stamp) d n e = (_, e.2)
  becomes_some (read h buffer) d n e = by e x
  becomes_some (write h bs) d n e = by e (either_some (eqb (ours (write h bs) w).value 0) f _ x (each_some _ f x))
  becomes_some (seek h method offset) d n e = by e x
  becomes_some (close h stamp) d n e = by e (either_some (written_of w.table h) _ f (each_some _ f x) x)
  becomes_some (delete name) d n e = absurd (n (record { name = name; call = refl; does = d }))
  becomes_some (rename name new) d n e = by e.2 (each_some _ f x)
  becomes_some (mode name function attr) d n e = by e (either_some (eqb function 1) _ f (each_some _ f x) x)

-- ---- after a call

module _ (k : Kind) (w : World) (b : Begins k w) where
  abbrev fs : Files
  fs = (volume_shows k w.image (on b)).0

  shown : Shows k w.image fs
  shown = (volume_shows k w.image (on b)).1

  module _ (c : Call) (s : ℕ) (i : IsFile k w.image s) (n : ¬ Erases k w c s) where
    came_file : Came k w c → IsFile k (step w c).image s
    came_file (idle q e) = rw e i
    came_file (stays t d e q) = rw e i
    came_file (changes t ds d x) =
        let there = some_shown k w.image s (fs s) (shown s) i in
        elim (ℕ_discrete s t) [
          | yes e ↦
              let here = subst (Does k w c) (sym e) d in
              let g = x.makes (fs t) in
              subst (IsFile k (step w c).image) (sym e)
              (shown_file k (step w c).image t g.0 (x.there (fs t) g.0 (shown t) g.1)
              (becomes_some k w t (fs t) g.0 (subst (λ (j : ℕ). AFile (fs j)) e there) c d (subst (λ (j : ℕ). ¬ Erases k w c j) e n) g.1))
          | no other ↦
              shown_file k (step w c).image s (fs s)
              (came_others k w c b (changes t ds d x) s (λ q. other (names_one k w (on b) s t c q d.named)) (fs s) (shown s)) there
        ]

    pub file_stays : Given c → IsFile k (step w c).image s
    file_stays given = came_file (came k w c b given)

  pub created_file : (name : List ℕ) (attr : ℕ) (stamp : Stamp) (s : ℕ) → (ours (create name attr stamp) w).number ≡ 0
      → Names (create name attr stamp) k w s → IsFile k (step w (create name attr stamp)).image s
  created_file name attr stamp s well named =
      let c = create name attr stamp in
      let x = came k w c b (given_create name attr stamp) in
      let a = came_after k w c b x fs in
      shown_file k (step w c).image s (a.0 s) (came_shows k w c b x fs a.0 a.1 shown s) (_, (a.1.named well s named).2)
