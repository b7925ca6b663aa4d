-- What follows for any call, however it came out: the volume is sound still, the files are those of the history, and no file but
-- the one named is altered.
use Rattle.std.specs.Prelude.{ℕ, ◌+◌, ◌<◌, List, ◌≢◌, ◌⊎◌, ◌≡◌, refl, get_or, Option, Some, None}
use Rattle.std.proofs.Math.Decide.{ℕ_discrete}
use Rattle.std.proofs.Common.{inl, inr, sym, ap, subst}
use Rattle.chains.specs.Aids.Put.{put}
use Rattle.chains.proofs.Laws.Put.{put_same, put_other}
use Rattle.diskette.specs.Places.{root_entries, slot_at}
use Rattle.diskette.specs.declared.Kind.{Kind}
use Rattle.directory.specs.Entries.{SameBytes}
use Rattle.changes.specs.Files.{File, Files, Shows, ShowsAt}
use Rattle.changes.proofs.Laws.Changed.{changed_on, other_none, other_holds}
use Rattle.history.specs.Aids.Ours.{step}
use Rattle.history.specs.Aids.Came.{Came, Does, Changes, idle, stays, changes}
use Rattle.history.specs.History.{Becomes, After}
use Rattle.history.specs.Meant.{Names}
use Rattle.history.specs.Promises.{Begins}
use Rattle.history.specs.World.{World, Call, Look, ours, look}
use Rattle.history.proofs.Laws.Begins.{on, on_begins}
use Rattle.history.proofs.Laws.Meant.{names_none}
use Rattle.history.proofs.Laws.OneNamed.{names_one}

module _ (k : Kind) (w : World) (c : Call) (b : Begins k w) where
  abbrev m : List ℕ
  m = (step w c).image

  -- an image that stays is sound as it was
  same_begins : m ≡ w.image → Begins k (step w c)
  same_begins e = on_begins k (step w c) (rw e (on b)) (rw e b.bytes)

  pub came_begins : Came k w c → Begins k (step w c)
  came_begins (idle q e) = same_begins e
  came_begins (stays s d e q) = same_begins e
  came_begins (changes s ds d x) = on_begins k (step w c) (changed_on k w.image (on b) m s ds x.changed) x.bytes

  -- ---- the file that it names

  one : (s t : ℕ) → Does k w c s → Names c k w t → t ≡ s
  one s t d n = names_one k w (on b) t s c n d.named

  pub came_names : Came k w c → ((x : Look) → c ≢ look x) → (ours c w).number ≡ 0 → (s : ℕ) × Names c k w s × ((t : ℕ) → Names c k w t → t ≡ s)
  came_names (idle (inl n) e) acts well = absurd (n well)
  came_names (idle (inr q) e) acts well = absurd (acts q.0 q.1)
  came_names (stays s d e q) acts well = (s, d.named, λ t. one s t d)
  came_names (changes s ds d x) acts well = (s, d.named, λ t. one s t d)

  -- ---- the files after it

  -- a call that ends well and names slot s, and files that differ there as the history says
  pub after_does : (s : ℕ) → Does k w c s → (fs gs : Files) → Becomes c w (ours c w) (fs s) (gs s) → ((t : ℕ) → t ≢ s → gs t ≡ fs t)
      → After ours k w c fs gs
  after_does s d fs gs there others = record {
    refused = λ n. absurd (n d.well);
    named = λ well t n. subst (λ (i : ℕ). Becomes c w (ours c w) (fs i) (gs i)) (sym (one s t d n)) there;
    others = λ t n. others t (λ e. n (subst (Names c k w) (sym e) d.named));
  }

  -- the history goes on
  pub came_after : Came k w c → (fs : Files) → (gs : Files) × After ours k w c fs gs
  came_after (idle q e) fs = (fs, record { refused = λ n s. refl; named = λ well s n. absurd (clash q well s n); others = λ s n. refl })
    where
      clash : ((ours c w).number ≢ 0) ⊎ ((x : Look) × (c ≡ look x)) → (ours c w).number ≡ 0 → (s : ℕ) → Names c k w s → ⊥
      clash (inl n) well s x = n well
      clash (inr p) well s x = names_none k w c p.0 p.1 s x
  came_after (stays s d e q) fs = (fs, after_does s d fs fs ((q (fs s) (fs s)).1 refl) (λ t n. refl))
  came_after (changes s ds d x) fs =
      let g = x.makes (fs s) in
      let gs = put fs s g.0 in
      (gs, after_does s d fs gs (rw (put_same fs s g.0 s refl) g.1) (λ t n. put_other fs s g.0 t n))

  other_shows : (s : ℕ) (ds : List ℕ) → Changes k w c s ds → (t : ℕ) → t ≢ s → (o : Option File) → ShowsAt k w.image t o → ShowsAt k m t o
  other_shows s ds x t n None h = other_none k w.image (on b) m s ds x.changed t n h
  other_shows s ds x t n (Some f) h = other_holds k w.image (on b) m s ds x.changed t n h.is_file f h

  pub came_shows : Came k w c → (fs gs : Files) → After ours k w c fs gs → Shows k w.image fs → Shows k m gs
  came_shows (idle q e) fs gs a y t = rw e (subst (ShowsAt k w.image t) (sym (kept q)) (y t))
    where
      kept : ((ours c w).number ≢ 0) ⊎ ((x : Look) × (c ≡ look x)) → gs t ≡ fs t
      kept (inl n) = a.refused n t
      kept (inr p) = a.others t (names_none k w c p.0 p.1 t)
  came_shows (stays s d e q) fs gs a y t = rw e (subst (ShowsAt k w.image t) (sym kept) (y t))
    where
      kept : gs t ≡ fs t
      kept = elim (ℕ_discrete t s) [
        | yes z ↦ (q (fs t) (gs t)).0 (a.named d.well t (subst (Names c k w) (sym z) d.named))
        | no n ↦ a.others t (λ x. n (one s t d x))
      ]
  came_shows (changes s ds d x) fs gs a y t = elim (ℕ_discrete t s) [
    | yes z ↦ subst (λ (i : ℕ). ShowsAt k m i (gs i)) (sym z) (x.there (fs s) (gs s) (y s) (a.named d.well s d.named))
    | no n ↦ subst (ShowsAt k m t) (sym (a.others t (λ q. n (one s t d q)))) (other_shows s ds x t n (fs t) (y t))
  ]

  -- ---- every other slot

  -- the 32 bytes of its entry
  pub came_entries : Came k w c → (t : ℕ) → t < root_entries k → ¬ Names c k w t → SameBytes m (slot_at k t) w.image (slot_at k t)
  came_entries (idle q e) t i n j h = ap (λ (l : List ℕ). get_or l (slot_at k t + j) 0) e
  came_entries (stays s d e q) t i n j h = ap (λ (l : List ℕ). get_or l (slot_at k t + j) 0) e
  came_entries (changes s ds d x) t i n j h = x.changed.frame.others t i (λ q. n (subst (Names c k w) (sym q) d.named)) j h

  -- and what it shows
  pub came_others : Came k w c → (t : ℕ) → ¬ Names c k w t → (o : Option File) → ShowsAt k w.image t o → ShowsAt k m t o
  came_others (idle q e) t n o y = rw e y
  came_others (stays s d e q) t n o y = rw e y
  came_others (changes s ds d x) t n o y = other_shows s ds x t (λ q. n (subst (Names c k w) (sym q) d.named)) o y
