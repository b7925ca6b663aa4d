-- A search by name, and a handle, find a file.
use Rattle.std.specs.Prelude.{ℕ, ◌+◌, ◌<◌, Bool, true, false, ◌&&◌, List, ◌≡◌, refl, Option, Some, None}
use Rattle.std.proofs.Common.{arith, sym, ◌∙◌, subst}
use Rattle.diskette.specs.Places.{root_entries, slot_at}
use Rattle.diskette.specs.declared.Kind.{Kind}
use Rattle.search.proofs.Laws.Meaning.{LowestIs, lowest_is}
use Rattle.fields.specs.Fields.{name_of}
use Rattle.directory.specs.Slots.{standing_of, is_plain}
use Rattle.directory.specs.Search.{same_from, slot_named}
use Rattle.directory.specs.Aids.Search.{named_slot}
use Rattle.directory.proofs.Laws.Slots.{plain_is}
use Rattle.opened.specs.Aids.Places.{live_slot}
use Rattle.opened.proofs.Laws.Places.{live_slot_is}
use Rattle.sound.specs.Files.{IsFile}
use Rattle.calls.specs.Aids.Ready.{OnVolume}
use Rattle.holding.specs.Aids.Files.{FileAt}
use Rattle.holding.proofs.Laws.Chain.{file_at}

both_first : (a b : Bool) → (a && b) ≡ true → a ≡ true
both_first true b e = refl
both_first false b e = e

file_by : (img : List ℕ) (k : Kind) (name : List ℕ) (slot : ℕ) (f : Option ℕ) → LowestIs (named_slot img (slot_at k) name) 0 (root_entries k) f → f ≡ Some slot → IsFile k img slot
file_by img k name slot (Some i) x e =
    let z : i ≡ slot = cc in
    let y : i < 0 + root_entries k = x.1 in
    subst (IsFile k img) z
    (record {
      below = omega arith;
      plain = (plain_is img (slot_at k i)).0 (both_first (is_plain (standing_of img (slot_at k i))) (same_from (name_of img (slot_at k i)) name 0 11) x.2);
    })
file_by img k name slot None x e = absurd (let z : ◌≡◌ {A = ℕ} 0 1 = cc in omega arith)

pub named_file : (img : List ℕ) (k : Kind) (name : List ℕ) (f : Option ℕ) → f ≡ slot_named img (slot_at k) (root_entries k) name → (slot : ℕ) → f ≡ Some slot → IsFile k img slot
unfolding slot_named
named_file img k name f e slot q = file_by img k name slot f (rw e (lowest_is (named_slot img (slot_at k) name) 0 (root_entries k))) q

pub live_file : (img : List ℕ) (k : Kind) (t : List ℕ) (h : ℕ) (f : Option ℕ) → f ≡ live_slot t h img (slot_at k) (root_entries k) → (slot : ℕ) → f ≡ Some slot → IsFile k img slot
live_file img k t h f found slot at =
    let x = live_slot_is t h img (slot_at k) (root_entries k) slot (sym found ∙ at) in
    record { below = rw (← x.1) x.0.slot; plain = rw (← x.1) x.0.plain }

pub live_file_at : (img : List ℕ) (k : Kind) → OnVolume img k → (t : List ℕ) (h : ℕ) (f : Option ℕ) → f ≡ live_slot t h img (slot_at k) (root_entries k)
    → (slot : ℕ) → f ≡ Some slot → (a : ℕ) → a ≡ slot_at k slot → FileAt k img a
live_file_at img k v t h f found slot at a e = file_at img k v slot (live_file img k t h f found slot at) a e
