-- Every number that check and free space answer fits 32 bits.
use Rattle.std.specs.Prelude.{ℕ, zero, suc, ◌≤◌, ◌<◌, Bool, true, false, List, [], ◌∷◌, ◌≡◌, refl, ltb, eqb, length, get_or, Option, Some, None, Result, Ok, Err}
use Rattle.std.proofs.Common.{arith, inl, inr, sym, subst, ◌∙◌}
use Rattle.chains.specs.Lists.{◌∈◌}
use Rattle.chains.specs.Sums.{tally, bit}
use Rattle.chains.specs.Values.{Link}
use Rattle.chains.specs.Verdict.{OrElse}
use Rattle.search.specs.Search.{Nowhere}
use Rattle.chains.proofs.Laws.Tests.{says_dec}
use Rattle.diskette.specs.Images.{kind_of_image, kind_of_area}
use Rattle.diskette.specs.Kinds.{named}
use Rattle.diskette.specs.Aids.Usable.{Usable}
use Rattle.diskette.specs.Places.{last_cluster, root_entries}
use Rattle.diskette.proofs.Laws.Images.{image_of_kind, area_of_kind, image_usable, area_usable}
use Rattle.diskette.proofs.Laws.Kinds.{OfKnown, of_cond}
use Rattle.diskette.specs.declared.Kind.{Kind}
use Rattle.sound.specs.Counts.{is_file, free_of}
use Rattle.sound.specs.Answer.{AnswersOf, AnswersBy, Checked, CheckedArea}
use Rattle.sound.specs.Files.{ChainOf, none_of_it, enough}
use Rattle.sound.specs.Findings.{TablesDiffer, NoValue, BadSlot, BadChain, InTwoChains, Lost}
use Rattle.sound.specs.Aids.FromFinding.{FromLost, FromTwo, FromChains, FromSlots, FromValues, Counted}
use Rattle.sound.specs.Sound.{NoFinding}
use Rattle.sound.proofs.Laws.IsSound.{known_says}
use Rattle.sound.proofs.Laws.Sound.{sound_exactly}
use Rattle.sound.proofs.Laws.Total.{total}
use Rattle.sound.specs.Numbers.{found, number_of, place_of}
use Rattle.sound.specs.declared.Counts.{Counts}
use Rattle.sound.specs.declared.Finding.{Finding}
use Rattle.sound.specs.declared.Finding.TheVariants.{OfNoKind, CopiesDiffer, BadValue, BadEntry, WrongChain, SharedCluster, LostCluster}
use Rattle.calls.specs.declared.refusal.Refusal.{Refusal}
use Rattle.calls.specs.Answers.{number_told}
use Rattle.calls.proofs.Laws.Told.{told_low}
use Rattle.freespace.specs.FreeSpace.{space_with, Spaced}
use Rattle.freespace.specs.declared.Space.{Space}
use Rattle.freespace.proofs.Laws.FreeSpace.{space_unknown, space_unsound, space_sound}
use Rattle.scale.specs.Aids.Fits.{Fits, VerdictFits, SpaceFits}

-- ---- what bounds them

-- no kind has more than two sectors in a copy of the table
few_sectors : (b : ℕ) → OfKnown (λ (k : Kind). k.fat ≤ 2) (named b)
unfolding named
few_sectors b =
    let P : Kind → Type 0 = λ (k : Kind). k.fat ≤ 2 in
    of_cond P (eqb b 0xFE) _ _ (λ e. omega arith)
    (of_cond P (eqb b 0xFF) _ _ (λ e. omega arith)
    (of_cond P (eqb b 0xFC) _ _ (λ e. omega arith)
    (of_cond P (eqb b 0xFD) _ _ (λ e. omega arith)
    tt)))

few : (k : Kind) → named k.byte ≡ Some k → k.fat ≤ 2
few k e = subst (OfKnown (λ (x : Kind). x.fat ≤ 2)) e (few_sectors k.byte)

-- a tally is at most what it counts over
bit_low : (b : Bool) → bit b ≤ 1
bit_low true = omega arith
bit_low false = omega arith

tally_low : (t : ℕ → Bool) (n c : ℕ) → tally t n c ≤ n
unfolding tally
tally_low t zero c = omega arith
tally_low t (suc n) c = omega (arith, bit_low (t c), tally_low t n (suc c))

-- what is so at each index is so of each member
each : (P : ℕ → Type 0) (cs : List ℕ) → ((i : ℕ) → i < length cs → P (get_or cs i 0)) → (a : ℕ) → a ∈ cs → P a
each P [] h a m = elim m [ ]
each P (x ∷ xs) h a (inl e) = subst P (sym e) (h 0 (omega arith))
each P (x ∷ xs) h a (inr m) = each P xs (λ i p. h (suc i) (omega arith)) a m

chain_link : (k : Kind) (l : List ℕ) (s c : ℕ) (cs : List ℕ) → ChainOf k l s cs → c ∈ cs → Link (last_cluster k) c
chain_link k l s c cs (none_of_it z o e) m = absurd (subst (λ (ds : List ℕ). c ∈ ds) e m)
chain_link k l s c cs (enough z n q) m = each (Link (last_cluster k)) cs q.in_range c m

-- ---- a verdict

finding_fits : (f : Finding) → Fits (number_of f) → Fits (place_of f) → VerdictFits (Err f)
finding_fits f n p = record { numbers = (n, p) }

module _ (k : Kind) (u : Usable k) (f : k.fat ≤ 2) (l : List ℕ) where
  after : (B : ℕ → Type 0) (finding : ℕ → Finding) (Rest : Result Counts Finding → Type 0) (v : Result Counts Finding)
      → ((p : ℕ) → B p → Fits (number_of (finding p)) × Fits (place_of (finding p))) → (Nowhere B → Rest v → VerdictFits v) → OrElse ltb B (found finding) Rest v → VerdictFits v
  after B finding Rest v fits rest (inl x) = subst VerdictFits (sym x.2) (record { numbers = fits x.0 x.1.0 })
  after B finding Rest v fits rest (inr x) = rest x.0 x.1

  counts_fit : (v : Result Counts Finding) → NoFinding k l → Counted k l v → VerdictFits v
  counts_fit v n e =
      let t = total k u l ((sound_exactly k u l).1 n) e.0 e.1 in
      let files = tally_low (is_file k l) (root_entries k) 0 in
      let c = u.below_reserved in
      let r = u.few_slots in
      subst VerdictFits (sym e.2) (record { numbers = (omega arith, omega arith, omega arith, omega arith, omega arith) })

  answer_fits : (v : Result Counts Finding) → AnswersOf k l v → VerdictFits v
  answer_fits v =
      after (TablesDiffer k l) CopiesDiffer (FromValues k l) v (λ p b. let x = b.0 in (omega arith, omega arith)) (λ n2.
      after (NoValue k l) BadValue (FromSlots k l) v (λ p b. let x = b.0.1 in (omega arith, omega (arith, u.below_reserved))) (λ n3.
      after (BadSlot k l) BadEntry (FromChains k l) v (λ p b. let x = b.0 in (omega arith, omega (arith, u.few_slots))) (λ n4.
      after (BadChain k l) WrongChain (FromTwo k l) v (λ p b. let x = b.0.below in (omega arith, omega (arith, u.few_slots))) (λ n5.
      after (InTwoChains k l) SharedCluster (FromLost k l) v (λ p b. let x = (chain_link k l b.0 p b.3.1.0 b.3.1.1 b.3.1.2).1 in (omega arith, omega (arith, u.below_reserved))) (λ n6.
      after (Lost k l) LostCluster (Counted k l) v (λ p b. let x = b.0.1 in (omega arith, omega (arith, u.below_reserved))) (λ n7.
      counts_fit v (record { tables = n2; values = n3; slots = n4; chains = n5; two = n6; lost = n7 })))))))

fits_by : (w : Option Kind) (l : List ℕ) (v : Result Counts Finding) → ((k : Kind) → w ≡ Some k → Usable k × (k.fat ≤ 2)) → AnswersBy w l v → VerdictFits v
fits_by (Some k) l v known a = answer_fits k (known k refl).0 (known k refl).1 l v a
fits_by None l v known a = subst VerdictFits (sym a) (finding_fits OfNoKind (omega arith) (omega arith))

pub check_fits : (img : List ℕ) (v : Result Counts Finding) → Checked img v → VerdictFits v
check_fits img v a = fits_by (kind_of_image img) img v (λ k e. (image_usable img k e, few k ((image_of_kind img k).0 e).listed)) a.is

pub area_fits : (area : List ℕ) (v : Result Counts Finding) → CheckedArea area v → VerdictFits v
area_fits area v a = fits_by (kind_of_area area) area v (λ k e. (area_usable area k e, few k ((area_of_kind area k).0 e).listed)) a.is

-- so a finding and its place can be handed on as 32 bits each
module _ (v : Result Counts Finding) (h : VerdictFits v) (f : Finding) (e : v ≡ Err f) (n : ℕ) where
  pub number_fits : n ≡ number_of f → n < 4294967296
  number_fits q = rw q (subst VerdictFits e h).numbers.0

  pub place_fits : n ≡ place_of f → n < 4294967296
  place_fits q = rw q (subst VerdictFits e h).numbers.1

-- ---- free space

found_fits : (img : List ℕ) (a : Result Space Refusal) → Spaced img a → (s : Space) → a ≡ Ok s → SpaceFits s
found_fits img a t s q = go (kind_of_image img) refl
  where
    go : (w : Option Kind) → kind_of_image img ≡ w → SpaceFits s
    go (Some k) e = elim (says_dec (known_says img k e)) [
      | yes v ↦
          let u = image_usable img k e in
          let b = total k u img v v.0 v.1.chains in
          let p : s ≡ space_with k (free_of k img) = let z = sym q ∙ t.is ∙ space_sound img k e v in cc in
          subst SpaceFits (sym p) (record { free_fits = omega (arith, u.below_reserved); clusters_fit = omega (arith, u.below_reserved); sector_fits = omega arith; per_fits = omega (arith, u.per_high) })
      | no n ↦ absurd (let z = sym q ∙ t.is ∙ space_unsound img k e n in let y : ◌≡◌ {A = ℕ} 0 1 = cc in omega arith)
    ]
    go None e = absurd (let z = sym q ∙ t.is ∙ space_unknown img e in let y : ◌≡◌ {A = ℕ} 0 1 = cc in omega arith)

pub space_fits : (img : List ℕ) (a : Result Space Refusal) → Spaced img a → Fits (number_told a) × ((s : Space) → a ≡ Ok s → SpaceFits s)
space_fits img a t = (omega (arith, told_low a), found_fits img a t)

-- so the free clusters can be handed on as 32 bits
pub free_fits : (img : List ℕ) (a : Result Space Refusal) → Spaced img a → (s : Space) → a ≡ Ok s → s.free < 4294967296
free_fits img a t s q = ((space_fits img a t).1 s q).free_fits
