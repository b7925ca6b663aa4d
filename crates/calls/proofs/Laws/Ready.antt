-- What the first two rows settle, in the form of the calls' needs: r is what ready answered.
use Rattle.std.specs.Prelude.{ℕ, ◌*◌, ◌≤◌, ◌⊎◌, false, not, List, ◌∷◌, ◌≡◌, length, ltb, Option, Some, None, Result, Ok, Err, ok_or}
use Rattle.std.proofs.Common.{arith, ap, ◌∙◌, subst, inl, inr}
use Rattle.std.proofs.Math.Path.{refl, sym}
use Rattle.diskette.specs.Images.{kind_of_image, OfKind}
use Rattle.diskette.specs.Aids.Usable.{Usable}
use Rattle.diskette.specs.Places.{first_data}
use Rattle.diskette.proofs.Laws.Images.{image_of_kind, image_usable, image_has_area}
use Rattle.diskette.specs.declared.Kind.{Kind}
use Rattle.sound.specs.Answer.{AnswersBy, Checked}
use Rattle.sound.specs.Findings.{TablesDiffer, NoValue, BadSlot, BadChain, InTwoChains, Lost}
use Rattle.sound.specs.Aids.FromFinding.{Counted, FromLost, FromTwo, FromChains, FromSlots, FromValues}
use Rattle.sound.proofs.Laws.Answer.{check_answers}
use Rattle.chains.specs.Verdict.{OrElse}
use Rattle.sound.specs.Counts.{counts_of, free_of}
use Rattle.sound.specs.Judged.{check_of, is_sound}
use Rattle.sound.specs.Aids.Judged.{is_sound_verdict}
use Rattle.sound.proofs.Laws.OneAnswer.{checked_is}
use Rattle.sound.specs.declared.Counts.{Counts}
use Rattle.sound.specs.declared.Finding.{Finding}
use Rattle.sound.specs.declared.Finding.TheVariants.{CopiesDiffer, BadValue, BadEntry, WrongChain, SharedCluster, LostCluster}
use Rattle.sound.specs.Numbers.{found}
use Rattle.calls.specs.Outcome.{Row}
use Rattle.calls.specs.Numbers.{of_no_kind, unsound, refusal_number}
use Rattle.calls.specs.Refusals.{not_of_kind, not_sound, is_unknown, kind_found, the_kind}
use Rattle.calls.specs.Aids.Ready.{ready_by, ready_of, OnVolume}
use Rattle.calls.specs.declared.refusal.Refusal.{Refusal}
use Rattle.calls.specs.declared.refusal.Refusal.TheVariants.{OfNoKind, Unsound}
use Rattle.calls.proofs.Laws.Exits.{lacked, had}
use Rattle.calls.proofs.Laws.Rows.{Stops, stops_at, stops_past}

-- ---- the code: w is the kind that was found, v what check answered

module _ (img : List ℕ) (w : Option Kind) (e : w ≡ kind_of_image img) (o : Result Kind Refusal) (wanted : o ≡ ok_or w OfNoKind) where
  pub ready_no_kind : (d : Refusal) → o ≡ Err d → (a : Result (Kind × ℕ) Refusal) → a ≡ Err d → a ≡ ready_of img
  unfolding ready_of
  ready_no_kind d q a x = let l = lacked w OfNoKind o wanted d q in rw (← e, l.0) (x ∙ ap Err (sym l.1))

  module _ (k : Kind) (q : o ≡ Ok k) (v : Result Counts Finding) (c : Checked img v) where
    pub ready_unsound : (n : Finding) → v ≡ Err n → Err Unsound ≡ ready_of img
    unfolding ready_of
    ready_unsound n f = rw (← e, had w OfNoKind o wanted k q, sym (checked_is c) ∙ f)

    pub ready_volume : (counts : Counts) → v ≡ Ok counts → ◌≡◌ {A = Result (Kind × ℕ) Refusal} (Ok (k, counts.free)) (ready_of img)
    unfolding ready_of
    ready_volume counts f = rw (← e, had w OfNoKind o wanted k q, sym (checked_is c) ∙ f)

-- ---- a volume that is ready

module _ (img : List ℕ) (k : Kind) (v : OnVolume img k) where
  pub on_kind_lem : the_kind img ≡ k
  on_kind_lem = ap kind_found v.known

  pub on_usable : Usable k
  on_usable = image_usable img k v.known

  pub on_of_kind : OfKind img k
  on_of_kind = (image_of_kind img k).0 v.known

  pub on_area : 512 * first_data k ≤ length img
  on_area = image_has_area img k on_of_kind on_usable

  pub known_passed : not_of_kind img ≡ false
  known_passed = ap is_unknown v.known

  pub sound_passed : not_sound img ≡ false
  sound_passed = ap not v.sound

  -- rows 40 and 41 are passed
  pub volume_past : (i j n : ℕ) (rows : List Row) → Stops rows n → Stops ((not_of_kind img, i) ∷ (not_sound img, j) ∷ rows) n
  volume_past i j n rows x = stops_past (not_of_kind img) i n ((not_sound img, j) ∷ rows) known_passed (stops_past (not_sound img) j n rows sound_passed x)

-- ---- from what ready answered

one_ready : (k j : Kind) (x y : ℕ) → ◌≡◌ {A = Result (Kind × ℕ) Refusal} (Ok (k, x)) (Ok (j, y)) → (k ≡ j) × (x ≡ y)
one_ready k j x y e =
    let same : ◌≡◌ {A = Kind × ℕ} (k, x) (j, y) = cc in
    (ap (λ (p : Kind × ℕ). p.0) same, ap (λ (p : Kind × ℕ). p.1) same)

refused_not : (A : Type 0) (e : Refusal) (x : Kind × ℕ) → Err e ≡ Ok x → A
refused_not A e x q = absurd (let z : ◌≡◌ {A = ℕ} 0 1 = cc in omega arith)

volume_not : (A : Type 0) (e : Refusal) (x : Kind × ℕ) → Ok x ≡ Err e → A
volume_not A e x q = absurd (let z : ◌≡◌ {A = ℕ} 0 1 = cc in omega arith)

sound_by : (img : List ℕ) (v : Result Counts Finding) → check_of img ≡ v → is_sound img ≡ is_sound_verdict v
unfolding is_sound
sound_by img v e = ap is_sound_verdict e

on_by : (img : List ℕ) (w : Option Kind) (v : Result Counts Finding) → kind_of_image img ≡ w → check_of img ≡ v → (k : Kind) (free : ℕ) → ready_by w v ≡ Ok (k, free) → OnVolume img k
on_by img (Some j) (Ok x) ew ev k free q =
    record { known = ew ∙ ap Some (one_ready j k x.free free q).0; sound = sound_by img (Ok x) ev }
on_by img (Some j) (Err n) ew ev k free q = refused_not (OnVolume img k) Unsound (k, free) q
on_by img None v ew ev k free q = refused_not (OnVolume img k) OfNoKind (k, free) q

-- a finding is no count: what is left after it holds
counted : (B : ℕ → Type 0) (say : ℕ → Finding) (Rest : Result Counts Finding → Type 0) (x : Counts) → OrElse ltb B (found say) Rest (Ok x)
    → Rest (Ok x)
counted B say Rest x (inl y) = absurd (let z : ◌≡◌ {A = ℕ} 0 1 = cc y.2 in omega arith)
counted B say Rest x (inr y) = y.1

free_by : (k : Kind) (l : List ℕ) (w : Option Kind) (x : Counts) → w ≡ Some k → AnswersBy w l (Ok x) → x.free ≡ free_of k l
free_by k l (Some j) x q y =
    let e : j ≡ k = cc (q) in
    let c =
    counted (Lost j l) LostCluster (Counted j l) x
    (counted (InTwoChains j l) SharedCluster (FromLost j l) x
    (counted (BadChain j l) WrongChain (FromTwo j l) x
    (counted (BadSlot j l) BadEntry (FromChains j l) x
    (counted (NoValue j l) BadValue (FromSlots j l) x
    (counted (TablesDiffer j l) CopiesDiffer (FromValues j l) x y))))) in
    let o : x ≡ counts_of j l c.0 = cc c.2 in
    let f : x.free ≡ free_of j l = ap (λ (z : Counts). z.free) o in
    rw e at f
free_by k l None x q y = absurd (let z : ◌≡◌ {A = ℕ} 0 1 = cc (q) in omega arith)

count_by : (img : List ℕ) (w : Option Kind) (v : Result Counts Finding) → kind_of_image img ≡ w → check_of img ≡ v → (k : Kind) (free : ℕ) → ready_by w v ≡ Ok (k, free) → free ≡ free_of k img
count_by img (Some j) (Ok x) ew ev k free q =
    let o = one_ready j k x.free free q in
    let c : AnswersBy (kind_of_image img) img (Ok x) = subst (AnswersBy (kind_of_image img) img) ev (check_answers img).is in
    sym o.1 ∙ free_by k img (kind_of_image img) x (ew ∙ ap Some o.0) c
count_by img (Some j) (Err n) ew ev k free q = refused_not (free ≡ free_of k img) Unsound (k, free) q
count_by img None v ew ev k free q = refused_not (free ≡ free_of k img) OfNoKind (k, free) q

-- why ready refuses: no kind, or a volume of a kind that is not sound
abbrev pub Because : List ℕ → Refusal → Type 0
Because img e =
    ((kind_of_image img ≡ None) × (OfNoKind ≡ e)) ⊎ ((k : Kind) × (kind_of_image img ≡ Some k) × (is_sound img ≡ false) × (Unsound ≡ e))

because_by : (img : List ℕ) (w : Option Kind) (v : Result Counts Finding) → kind_of_image img ≡ w → check_of img ≡ v → (e : Refusal) → ready_by w v ≡ Err e → Because img e
because_by img (Some j) (Ok x) ew ev e q = volume_not _ e (j, x.free) q
because_by img (Some j) (Err n) ew ev e q = inr (j, ew, sound_by img (Err n) ev, cc)
because_by img None v ew ev e q = inl (ew, cc)

-- and so by the number of one of the first two rows
stops_by : (img : List ℕ) (rows : List Row) (e : Refusal) → Because img e → Stops ((not_of_kind img, of_no_kind) ∷ (not_sound img, unsound) ∷ rows) (refusal_number e)
stops_by img rows e (inl x) =
    subst (λ r. Stops ((not_of_kind img, of_no_kind) ∷ (not_sound img, unsound) ∷ rows) (refusal_number r)) x.1
    (stops_at (not_of_kind img) of_no_kind ((not_sound img, unsound) ∷ rows) (ap is_unknown x.0) refl)
stops_by img rows e (inr x) =
    subst (λ r. Stops ((not_of_kind img, of_no_kind) ∷ (not_sound img, unsound) ∷ rows) (refusal_number r)) x.3
    (stops_past (not_of_kind img) of_no_kind unsound ((not_sound img, unsound) ∷ rows) (ap is_unknown x.1)
    (stops_at (not_sound img) unsound rows (ap not x.2) refl))

module _ (img : List ℕ) (r : Result (Kind × ℕ) Refusal) (e : r ≡ ready_of img) where
  pub ready_on : (k : Kind) (free : ℕ) → r ≡ Ok (k, free) → OnVolume img k
  unfolding ready_of
  ready_on k free q = on_by img (kind_of_image img) (check_of img) refl refl k free (sym e ∙ q)

  pub ready_free : (k : Kind) (free : ℕ) → r ≡ Ok (k, free) → free ≡ free_of k img
  unfolding ready_of
  ready_free k free q = count_by img (kind_of_image img) (check_of img) refl refl k free (sym e ∙ q)

  pub refused_because : (n : Refusal) → r ≡ Err n → Because img n
  unfolding ready_of
  refused_because n q = because_by img (kind_of_image img) (check_of img) refl refl n (sym e ∙ q)

  pub not_ready : (n : Refusal) → r ≡ Err n → (rows : List Row) → Stops ((not_of_kind img, of_no_kind) ∷ (not_sound img, unsound) ∷ rows) (refusal_number n)
  not_ready n q rows = stops_by img rows n (refused_because n q)
