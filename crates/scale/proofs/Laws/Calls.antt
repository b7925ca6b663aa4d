-- The calls, in the form of the code's needs; and that no second outcome satisfies a contract.
use Rattle.std.specs.Prelude.{ℕ, List, [], ◌∷◌, ◌≡◌, ℤ, Option, Some, None, Result, Ok, Err, MatchResult, IsOkAnd}
use Rattle.std.proofs.Math.Path.{refl}
use Rattle.std.proofs.Common.{sym, ap, ◌∙◌, SFits, to_z, of_z}
use Rattle.std.specs.Int.{w32}
use Rattle.sound.specs.Answer.{Checked, CheckedArea}
use Rattle.sound.specs.Numbers.{number_of, place_of}
use Rattle.sound.proofs.Laws.OneAnswer.{checked_is, area_is}
use Rattle.sound.specs.declared.Counts.{Counts}
use Rattle.sound.specs.declared.Finding.{Finding}
use Rattle.entries.specs.Entry.{entry_told, Told}
use Rattle.entries.specs.declared.EntryFields.{EntryFields}
use Rattle.formatting.specs.Format.{formatted, Formatted}
use Rattle.freespace.specs.FreeSpace.{free_space, Spaced}
use Rattle.freespace.specs.declared.Space.{Space}
use Rattle.calls.specs.Answers.{Answer, number_told, value_told}
use Rattle.calls.specs.Outcome.{Outcome, outcome}
use Rattle.calls.specs.declared.refusal.Refusal.{Refusal}
use Rattle.closing.specs.Close.{close_outcome, Closes}
use Rattle.seeking.specs.Seek.{seek_outcome, Seeks}
use Rattle.seeking.proofs.Laws.Seek.{seek_handed}
use Rattle.creating.specs.Create.{create_outcome, Creates}
use Rattle.viewing.specs.View.{ViewNumbers}
use Rattle.stamps.specs.declared.Stamp.{Stamp}
use Rattle.packing.specs.Aids.Packing.{Packs}
use Rattle.packing.proofs.Laws.Packing.{same_halves}
use Rattle.scale.specs.Out.{put_out, words, fields}
use Rattle.scale.specs.Calls.{Leaves, verdict_told, check_call, check_system_call, space_told, free_space_call, fields_told, entry_call, view_number_call}
use Rattle.scale.specs.Aids.Tells.{TellsVerdict, TellsSpace, TellsEntry}

-- ---- no second outcome satisfies the contract of a call

pub leaves_only : (o : Outcome) (a b : ℕ) (image image' table table' buffer buffer' : List ℕ) → Leaves o a image table buffer → Leaves o b image' table' buffer'
    → (a ≡ b) × (image ≡ image') × (table ≡ table') × (buffer ≡ buffer')
leaves_only o a b image image' table table' buffer buffer' s t =
    let e = s.is ∙ sym t.is in
    (same_halves a b (ap (λ (x : Outcome). x.number) e) (ap (λ (x : Outcome). x.value) e), ap (λ (x : Outcome). x.image) e, ap (λ (x : Outcome). x.table) e, ap (λ (x : Outcome). x.buffer) e)

-- ---- what a call answered, handed on: a is that answer

pub hands : (o : Outcome) (a : Answer) (r : ℕ) (image table buffer : List ℕ) → outcome (number_told a) (value_told a) image table buffer ≡ o → Packs (number_told a) (value_told a) r
    → Leaves o r image table buffer
hands o a r image table buffer e p = record { is = rw (p.number_is, p.value_is) e }

-- the stamp goes over as what was built of its six numbers
module _ (img t : List ℕ) (built stamp : Stamp) (same : built ≡ stamp) (a : Answer) (r : ℕ) (m u : List ℕ) where
  pub create_hands : (name : List ℕ) (attr : ℕ) → Creates img t name attr built a m u → Packs (number_told a) (value_told a) r → Leaves (create_outcome img t name attr stamp) r m u []
  create_hands name attr x p = hands _ a r m u [] (x.is ∙ ap (create_outcome img t name attr) same) p

  pub close_hands : (handle : ℕ) → Closes img t handle built a m u → Packs (number_told a) (value_told a) r → Leaves (close_outcome img t handle stamp) r m u []
  close_hands handle x p = hands _ a r m u [] (x.is ∙ ap (close_outcome img t handle) same) p

-- the offset goes over to seek as its 32 bits
pub seek_hands : (img t : List ℕ) (handle method : ℕ) (offset : ℤ) (a : Answer) (r : ℕ) (m : List ℕ) → SFits w32 offset
    → Seeks img t handle method (to_z w32 (of_z w32 offset)) a m → Packs (number_told a) (value_told a) r → Leaves (seek_outcome img t handle method offset) r img m []
seek_hands img t handle method offset a r m fits x p = hands _ a r img m [] (seek_handed img t handle method offset a m fits x).is p

-- ---- format: it answers no value, and 0 is handed on

module _ (P : Unit → ℕ → Type 0) (zero : (x : Unit) (v : ℕ) → P x v → v ≡ 0) where
  no_value : (f : Result Unit Refusal) (a : Answer) → MatchResult f (λ x. IsOkAnd a (P x)) (λ e. a ≡ Err e) → (number_told a ≡ number_told f) × (value_told a ≡ 0)
  no_value (Ok x) (Ok v) h = (refl, zero x v h)
  no_value (Ok x) (Err e) h = absurd h
  no_value (Err e) a h = rw h (refl, refl)

  pub format_leaves : (l : List ℕ) (kind : ℕ) (f : Result Unit Refusal) (m : List ℕ) → Formatted l kind f m → (a : Answer) → MatchResult f (λ x. IsOkAnd a (P x)) (λ e. a ≡ Err e)
      → (r : ℕ) → Packs (number_told a) (value_told a) r → Leaves (formatted kind l) r m [] []
  format_leaves l kind f m x a h r p = let n = no_value f a h in hands _ a r m [] [] (rw (n.0, n.1) x.is) p

-- ---- check: v is the verdict

module _ (out : List ℕ) (v : Result Counts Finding) (r : ℕ) where
  pub sound_leaves : (n : Counts) (m : List ℕ) → v ≡ Ok n → m ≡ put_out out (words (n.files ∷ n.free ∷ n.held ∷ n.bad ∷ n.reserved ∷ [])) → Packs 0 0 r → TellsVerdict v out r m
  unfolding verdict_told
  sound_leaves n m e p h = record { of = λ l. record { is = rw (e, p, h.number_is, h.value_is) } }

  pub finding_leaves : (f : Finding) (number place : ℕ) → v ≡ Err f → number ≡ number_of f → place ≡ place_of f → Packs number place r → TellsVerdict v out r out
  unfolding verdict_told
  finding_leaves f number place e n p h = record { of = λ l. record { is = rw (e, h.number_is, h.value_is, n, p) } }

  pub check_leaves : (img m : List ℕ) → Checked img v → TellsVerdict v out r m → Leaves (check_call img out) r img [] m
  check_leaves img m a s = record { is = (s.of img).is ∙ ap (λ w. verdict_told img w out) (checked_is a) }

  pub area_leaves : (area m : List ℕ) → CheckedArea area v → TellsVerdict v out r m → Leaves (check_system_call area out) r area [] m
  area_leaves area m a s = record { is = (s.of area).is ∙ ap (λ w. verdict_told area w out) (area_is a) }

-- ---- free space: a is what it answered

module _ (img out : List ℕ) (a : Result Space Refusal) (t : Spaced img a) where
  pub space_put : (s : Space) → a ≡ Ok s → (m : List ℕ) → m ≡ put_out out (words (s.free ∷ s.clusters ∷ s.sector ∷ s.per ∷ [])) → TellsSpace img out (Ok s.free) m
  unfolding free_space_call
  space_put s q m p = record { is = rw (← t.is, q, p) }

  pub space_refused : (e : Refusal) → a ≡ Err e → (x : Answer) → x ≡ Err e → TellsSpace img out x out
  unfolding free_space_call
  space_refused e q x p = record { is = rw (← t.is, q, p) }

pub space_leaves : (img out : List ℕ) (a : Answer) (r : ℕ) (m : List ℕ) → TellsSpace img out a m → Packs (number_told a) (value_told a) r → Leaves (free_space_call img out) r img [] m
space_leaves img out a r m s p = hands _ a r img [] m s.is p

-- ---- entry: a is what it answered

module _ (img : List ℕ) (slot : ℕ) (out : List ℕ) (a : Result (Option EntryFields) Refusal) (t : Told img slot a) where
  pub entry_put : (e : EntryFields) → a ≡ Ok (Some e) → (m : List ℕ) → m ≡ put_out out (fields e.name e.attr e.time e.date e.start e.size) → TellsEntry img slot out (Ok 1) m
  unfolding entry_call
  entry_put e q m p = record { is = rw (← t.is, q, p) }

  pub entry_none : a ≡ Ok None → TellsEntry img slot out (Ok 0) out
  unfolding entry_call
  entry_none q = record { is = rw (← t.is, q) }

  pub entry_refused : (e : Refusal) → a ≡ Err e → (x : Answer) → x ≡ Err e → TellsEntry img slot out x out
  unfolding entry_call
  entry_refused e q x p = record { is = rw (← t.is, q, p) }

pub entry_leaves : (img : List ℕ) (slot : ℕ) (out : List ℕ) (a : Answer) (r : ℕ) (m : List ℕ) → TellsEntry img slot out a m → Packs (number_told a) (value_told a) r
    → Leaves (entry_call img slot out) r img [] m
entry_leaves img slot out a r m s p = hands _ a r img [] m s.is p

-- ---- the image that these only read stays

module _ (l : List ℕ) (out : List ℕ) where
  pub verdict_image : (v : Result Counts Finding) → (verdict_told l v out).image ≡ l
  unfolding verdict_told
  verdict_image (Ok n) = refl
  verdict_image (Err f) = refl

  pub space_image : (free_space_call l out).image ≡ l
  unfolding free_space_call
  space_image = by (free_space l)
    where
      by : (a : Result Space Refusal) → (space_told l a out).image ≡ l
      by (Ok s) = refl
      by (Err e) = refl

  pub entry_image : (slot : ℕ) → (entry_call l slot out).image ≡ l
  unfolding entry_call
  entry_image slot = by (entry_told l slot)
    where
      by : (a : Result (Option EntryFields) Refusal) → (fields_told l a out).image ≡ l
      by (Ok (Some e)) = refl
      by (Ok None) = refl
      by (Err e) = refl

-- ---- view: n is the number that its second call answered

pub view_number_leaves : (img name : List ℕ) (offset n r : ℕ) → ViewNumbers img name offset n → Packs n 0 r → Leaves (view_number_call img name offset) r img [] []
unfolding view_number_call
view_number_leaves img name offset n r v h = record { is = rw (h.number_is, h.value_is, v.is) }
