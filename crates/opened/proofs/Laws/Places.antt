-- The tests and searches say what the paper's words say.
use Rattle.std.specs.Prelude.{ℕ, ◌<◌, Bool, false, cond, ◌&&◌, List, ◌↔◌, refl, eqb, leb, ltb, Option, Some, None}
use Rattle.std.proofs.Common.{arith, sym, ◌∙◌}
use Rattle.std.proofs.Math.Bool.{true}
use Rattle.std.proofs.Math.Path.{◌≡◌}
use borrow.Author.Tests.{ltb-true, leb-true, eqb-true, lt-ltb, le-leb, eq-eqb, not-true}
use Rattle.search.specs.Search.{lowest, Answers, is_found}
use Rattle.search.proofs.Laws.Answers.{below_answers}
use Rattle.directory.specs.Slots.{standing_of, is_plain}
use Rattle.directory.proofs.Laws.Slots.{plain_is}
use Rattle.opened.specs.Records.{place_count, used_of, slot_of, access_of}
use Rattle.opened.specs.Places.{LivePlace, is_live, NamesAt, is_open, lowest_unused}
use Rattle.opened.specs.Aids.Places.{live_slot, holds_file, names_slot, unused_at}

both : (a b : Bool) → (a && b) ≡ true → (a ≡ true) × (b ≡ true)
both true b e = (refl, e)
both false b e = absurd (let z : ◌≡◌ {A = ℕ} 0 1 = cc in omega arith)

-- ---- live places

module _ (t : List ℕ) (h : ℕ) (l : List ℕ) (way : ℕ → ℕ) (count : ℕ) where
  pub live_is : (is_live t h l way count ≡ true) ↔ LivePlace t h l way count
  unfolding is_live
  live_is = (to, from)
    where
      to : is_live t h l way count ≡ true → LivePlace t h l way count
      to e =
          let x = both (ltb h (place_count t)) (used_of t h && (leb (access_of t h) 2 && holds_file l way count (slot_of t h))) e in
          let y = both (used_of t h) (leb (access_of t h) 2 && holds_file l way count (slot_of t h)) x.1 in
          let z = both (leb (access_of t h) 2) (holds_file l way count (slot_of t h)) y.1 in
          let w = both (ltb (slot_of t h) count) (is_plain (standing_of l (way (slot_of t h)))) z.1 in
          record {
            counted = ltb-true h (place_count t) x.0;
            used = y.0;
            access = leb-true (access_of t h) 2 z.0;
            slot = ltb-true (slot_of t h) count w.0;
            plain = (plain_is l (way (slot_of t h))).0 w.1;
          }

      from : LivePlace t h l way count → is_live t h l way count ≡ true
      from v =
          rw (lt-ltb h (place_count t) v.counted, v.used, le-leb (access_of t h) 2 v.access, lt-ltb (slot_of t h) count v.slot)
          ((plain_is l (way (slot_of t h))).1 v.plain)

  by : (b : Bool) → is_live t h l way count ≡ b → live_slot t h l way count ≡ cond b (Some (slot_of t h)) None
  unfolding live_slot
  by b e = rw e

  -- a handle reaches the slot that its place names, where the place is live
  pub live_slot_at : LivePlace t h l way count → live_slot t h l way count ≡ Some (slot_of t h)
  live_slot_at v = by true (live_is.1 v)

  pub live_slot_is : (s : ℕ) → live_slot t h l way count ≡ Some s → LivePlace t h l way count × (slot_of t h ≡ s)
  live_slot_is s e = cases (is_live t h l way count) refl
    where
      cases : (b : Bool) → is_live t h l way count ≡ b → LivePlace t h l way count × (slot_of t h ≡ s)
      cases true f = (live_is.0 f, same (sym (by true f) ∙ e))
        where
          same : Some (slot_of t h) ≡ Some s → slot_of t h ≡ s
          same g = cc
      cases false f = absurd (let g = sym (by false f) ∙ e in let z : ◌≡◌ {A = ℕ} 0 1 = cc in omega arith)

  -- and nothing where it is not
  pub live_slot_none : (live_slot t h l way count ≡ None) ↔ ¬ LivePlace t h l way count
  live_slot_none = (λ e v. clash (sym (live_slot_at v) ∙ e), λ n. cases n (is_live t h l way count) refl)
    where
      clash : Some (slot_of t h) ≡ None → ⊥
      clash e = let z : ◌≡◌ {A = ℕ} 0 1 = cc in omega arith

      cases : ¬ LivePlace t h l way count → (b : Bool) → is_live t h l way count ≡ b → live_slot t h l way count ≡ None
      cases n true f = absurd (n (live_is.0 f))
      cases n false f = by false f

-- ---- the lowest unused place

pub unused_answers : (t : List ℕ) → Answers (λ p. (p < place_count t) × (used_of t p ≡ false)) (lowest_unused t)
unfolding lowest_unused
unused_answers t = below_answers (unused_at t) (λ (p : ℕ). used_of t p ≡ false) (place_count t) (λ p k. (not-true (used_of t p), λ e. rw e))

-- ---- open files

names_is : (t : List ℕ) (slot p : ℕ) → (names_slot t slot p ≡ true) ↔ NamesAt t slot p
names_is t slot p = (
  λ e. let x = both (used_of t p) (eqb (slot_of t p) slot) e in record { used = x.0; names = eqb-true (slot_of t p) slot x.1 },
  λ n. rw n.used (eq-eqb (slot_of t p) slot n.names),
)

pub names_not : (t : List ℕ) (slot p : ℕ) → ¬ NamesAt t slot p → names_slot t slot p ≡ false
names_not t slot p n = cases (names_slot t slot p) refl
  where
    cases : (b : Bool) → names_slot t slot p ≡ b → names_slot t slot p ≡ false
    cases true e = absurd (n ((names_is t slot p).0 e))
    cases false e = e

module _ (t : List ℕ) (slot : ℕ) where
  search_answers : Answers (λ p. (p < place_count t) × NamesAt t slot p) (lowest (names_slot t slot) 0 (place_count t))
  search_answers = below_answers (names_slot t slot) (NamesAt t slot) (place_count t) (λ p k. names_is t slot p)

  -- some used place names the slot
  pub open_is : (is_open t slot ≡ true) ↔ ((p : ℕ) × (p < place_count t) × NamesAt t slot p)
  unfolding is_open
  open_is = (to (lowest (names_slot t slot) 0 (place_count t)) search_answers, λ n. from n (lowest (names_slot t slot) 0 (place_count t)) search_answers)
    where
      to : (r : Option ℕ) → Answers (λ p. (p < place_count t) × NamesAt t slot p) r → is_found r ≡ true → (p : ℕ) × (p < place_count t) × NamesAt t slot p
      to (Some p) a e = (p, a.0.0, a.0.1)
      to None a e = absurd (let z : ◌≡◌ {A = ℕ} 0 1 = cc in omega arith)

      from : ((p : ℕ) × (p < place_count t) × NamesAt t slot p) → (r : Option ℕ) → Answers (λ p. (p < place_count t) × NamesAt t slot p) r → is_found r ≡ true
      from n (Some p) a = refl
      from n None a = absurd (a n.0 (n.1, n.2))

  -- no used place names it
  pub closed_is : (is_open t slot ≡ false) ↔ ((p : ℕ) → p < place_count t → ¬ NamesAt t slot p)
  closed_is = (λ e p k n. clash e (open_is.1 (p, k, n)), λ n. cases n (is_open t slot) refl)
    where
      clash : is_open t slot ≡ false → is_open t slot ≡ true → ⊥
      clash e f = let z : ◌≡◌ {A = ℕ} 0 1 = cc in omega arith

      cases : ((p : ℕ) → p < place_count t → ¬ NamesAt t slot p) → (b : Bool) → is_open t slot ≡ b → is_open t slot ≡ false
      cases n true e = absurd (let x = open_is.0 e in n x.0 x.1 x.2)
      cases n false e = e
