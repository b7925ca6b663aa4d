-- The places that name a slot do no more than read it: what each store in the open table leaves of that.
use Rattle.std.specs.Prelude.{ℕ, ◌+◌, ◌<◌, false, List, ◌≢◌, ◌≡◌}
use Rattle.std.proofs.Common.{arith, inl, inr, sym, ◌∙◌, subst}
use Rattle.std.proofs.Math.Decide.{ℕ_discrete}
use Rattle.image.specs.Numbers.{digits}
use Rattle.image.proofs.Laws.Numbers.{length_digits}
use Rattle.chains.proofs.Laws.Tests.{clash}
use Rattle.opened.specs.Changes.{OnlyAt}
use Rattle.opened.specs.Places.{NamesAt, is_open}
use Rattle.opened.specs.Records.{place_count, place_at, used_of, slot_of, access_of, written_of, with_record, with_pointer, with_written, cleared}
use Rattle.opened.proofs.Laws.Places.{closed_is}
use Rattle.opened.proofs.Laws.Records.{Untouched, untouched}
use Rattle.opened.proofs.Laws.Stores.{record_only, record_holds, pointer_only, written_only, written_holds, cleared_only, cleared_holds}
use Rattle.opened.proofs.Laws.Uses.{only_count}

-- place p has access 0, and nothing was written through it
pub record ReadsOnly (t : List ℕ) (p : ℕ) : Type 0 where
  pub access : access_of t p ≡ 0
  pub written : written_of t p ≡ false

-- so has every used place that names slot s
abbrev pub Watched : List ℕ → ℕ → Type 0
Watched t s = (p : ℕ) → p < place_count t → NamesAt t s p → ReadsOnly t p

-- where no used place names it, there is nothing to watch
pub closed_watched : (t : List ℕ) (s : ℕ) → is_open t s ≡ false → Watched t s
closed_watched t s e p h n = absurd ((closed_is t s).0 e p h n)

module _ (t : List ℕ) (s : ℕ) (x : Watched t s) where
  -- a store in one place, and what that place has then
  only_watched : (m : List ℕ) (p : ℕ) → OnlyAt p m t → (NamesAt m s p → ReadsOnly m p) → Watched m s
  only_watched m p only own q h n = elim (ℕ_discrete q p) [
    | yes e ↦ subst (ReadsOnly m) (sym e) (own (subst (NamesAt m s) e n))
    | no d ↦
        let same = only.others q d in
        let r = x q (subst (λ (c : ℕ). q < c) (only_count p m t only) h) (record { used = sym same.used ∙ n.used; names = sym same.slot ∙ n.names }) in
        record { access = same.access ∙ r.access; written = same.written ∙ r.written }
  ]

  module _ (p : ℕ) (k : p < place_count t) where
    -- a place taken: for another slot, or with access 0
    pub record_watched : (access slot : ℕ) → slot < 4294967296 → (slot ≡ s → access ≡ 0) → Watched (with_record t p access slot 0 false) s
    record_watched access slot fits reads =
        let y = record_holds t p k access slot 0 false fits (omega arith) in
        only_watched (with_record t p access slot 0 false) p (record_only t p k access slot 0 false)
        (λ n. record { access = y.access ∙ reads (sym y.slot ∙ n.names); written = y.written })

    -- a place freed
    pub cleared_watched : Watched (cleared t p) s
    cleared_watched = only_watched (cleared t p) p (cleared_only t p k) (λ n. absurd (clash n.used (cleared_holds t p k).used))

    -- a place of another slot marked as written
    pub written_watched : slot_of t p ≢ s → Watched (with_written t p) s
    written_watched d = only_watched (with_written t p) p (written_only t p k) (λ n. absurd (d (sym (written_holds t p k).slot ∙ n.names)))

    module _ (v : ℕ) where
      own : Untouched (with_pointer t p v) t (place_at p + 8) 4 p
      unfolding with_pointer
      own = untouched t (place_at p + 8) 4 (digits v 4) (length_digits v 4) p

      -- its slot stays, whatever number is stored as pointer
      pub pointer_slot : slot_of (with_pointer t p v) p ≡ slot_of t p
      pointer_slot = own.slot (inr (omega arith))

      -- a pointer moved
      pub pointer_watched : Watched (with_pointer t p v) s
      pointer_watched =
          only_watched (with_pointer t p v) p (pointer_only t p k v)
          (λ n. same (x p k (record { used = sym used ∙ n.used; names = sym pointer_slot ∙ n.names })))
        where
          used : used_of (with_pointer t p v) p ≡ used_of t p
          used = own.used (inl (omega arith))

          same : ReadsOnly t p → ReadsOnly (with_pointer t p v) p
          same r = record { access = own.access (inl (omega arith)) ∙ r.access; written = own.written (inl (omega arith)) ∙ r.written }

      pub pointer_count : p < place_count (with_pointer t p v)
      pointer_count = subst (λ (c : ℕ). p < c) (sym (only_count p (with_pointer t p v) t (pointer_only t p k v))) k

-- a pointer moved in a place of another slot, which is marked as written
pub wrote_watched : (t : List ℕ) (s : ℕ) → Watched t s → (p : ℕ) → p < place_count t → slot_of t p ≢ s → (v : ℕ)
    → Watched (with_written (with_pointer t p v) p) s
wrote_watched t s x p k d v =
    written_watched (with_pointer t p v) s (pointer_watched t s x p k v) p (pointer_count t s x p k v) (λ e. d (sym (pointer_slot t s x p k v) ∙ e))
