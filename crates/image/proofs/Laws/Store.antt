-- What is read after a store: inside it, outside it, the length, the bound of a byte.
use Rattle.std.specs.Prelude.{ℕ, zero, suc, ◌+◌, ◌-◌, ◌≤◌, ◌<◌, ◌≡◌, refl, List, [], ◌∷◌, ◌++◌, ◌⊎◌}
use Rattle.std.proofs.Common.{arith, add-one, append_assoc, sym, ◌∙◌, inl, inr, get_or-set_same, get_or-set_other, get_or-take, get_or-drop, drop-cons, ext_get_or}
use Rattle.std.proofs.Math.Decide.{ℕ_discrete, dec_lt}
use lib.ListN.{length, get_or, set, take, drop, replicate, length-set, length-take, length-drop}
use Rattle.std.proofs.Math.Seq.{set_out}
use Rattle.std.proofs.lemmas.List.Edits.{sets, sets-eq}
use borrow.Rule.Slice.PartMut.{put_mid, Post-is}
use Rattle.image.specs.Bytes.{Bytes}
use Rattle.image.specs.Store.{stored, part}
use Rattle.image.specs.Aids.Ranges.{Outside, Apart}

-- ---- one byte

pub bytes_set : (l : List ℕ) (i x : ℕ) → Bytes l → x < 256 → Bytes (set l i x)
bytes_set l i x b h j = elim (ℕ_discrete j i) [
  | no e ↦ rw (get_or-set_other l i j x 0 e) (b j)
  | yes e ↦ elim (dec_lt i (length l)) [
    | yes p ↦ rw (e, get_or-set_same l i x 0 p) h
    | no p ↦ rw (set_out l i x (omega arith)) (b j)
  ]
]

-- ---- lists of bytes

pub bytes_one : (v : ℕ) → v < 256 → Bytes (v ∷ [])
bytes_one v h zero = h
bytes_one v h (suc i) = omega arith

pub bytes_append : (s t : List ℕ) → Bytes s → Bytes t → Bytes (s ++ t)
bytes_append [] t b c i = c i
bytes_append (x ∷ s) t b c zero = b 0
bytes_append (x ∷ s) t b c (suc i) = bytes_append s t (λ j. b (suc j)) c i

pub bytes_zeros : (n : ℕ) → Bytes (replicate n 0)
bytes_zeros zero i = omega arith
bytes_zeros (suc n) zero = omega arith
bytes_zeros (suc n) (suc i) = bytes_zeros n i

-- ---- a run

pub length_stored : (l : List ℕ) (at : ℕ) (s : List ℕ) → length (stored l at s) ≡ length l
unfolding stored
length_stored l at [] = refl
length_stored l at (x ∷ xs) = length_stored (set l at x) (at + 1) xs ∙ length-set l at x

pub bytes_stored : (l : List ℕ) (at : ℕ) (s : List ℕ) → Bytes l → Bytes s → Bytes (stored l at s)
unfolding stored
bytes_stored l at [] b h = b
bytes_stored l at (x ∷ xs) b h = bytes_stored (set l at x) (at + 1) xs (bytes_set l at x b (h 0)) (λ i. h (suc i))

pub stored_outside : (l : List ℕ) (at : ℕ) (s : List ℕ) (j : ℕ) → Outside at (length s) j → get_or (stored l at s) j 0 ≡ get_or l j 0
unfolding stored
stored_outside l at [] j o = refl
stored_outside l at (x ∷ xs) j (inl p) = stored_outside (set l at x) (at + 1) xs j (inl (omega arith)) ∙ get_or-set_other l at j x 0 (omega arith)
stored_outside l at (x ∷ xs) j (inr p) = stored_outside (set l at x) (at + 1) xs j (inr (omega arith)) ∙ get_or-set_other l at j x 0 (omega arith)

pub stored_inside : (l : List ℕ) (at : ℕ) (s : List ℕ) (i : ℕ) → i < length s → at + length s ≤ length l → get_or (stored l at s) (at + i) 0 ≡ get_or s i 0
unfolding stored
stored_inside l at [] i h f = absurd (omega arith)
stored_inside l at (x ∷ xs) zero h f =
    let e : at + 0 ≡ at = omega arith in
    rw e (stored_outside (set l at x) (at + 1) xs at (inl (omega arith)) ∙ get_or-set_same l at x 0 (omega arith))
stored_inside l at (x ∷ xs) (suc i) h f =
    let e : at + suc i ≡ at + 1 + i = omega arith in
    rw e (stored_inside (set l at x) (at + 1) xs i (omega arith) (rw (length-set l at x) (omega arith)))

-- a byte after a store is one of the two
pub stored_byte : (l : List ℕ) (at : ℕ) (s : List ℕ) (j : ℕ) → at + length s ≤ length l
    → (Outside at (length s) j × (get_or (stored l at s) j 0 ≡ get_or l j 0)) ⊎ ((at ≤ j) × (j < at + length s) × (get_or (stored l at s) j 0 ≡ get_or s (j - at) 0))
stored_byte l at s j f = elim (dec_lt j at) [
  | yes p ↦ inl (inl p, stored_outside l at s j (inl p))
  | no p ↦ elim (dec_lt j (at + length s)) [
    | no q ↦ inl (inr (omega arith), stored_outside l at s j (inr (omega arith)))
    | yes q ↦
        let e : at + (j - at) ≡ j = omega arith in
        inr (omega arith, q, rw e at (stored_inside l at s (j - at) (omega arith) f))
  ]
]

-- two runs side by side are one
pub stored_append : (l : List ℕ) (at : ℕ) (s t : List ℕ) → stored l at (s ++ t) ≡ stored (stored l at s) (at + length s) t
unfolding stored
stored_append l at [] t = let e : at + 0 ≡ at = omega arith in rw e
stored_append l at (x ∷ xs) t =
    let e : at + suc (length xs) ≡ at + 1 + length xs = omega arith in
    rw e (stored_append (set l at x) (at + 1) xs t)

-- a store that goes on where another ended
pub and_then : (l m k : List ℕ) (a b : ℕ) (s t : List ℕ) → m ≡ stored l a s → k ≡ stored m b t → b ≡ a + length s → k ≡ stored l a (s ++ t)
and_then l m k a b s t p q e = rw (q, p, e, stored_append l a s t)

-- a list of which every byte is stored anew
pub stored_whole : (l s : List ℕ) → length l ≡ length s → stored l 0 s ≡ s
stored_whole l s e =
    ext_get_or 0 (stored l 0 s) s (length_stored l 0 s ∙ e)
    (λ i k. let z : 0 + i ≡ i = omega arith in rw z at (stored_inside l 0 s i (omega (arith, length_stored l 0 s)) (omega arith)))

-- two stores that touch no common byte change places
pub stored_swap : (l : List ℕ) (a : ℕ) (s : List ℕ) (b : ℕ) (t : List ℕ) → a + length s ≤ length l → b + length t ≤ length l
    → Apart a (length s) b (length t) → stored (stored l a s) b t ≡ stored (stored l b t) a s
stored_swap l a s b t f g p = ext_get_or 0 _ _ (simp length_stored) (λ i h. go i)
  where
    f' : a + length s ≤ length (stored l b t)
    f' = rw (length_stored l b t) f

    g' : b + length t ≤ length (stored l a s)
    g' = rw (length_stored l a s) g

    clash : (i : ℕ) → a ≤ i → i < a + length s → b ≤ i → i < b + length t → ⊥
    clash i h k m n = elim p [ inl q ↦ omega arith | inr q ↦ omega arith ]

    go : (i : ℕ) → get_or (stored (stored l a s) b t) i 0 ≡ get_or (stored (stored l b t) a s) i 0
    go i = elim (stored_byte l a s i f) [
      | inl x ↦ elim (stored_byte l b t i g) [
        | inl y ↦ stored_outside (stored l a s) b t i y.0 ∙ x.1 ∙ sym (stored_outside (stored l b t) a s i x.0 ∙ y.1)
        | inr y ↦ elim (stored_byte (stored l a s) b t i g') [
          | inl z ↦ absurd (elim z.0 [ inl q ↦ omega arith | inr q ↦ omega arith ])
          | inr z ↦ z.2 ∙ sym (stored_outside (stored l b t) a s i x.0 ∙ y.2)
        ]
      ]
      | inr x ↦ elim (stored_byte l b t i g) [
        | inl y ↦ elim (stored_byte (stored l b t) a s i f') [
          | inl z ↦ absurd (elim z.0 [ inl q ↦ omega arith | inr q ↦ omega arith ])
          | inr z ↦ stored_outside (stored l a s) b t i y.0 ∙ x.2 ∙ sym z.2
        ]
        | inr y ↦ absurd (clash i x.0 x.1 y.0 y.1)
      ]
    ]

-- ---- a part

pub length_part : (l : List ℕ) (at n : ℕ) → at + n ≤ length l → length (part l at n) ≡ n
length_part l at n f = simp (length-take, length-drop) (omega arith)

pub part_at : (l : List ℕ) (at n i : ℕ) → i < n → get_or (part l at n) i 0 ≡ get_or l (at + i) 0
part_at l at n i h = rw (get_or-take, get_or-drop)

-- two parts are equal where their bytes are
pub part_same : (l m : List ℕ) (a b n : ℕ) → a + n ≤ length l → b + n ≤ length m → ((i : ℕ) → i < n → get_or l (a + i) 0 ≡ get_or m (b + i) 0) → part l a n ≡ part m b n
part_same l m a b n f g h =
    ext_get_or 0 _ _ (length_part l a n f ∙ sym (length_part m b n g))
    (λ i k. let k' : i < n = omega (arith, length_part l a n f) in part_at l a n i k' ∙ h i k' ∙ sym (part_at m b n i k'))

-- what was stored is read back
pub part_stored : (l : List ℕ) (at : ℕ) (s : List ℕ) → at + length s ≤ length l → part (stored l at s) at (length s) ≡ s
part_stored l at s f =
    let f' : at + length s ≤ length (stored l at s) = rw (length_stored l at s) f in
    ext_get_or 0 _ _ (length_part (stored l at s) at (length s) f')
    (λ i k. let k' : i < length s = omega (arith, length_part (stored l at s) at (length s) f') in part_at (stored l at s) at (length s) i k' ∙ stored_inside l at s i k' f)

-- a part that the store does not touch
pub part_apart : (l : List ℕ) (at : ℕ) (s : List ℕ) (b n : ℕ) → b + n ≤ length l → Apart at (length s) b n → part (stored l at s) b n ≡ part l b n
part_apart l at s b n f p =
    part_same (stored l at s) l b b n (rw (length_stored l at s) f) f
    (λ i k. stored_outside l at s (b + i) (elim p [ inl q ↦ inr (omega arith) | inr q ↦ inl (omega arith) ]))

-- ---- in the form of a loop that stores: what is left of s goes on from here

pub stored_turn : (l m : List ℕ) (at : ℕ) (s : List ℕ) (i : ℕ) → i < length s → stored l (at + i) (drop i s) ≡ m → stored (set l (at + i) (get_or s i 0)) (at + (i + 1)) (drop (i + 1) s) ≡ m
unfolding stored
stored_turn l m at s i h inv =
    let e : at + (i + 1) ≡ at + i + 1 = omega arith in
    let d : drop i s ≡ get_or s i 0 ∷ drop (i + 1) s = rw (add-one i) (drop-cons s i 0 h) in
    rw e (rw d at inv)

pub stored_done : (l m : List ℕ) (at : ℕ) (s : List ℕ) (i : ℕ) → length s ≤ i → stored l (at + i) (drop i s) ≡ m → l ≡ m
unfolding stored
stored_done l m at s i h inv = rw (lib.ListN.drop_of_length-le s h) at inv

-- ---- in the form of a part that is written whole

stored_sets : (l : List ℕ) (at : ℕ) (s : List ℕ) → stored l at s ≡ sets l at s
unfolding stored
stored_sets l at [] = refl
stored_sets l at (x ∷ xs) = rw add-one (stored_sets (set l at x) (suc at) xs)

pub stored_part : (l w s : List ℕ) (at e : ℕ) → w ≡ s → e ≡ at + length s → e ≤ length l → put_mid at (e - at) l w ≡ stored l at s
stored_part l w s at e p q h =
    rw (Post-is at e l (omega arith), p, q) (sym (stored_sets l at s ∙ sets-eq s l at (omega arith) ∙ append_assoc (take at l) s (drop (at + length s) l)))
