-- The answers on clusters in the form of the code's needs; and that a file whose chain is whole holds just its clusters.
use Prim.Native.Nat.{ℕ, zero, suc, ◌+◌, ◌-◌, ◌*◌, ◌≤◌, ◌<◌}
use native.Mathlib.Omega.{arith}
use Rattle.std.proofs.Math.Decide.{ℕ_discrete}
use Rattle.std.specs.Prelude.{Bool, true, false, ◌&&◌, ◌||◌, ◌⊎◌, List, [], ◌∷◌, ◌≢◌, ◌↔◌, ◌≡◌, eqb, length, ℕ, Option, Some, None}
use Rattle.std.proofs.Common.{inl, inr, sym, ◌∙◌, ap, subst, eq-eqb, ne_eqb, Fits}
use Rattle.std.proofs.Math.Path.{refl}
use Rattle.std.specs.Int.{w64}
use Rattle.chains.specs.Values.{Link, linkb}
use Rattle.chains.specs.Aids.Chain.{Leads, Chain}
use Rattle.chains.specs.Lists.{◌∈◌}
use Rattle.chains.specs.Aids.Sizes.{Geometry}
use Rattle.chains.proofs.Laws.Chain.{chain_length}
use Rattle.chains.proofs.Laws.Tests.{clash, true_says, false_says}
use Rattle.chains.proofs.Laws.Values.{says_link}
use Rattle.search.specs.Search.{lowest}
use Rattle.search.proofs.Laws.Meaning.{LowestIs, lowest_is}
use Rattle.diskette.specs.Images.{kind_of_image}
use Rattle.diskette.specs.Aids.Usable.{Usable}
use Rattle.diskette.specs.Places.{first_data, clusters, last_cluster, root_entries, root_at, slot_from}
use Rattle.diskette.proofs.Laws.Images.{image_of_kind, image_usable, image_has_area}
use Rattle.diskette.specs.declared.Kind.{Kind}
use Rattle.values.specs.Values.{meaning_of}
use Rattle.values.specs.declared.Meaning.{Meaning}
use Rattle.table.specs.Entries.{table_of}
use Rattle.fields.specs.Fields.{start_of}
use Rattle.directory.specs.Slots.{standing_of, is_plain}
use Rattle.walks.specs.Aids.Walks.{ValueIs}
use Rattle.calls.specs.Numbers.{of_no_kind}
use Rattle.member.specs.Answers.{refusal_answer}
use Rattle.member.specs.Clusters.{meaning_told, cluster_told, comes_to, holds_at, slot_holds, found_told, holder_told}

-- ---- an image by its kind: r is the kind that was found

module _ (l : List ℕ) (r : Option Kind) (p : r ≡ kind_of_image l) where
  pub area_there : (k : Kind) → r ≡ Some k → 512 * first_data k ≤ length l
  area_there k q = image_has_area l k ((image_of_kind l k).0 (sym p ∙ q)) (image_usable l k (sym p ∙ q))

  pub cluster_known : (k : Kind) (c x : ℕ) → r ≡ Some k → x ≡ cluster_told (Some k) l c → x ≡ cluster_told (kind_of_image l) l c
  cluster_known k c x q h = h ∙ ap (λ w. cluster_told w l c) (sym q ∙ p)

  pub cluster_unknown : (c x : ℕ) → r ≡ None → x ≡ refusal_answer of_no_kind → x ≡ cluster_told (kind_of_image l) l c
  unfolding cluster_told
  cluster_unknown c x q h = h ∙ rw (← p, q)

  pub holder_known : (k : Kind) (c s x : ℕ) → r ≡ Some k → x ≡ holder_told (Some k) l c s → x ≡ holder_told (kind_of_image l) l c s
  holder_known k c s x q h = h ∙ ap (λ w. holder_told w l c s) (sym q ∙ p)

  pub holder_unknown : (c s x : ℕ) → r ≡ None → x ≡ refusal_answer of_no_kind → x ≡ holder_told (kind_of_image l) l c s
  unfolding holder_told
  holder_unknown c s x q h = h ∙ rw (← p, q)

-- ---- the value of a cluster

module _ (k : Kind) (l : List ℕ) (c last : ℕ) (is : last ≡ last_cluster k) where
  no_cluster : ¬ Link (last_cluster k) c → 0 ≡ cluster_told (Some k) l c
  unfolding cluster_told
  no_cluster n = rw (false_says (says_link (last_cluster k) c) n)

  pub cluster_outside : (c < 2) ⊎ ((2 ≤ c) × (last < c)) → 0 ≡ cluster_told (Some k) l c
  cluster_outside (inl h) = no_cluster (λ x. omega arith)
  cluster_outside (inr h) = no_cluster (λ x. omega arith)

  pub cluster_told_lem : (v : ℕ) (m : Meaning) (x : ℕ) → 2 ≤ c → c ≤ last → ValueIs last l c v → m ≡ meaning_of last v → x ≡ meaning_told m
      → x ≡ cluster_told (Some k) l c
  unfolding cluster_told
  cluster_told_lem v m x a b w e h = h ∙ rw (e, w.is, is, true_says (says_link (last_cluster k) c) (a, omega arith))

-- ---- a walk: i of n steps are done, and it has come to the value v

one_step : (last : ℕ) (f : ℕ → ℕ) (c n v : ℕ) → comes_to last f c (suc n) v ≡ (linkb last v && (eqb v c || comes_to last f c n (f v)))
unfolding comes_to
one_step last f c n v = refl

module _ (last : ℕ) (l : List ℕ) (c n i v : ℕ) (whole : Bool) (inv : comes_to last (table_of last l) c (n - i) v ≡ whole) where
  step : i < n → comes_to last (table_of last l) c (n - i) v ≡ (linkb last v && (eqb v c || comes_to last (table_of last l) c (n - (i + 1)) (table_of last l v)))
  step h =
      let e : n - i ≡ suc (n - (i + 1)) = omega arith in
      ap (λ (m : ℕ). comes_to last (table_of last l) c m v) e ∙ one_step last (table_of last l) c (n - (i + 1)) v

  out : i < n → ¬ Link last v → false ≡ whole
  out h x = sym (step h ∙ rw (false_says (says_link last v) x)) ∙ inv

  pub comes_outside : i < n → (v < 2) ⊎ ((2 ≤ v) × (last < v)) → false ≡ whole
  comes_outside h (inl b) = out h (λ x. omega arith)
  comes_outside h (inr b) = out h (λ x. omega arith)

  pub comes_spent : n ≤ i → false ≡ whole
  unfolding comes_to
  comes_spent h = let e : n - i ≡ 0 = omega arith in rw e at inv

  module _ (h : i < n) (from : 2 ≤ v) (to : v ≤ last) where
    pub comes_here : v ≡ c → true ≡ whole
    comes_here e = sym (step h ∙ rw (true_says (says_link last v) (from, to), eq-eqb v c e)) ∙ inv

    pub comes_on : (next : ℕ) → v ≢ c → ValueIs last l v next → comes_to last (table_of last l) c (n - (i + 1)) next ≡ whole
    comes_on next e r = rw r.is (sym (step h ∙ rw (true_says (says_link last v) (from, to), ne_eqb v c e)) ∙ inv)

-- ---- a slot: b says whether it is a plain file

module _ (last n : ℕ) (l : List ℕ) (c a : ℕ) (b : Bool) (is : b ≡ is_plain (standing_of l a)) where
  pub holds_file_lem : (start : ℕ) (x : Bool) → b ≡ true → start ≡ start_of l a → x ≡ comes_to last (table_of last l) c n start
      → x ≡ holds_at last n l c a
  unfolding holds_at
  holds_file_lem start x t e h = h ∙ rw (← is, t, e)

  pub holds_nothing : b ≡ false → b ≡ holds_at last n l c a
  unfolding holds_at
  holds_nothing t = t ∙ rw (← is, t)

-- ---- the search: the numbers of the kind as they were computed, and what was found

module _ (k : Kind) (l : List ℕ) (c s last n root count : ℕ) (p : last ≡ last_cluster k) (q : n ≡ clusters k) (t : root ≡ root_at k) (u : count ≡ root_entries k) where
  module _ (f : Option ℕ) (e : f ≡ lowest (slot_holds last n l (slot_from root) c) s (count - s)) where
    found_is : found_told f ≡ holder_told (Some k) l c s
    unfolding holder_told
    found_is = rw (e, p, q, t, u)

    module _ (slot : ℕ) (g : f ≡ Some slot) where
      holder_below : slot < count
      holder_below =
          let test = slot_holds last n l (slot_from root) c in
          let x = subst (LowestIs test s (count - s)) (sym e ∙ g) (lowest_is test s (count - s)) in
          omega arith

      pub holder_fits : Usable k → Fits w64 (slot + 1)
      holder_fits usable = record { fits = omega (arith, holder_below) }

      pub holder_found : slot + 1 ≡ holder_told (Some k) l c s
      unfolding found_told
      holder_found = rw g at found_is

    pub holder_none : f ≡ None → 0 ≡ holder_told (Some k) l c s
    unfolding found_told
    holder_none g = rw g at found_is

-- ---- a file whose chain is whole holds its clusters and no others

module _ (G : Geometry) (f : ℕ → ℕ) (c : ℕ) where
  comes_nowhere : (n v : ℕ) → ¬ Link G.last v → comes_to G.last f c n v ≡ false
  unfolding comes_to
  comes_nowhere zero v x = refl
  comes_nowhere (suc n) v x = rw (false_says (says_link G.last v) x)

  comes_first : (n v x : ℕ) → v ≡ x → Link G.last x → comes_to G.last f c (suc n) v ≡ (eqb x c || comes_to G.last f c n (f x))
  comes_first n v x e l = rw e (one_step G.last f c n x ∙ rw (true_says (says_link G.last x) l))

  -- one cluster more
  comes_cons : (n v x : ℕ) (xs : List ℕ) → v ≡ x → Link G.last x → (comes_to G.last f c n (f x) ≡ true) ↔ (c ∈ xs)
      → (comes_to G.last f c (suc n) v ≡ true) ↔ (c ∈ (x ∷ xs))
  comes_cons n v x xs e l on = (to, from)
    where
      to : comes_to G.last f c (suc n) v ≡ true → c ∈ (x ∷ xs)
      to t = elim (ℕ_discrete c x) [
        | yes q ↦ inl q
        | no q ↦ inr (on.0 (sym (comes_first n v x e l ∙ rw (ne_eqb x c (λ y. q (sym y)))) ∙ t))
      ]

      from : c ∈ (x ∷ xs) → comes_to G.last f c (suc n) v ≡ true
      from m = comes_first n v x e l ∙ elim (ℕ_discrete x c) [
        | yes y ↦ rw (eq-eqb x c y)
        | no y ↦ rw (ne_eqb x c y) (elim m [ inl q ↦ absurd (y (sym q)) | inr q ↦ on.1 q ])
      ]

  leads_come : (n v : ℕ) (cs : List ℕ) → Leads G.last f v cs → length cs ≤ n → (comes_to G.last f c n v ≡ true) ↔ (c ∈ cs)
  leads_come n v [] p h = (λ e. clash e (comes_nowhere n v (λ l. omega (arith, G.small))), λ m. absurd m)
  leads_come zero v (x ∷ xs) p h = absurd (omega arith)
  leads_come (suc n) v (x ∷ xs) p h = comes_cons n v x xs p.0 p.1 (leads_come n (f x) xs p.2 (omega arith))

  chain_holds : (start : ℕ) (cs : List ℕ) → Chain G.last f start cs → (comes_to G.last f c (G.last - 1) start ≡ true) ↔ (c ∈ cs)
  chain_holds start [] p = (λ e. clash e (comes_nowhere (G.last - 1) start (λ l. omega arith)), λ m. absurd m)
  chain_holds start (x ∷ xs) p = leads_come (G.last - 1) start (x ∷ xs) p (chain_length G f start (x ∷ xs) p)

pub file_holds : (k : Kind) → Usable k → (l : List ℕ) (c a : ℕ) (cs : List ℕ) → is_plain (standing_of l a) ≡ true → Chain (last_cluster k) (table_of (last_cluster k) l) (start_of l a) cs
    → (holds_at (last_cluster k) (clusters k) l c a ≡ true) ↔ (c ∈ cs)
unfolding holds_at
file_holds k u l c a cs p h =
    let G : Geometry = record { last = last_cluster k; cb = 1; small = u.below_reserved; wide = omega arith } in
    let e : last_cluster k - 1 ≡ clusters k = omega arith in
    rw p (rw e at (chain_holds G (table_of (last_cluster k) l) c (start_of l a) cs h))
