-- Format: in the form of the code's needs, what its outcome means, and that one outcome only is allowed.
use Rattle.std.specs.Prelude.{ℕ, ◌+◌, ◌-◌, ◌*◌, ◌<◌, List, [], ◌++◌, ◌≢◌, ◌≡◌, length, set, replicate, Option, Some, None, Result, Ok, Err, ok_or}
use Rattle.std.proofs.Common.{arith, sym, ◌∙◌, length-append}
use Rattle.std.proofs.Math.Decide.{ℕ_discrete}
use Rattle.std.proofs.Math.Path.{ap}
use Rattle.std.proofs.lemmas.List.{length-replicate}
use borrow.Author.Tests.{eq-eqb, ne_eqb}
use Rattle.image.specs.Store.{stored}
use Rattle.image.proofs.Laws.Store.{stored_append, stored_whole}
use Rattle.diskette.specs.Kinds.{named}
use Rattle.diskette.specs.Aids.Usable.{Usable}
use Rattle.diskette.specs.Places.{first_data, copy_two}
use Rattle.diskette.proofs.Laws.Kinds.{OfKnown, NamedBy, named_is, named_usable}
use Rattle.diskette.specs.declared.Kind.{Kind}
use Rattle.calls.specs.Outcome.{Outcome, outcome}
use Rattle.calls.specs.Numbers.{of_no_kind}
use Rattle.calls.specs.Answers.{number_told}
use Rattle.calls.proofs.Laws.Told.{done_only}
use Rattle.calls.specs.declared.refusal.Refusal.{Refusal}
use Rattle.calls.specs.declared.refusal.Refusal.TheVariants.{OfNoKind}
use Rattle.calls.proofs.Laws.Exits.{lacked, had}
use Rattle.formatting.specs.Format.{table_head, blank, formatted_as, formatted, Formatted}

-- ---- the kind

-- no number above 255 names a kind
pub above_bytes : (kind : ℕ) → 255 < kind → None ≡ named kind
unfolding named
above_bytes kind h = rw (ne_eqb kind 0xFE (omega arith), ne_eqb kind 0xFF (omega arith), ne_eqb kind 0xFC (omega arith), ne_eqb kind 0xFD (omega arith))

-- ---- the bytes

-- three bytes, one by one
pub head_stored : (l : List ℕ) (at byte : ℕ) → set (set (set l at byte) (at + 1) 0xFF) (at + 2) 0xFF ≡ stored l at (table_head byte)
unfolding stored
head_stored l at byte = let e : at + 2 ≡ at + 1 + 1 = omega arith in rw e

-- zeros, and then data
filled_twice : (l : List ℕ) (a b : ℕ) → length l ≡ a + b → stored (stored l 0 (replicate a 0)) a (replicate b 0xF6) ≡ replicate a 0 ++ replicate b 0xF6
filled_twice l a b e =
    let n : length (replicate {A = ℕ} a 0) ≡ a = length-replicate a 0 in
    let m : length (replicate {A = ℕ} b 0xF6) ≡ b = length-replicate b 0xF6 in
    let z : 0 + length (replicate {A = ℕ} a 0) ≡ a = omega arith in
    sym (rw z at (stored_append l 0 (replicate a 0) (replicate b 0xF6)))
    ∙ stored_whole l (replicate a 0 ++ replicate b 0xF6) (omega (arith, length-append (replicate {A = ℕ} a 0) (replicate b 0xF6)))

-- the four stores, in the code's order
pub blank_made : (k : Kind) (l l₁ l₂ l₃ l₄ : List ℕ) (d c : ℕ) → Usable k → length l ≡ 512 * k.sectors → d ≡ first_data k → c ≡ copy_two k
    → l₁ ≡ stored l 0 (replicate (512 * d) 0)
    → l₂ ≡ stored l₁ (512 * d) (replicate (512 * k.sectors - 512 * d) 0xF6)
    → l₃ ≡ stored l₂ 512 (table_head k.byte)
    → l₄ ≡ stored l₃ c (table_head k.byte)
    → l₄ ≡ blank k
unfolding blank
blank_made k l l₁ l₂ l₃ l₄ d c u e p q x₁ x₂ x₃ x₄ =
    let w = filled_twice l (512 * d) (512 * k.sectors - 512 * d) (omega (arith, u.whole)) in
    x₄ ∙ rw (x₃, x₂, x₁, w, p, q)

-- ---- the outcome: r is what the number names, o what was wanted of it

module _ (kind : ℕ) (l : List ℕ) (r : Option Kind) (p : r ≡ named kind) (o : Result Kind Refusal) (wanted : o ≡ ok_or r OfNoKind) where
  formatted_by : (x : Result Unit Refusal) (m : List ℕ) → outcome (number_told x) 0 m [] [] ≡ formatted_as r l → Formatted l kind x m
  unfolding formatted
  formatted_by x m h = record { is = h ∙ ap (λ w. formatted_as w l) p }

  pub no_such_kind : (e : Refusal) → o ≡ Err e → (x : Result Unit Refusal) → x ≡ Err e → Formatted l kind x l
  no_such_kind e q x h = let n = lacked r OfNoKind o wanted e q in formatted_by x l (rw (h, ← n.1, n.0))

  module _ (k : Kind) (q : o ≡ Ok k) where
    named_lem : r ≡ Some k
    named_lem = had r OfNoKind o wanted k q

    pub kind_usable : Usable k
    kind_usable = named_usable kind r k p named_lem

    pub wrong_length : length l ≢ 512 * k.sectors → Formatted l kind (Err OfNoKind) l
    wrong_length d = formatted_by (Err OfNoKind) l (rw (named_lem, ne_eqb (length l) (512 * k.sectors) d))

    pub made_blank : (m : List ℕ) → length l ≡ 512 * k.sectors → m ≡ blank k → (u : Unit) → Formatted l kind (Ok u) m
    made_blank m e h u = formatted_by (Ok u) m (rw (named_lem, eq-eqb (length l) (512 * k.sectors) e, h))

-- ---- what the outcome means

module _ (kind : ℕ) (img : List ℕ) where
  module _ (k : Kind) (q : named kind ≡ Some k) where
    pub format_makes : length img ≡ 512 * k.sectors → formatted kind img ≡ outcome 0 0 (blank k) [] []
    unfolding formatted
    format_makes e = rw (q, eq-eqb (length img) (512 * k.sectors) e)

    pub format_wrong_length : length img ≢ 512 * k.sectors → formatted kind img ≡ outcome of_no_kind 0 img [] []
    unfolding formatted
    format_wrong_length d = rw (q, ne_eqb (length img) (512 * k.sectors) d)

  pub format_unknown : named kind ≡ None → formatted kind img ≡ outcome of_no_kind 0 img [] []
  unfolding formatted
  format_unknown q = rw q

-- what is so after a format that was not refused
pub record Made (kind : ℕ) (img after : List ℕ) (k : Kind) : Type 0 where
  pub listed : NamedBy kind k
  pub long : length img ≡ 512 * k.sectors
  pub whole : after ≡ blank k

pub format_made : (img : List ℕ) (kind : ℕ) (after : List ℕ) (u : Unit) → Formatted img kind (Ok u) after → (k : Kind) × Made kind img after k
unfolding formatted
format_made img kind after u s = by (named kind) (named_is kind) s.is
  where
    by : (w : Option Kind) → OfKnown (NamedBy kind) w → outcome 0 0 after [] [] ≡ formatted_as w img → (k : Kind) × Made kind img after k
    by (Some k) n e = elim (ℕ_discrete (length img) (512 * k.sectors)) [
      | yes l ↦ (k, record { listed = n; long = l; whole = ap (λ (o : Outcome). o.image) (rw (eq-eqb (length img) (512 * k.sectors) l) at e) })
      | no d ↦ absurd (let z : 0 ≡ of_no_kind = ap (λ (o : Outcome). o.number) (rw (ne_eqb (length img) (512 * k.sectors) d) at e) in omega arith)
    ]
    by None n e = absurd (let z : 0 ≡ of_no_kind = ap (λ (o : Outcome). o.number) e in omega arith)

-- ---- no second outcome satisfies the contract

pub formatted_only : (img : List ℕ) (kind : ℕ) (a b : Result Unit Refusal) (x y : List ℕ) → Formatted img kind a x → Formatted img kind b y → (a ≡ b) × (x ≡ y)
formatted_only img kind a b x y s t = let e = s.is ∙ sym t.is in (done_only (ap (λ (o : Outcome). o.number) e), ap (λ (o : Outcome). o.image) e)
