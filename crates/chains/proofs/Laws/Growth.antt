-- A chain that was laid or made longer is a chain; the table beside it stays. What was given back is free.
use Rattle.std.specs.Prelude.{ℕ, ◌≡◌, refl, List, [], ◌∷◌, ◌++◌, get_or}
use Rattle.std.proofs.Common.{arith, sym, subst, ◌∙◌, inl, inr, append-nil}
use Rattle.chains.specs.Aids.Put.{put}
use Rattle.chains.specs.Lists.{◌∈◌}
use Rattle.chains.specs.Aids.Lists.{last_of, Once}
use Rattle.chains.specs.Aids.Sizes.{Geometry}
use Rattle.chains.specs.Values.{Link}
use Rattle.chains.specs.Aids.Chain.{After, Chain}
use Rattle.chains.specs.Aids.Growth.{extended, laid, released}
use Rattle.chains.proofs.Laws.Put.{put_cases, put_other, put_same}
use Rattle.chains.proofs.Laws.Lists.{last_mem, mem_left, mem_right, once_head, once_tail}
use Rattle.chains.proofs.Laws.Chain.{after_frame}

-- ---- a chain laid

pub laid_other : (f : ℕ → ℕ) (c : ℕ) (ds : List ℕ) (a : ℕ) → ¬ (a ∈ (c ∷ ds)) → laid f c ds a ≡ f a
unfolding laid
laid_other f c [] a n = put_other f c 0xfff a (λ e. n (inl e))
laid_other f c (d ∷ ds) a n = put_other (laid f d ds) c d a (λ e. n (inl e)) ∙ laid_other f d ds a (λ m. n (inr m))

pub laid_after : (G : Geometry) (f : ℕ → ℕ) (c : ℕ) (ds : List ℕ) → ((a : ℕ) → a ∈ ds → Link G.last a) → Once (c ∷ ds) → After G.last (laid f c ds) c ds
unfolding laid
laid_after G f c [] r o = rw (put_same f c 0xfff c refl) (omega arith)
laid_after G f c (d ∷ ds) r o = (
  put_same (laid f d ds) c d c refl,
  r d (inl refl),
  after_frame G (laid f d ds) (put (laid f d ds) c d) d ds
      (λ a m. put_other (laid f d ds) c d a (λ e. once_head c (d ∷ ds) o (subst (λ x. x ∈ (d ∷ ds)) e m)))
      (laid_after G f d ds (λ a m. r a (inr m)) (once_tail c (d ∷ ds) o)),
)

-- c and cs, with new behind
pub laid_more : (G : Geometry) (f : ℕ → ℕ) (c : ℕ) (cs : List ℕ) (new : List ℕ) → After G.last f c cs → ((a : ℕ) → a ∈ new → Link G.last a) → Once (c ∷ (cs ++ new))
    → After G.last (laid f (last_of c cs) new) c (cs ++ new)
unfolding last_of
laid_more G f c [] new p r o = laid_after G f c new r o
laid_more G f c (d ∷ ds) new p r o =
    let n : ¬ (c ∈ (last_of d ds ∷ new)) = λ m. once_head c ((d ∷ ds) ++ new) o (elim m [
      | inl e ↦ mem_left c (d ∷ ds) new (subst (λ x. x ∈ (d ∷ ds)) (sym e) (last_mem d ds))
      | inr k ↦ mem_right c (d ∷ ds) new k
    ]) in
    (laid_other f (last_of d ds) new c n ∙ p.0, p.1, laid_more G f d ds new p.2 r (once_tail c ((d ∷ ds) ++ new) o))

-- ---- a chain made longer

pub extended_out : (f : ℕ → ℕ) (cs new : List ℕ) (a : ℕ) → ¬ (a ∈ cs) → ¬ (a ∈ new) → extended f cs new a ≡ f a
unfolding extended
extended_out f cs [] a p q = refl
extended_out f [] (n ∷ ns) a p q = laid_other f n ns a q
extended_out f (c ∷ cs) (n ∷ ns) a p q = laid_other f (last_of c cs) (n ∷ ns) a (λ m. elim m [
  | inl e ↦ p (subst (λ x. x ∈ (c ∷ cs)) (sym e) (last_mem c cs))
  | inr k ↦ q k
])

pub extended_chain : (G : Geometry) (f : ℕ → ℕ) (c : ℕ) (cs new : List ℕ) → Chain G.last f c cs → ((a : ℕ) → a ∈ new → Link G.last a) → Once (cs ++ new)
    → Chain G.last (extended f cs new) (get_or (cs ++ new) 0 0) (cs ++ new)
unfolding extended
extended_chain G f c [] [] p r o = refl
extended_chain G f c [] (n ∷ ns) p r o = (refl, r n (inl refl), laid_after G f n ns (λ a m. r a (inr m)) o)
extended_chain G f c (x ∷ xs) [] p r o = rw (append-nil xs) (refl, p.1, p.2)
extended_chain G f c (x ∷ xs) (n ∷ ns) p r o = (refl, p.1, laid_more G f x xs (n ∷ ns) p.2 r o)

-- ---- a chain given back

pub released_in : (f : ℕ → ℕ) (cs : List ℕ) (a : ℕ) → a ∈ cs → released f cs a ≡ 0
unfolding released
released_in f [] a m = absurd m
released_in f (c ∷ cs) a (inl e) = put_same (released f cs) c 0 a e
released_in f (c ∷ cs) a (inr m) = elim (put_cases (released f cs) c 0 a) [ inl h ↦ h.1 | inr h ↦ h.1 ∙ released_in f cs a m ]

pub released_out : (f : ℕ → ℕ) (cs : List ℕ) (a : ℕ) → ¬ (a ∈ cs) → released f cs a ≡ f a
unfolding released
released_out f [] a n = refl
released_out f (c ∷ cs) a n = put_other (released f cs) c 0 a (λ e. n (inl e)) ∙ released_out f cs a (λ m. n (inr m))
