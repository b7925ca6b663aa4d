-- The walk along a chain, turn by turn: n clusters were met, c is the next.
use Prim.Native.Nat.{ℕ, ◌+◌, ◌-◌, ◌≤◌, ◌<◌, min}
use Rattle.std.proofs.Common.{arith, ◌∙◌, Fits, get_or-set_same, Some, None}
use Rattle.std.specs.Prelude.{false, ◌≢◌, ◌≡◌, length, set}
use mathlib.Core.List.{List, [], ◌∷◌, ◌++◌, append-nil}
use Rattle.std.proofs.Math.Path.{refl, sym, ap, subst}
use Rattle.std.specs.Int.{w8}
use Rattle.std.proofs.Math.ListN.{get_or, length-append}
use Rattle.chains.specs.Aids.Chain.{Leads}
use Rattle.chains.specs.Lists.{◌∈◌}
use Rattle.chains.specs.Aids.Marks.{mark, marks}
use Rattle.chains.specs.Aids.Sizes.{Geometry}
use Rattle.chains.specs.Values.{Link}
use Rattle.chains.proofs.Laws.Chain.{chain_length}
use Rattle.chains.proofs.Laws.Marks.{marks_append, marks_length, marks_stay}
use Rattle.chains.proofs.Laws.Tests.{says_false}
use Rattle.chains.proofs.Laws.Values.{says_end, says_link}
use Rattle.values.specs.Values.{Values, meaning_of}
use Rattle.values.proofs.Laws.Meanings.{is_end, is_next, meaning_says, end_said, link_said}
use Rattle.values.specs.declared.Meaning.{Meaning}
use Rattle.values.specs.declared.Meaning.TheVariants.{Next, End}
use Rattle.table.specs.Entries.{table_of}
use Rattle.walks.specs.Aids.Walks.{ValueIs, Tails, Walked, Walking}
use Rattle.walks.proofs.Laws.Paths.{path_on, path_leads, path_head, path_rising, leads_chain, path_split, path_once, mark_of, mark_unmet, marks_rising, tail_twice}

pub walk_begins : (last : ℕ) (l : List ℕ) (start : ℕ) (m : List ℕ) → 2 ≤ start → start ≤ last → Walking last (table_of last l) start m 0 start m
walk_begins last l start m a b = record { from = a; to = b; met = []; path = refl; many = refl; marks_are = unfold marks in refl }

module _ (last : ℕ) (l : List ℕ) (start : ℕ) (m₀ m t : List ℕ) (n c : ℕ) (u : Walking last (table_of last l) start m₀ n c m) (T : Tails last (table_of last l) m₀ t) (low : last ≤ 4079) (big : last < length m₀) where
  abbrev f : ℕ → ℕ
  f = table_of last l

  here : Link last c
  here = (u.from, u.to)

  first : Link last start
  first = (path_head last f start c u.met u.path here).0

  -- a chain from the start, if there is one, goes on from here
  goes_on : (cs : List ℕ) → Leads last f start cs → (ds : List ℕ) × (cs ≡ u.met ++ (c ∷ ds)) × Leads last f (f c) ds
  goes_on cs p = path_split last f low start c u.met cs here u.path p

  -- so the walk did not meet c, and the mark is that of files before
  unmet : (ds : List ℕ) → Leads last f (f c) ds → get_or m c 0 ≡ get_or m₀ c 0
  unmet ds p =
      let w : Leads last f start (u.met ++ (c ∷ ds)) = path_leads last f start c u.met (c ∷ ds) u.path (refl, here, p) in
      ap (λ (k : List ℕ). get_or k c 0) u.marks_are ∙ mark_unmet last f low m₀ t T big u.met c here (path_once last f low start c u.met ds first w)

  endless : (m' : List ℕ) → ((ds : List ℕ) → ¬ Leads last f (f c) ds) → Walked last f start m₀ t None m'
  endless m' never = record { is = λ cs p. let r = goes_on cs p in never r.0 r.2 }

  -- the bound: no chain is so long
  pub walk_spent : last - 1 ≤ n → Walked last f start m₀ t None m
  walk_spent h = endless m (λ ds p.
      let w : Leads last f start (u.met ++ (c ∷ ds)) = path_leads last f start c u.met (c ∷ ds) u.path (refl, here, p) in
      let G : Geometry = record { last = last; cb = 1; small = low; wide = omega arith } in
      omega (arith, chain_length G f start (u.met ++ (c ∷ ds)) (leads_chain last f low start (u.met ++ (c ∷ ds)) first w), length-append u.met (c ∷ ds), u.many))

  -- a cluster met twice of which nothing is known: the walk came here before
  pub walk_circles : get_or m c 0 ≡ 2 → get_or t c 0 ≡ 0 → Walked last f start m₀ t None m
  walk_circles e z = endless m (λ ds p. T.twice c here (sym (unmet ds p) ∙ e) z)

  -- one of which the rest is known
  pub walk_joins : get_or m c 0 ≡ 2 → get_or t c 0 ≢ 0 → Walked last f start m₀ t (Some (n + get_or t c 0, get_or t c 0)) m
  walk_joins e z =
      let k = T.known c here z in
      let r = path_split last f low c c [] k.clusters here refl k.leads in
      let b : get_or m₀ c 0 ≡ 2 = sym (unmet r.0 r.2) ∙ e in
      let q : length (c ∷ r.0) ≡ get_or t c 0 = ap length (sym r.1) ∙ k.long in
      let w : (x : ℕ) → x ∈ (c ∷ r.0) → Link last x × (get_or m₀ x 0 ≡ 2) = tail_twice last f low m₀ t T big r.0 c here r.2 b in
      let s : (x : ℕ) → x ∈ (c ∷ r.0) → get_or (marks m₀ u.met) x 0 ≡ 2 = λ x i. omega (arith, mark_of last f low m₀ t T big u.met x (w x i).0, (w x i).1) in
      record {
        is = record {
          ahead = u.met;
          behind = c ∷ r.0;
          leads = path_leads last f start c u.met (c ∷ r.0) u.path (refl, here, r.2);
          long = omega (arith, u.many, q);
          known_are = q;
          marks_are = u.marks_are ∙ sym (marks_append m₀ u.met (c ∷ r.0) ∙ marks_stay (marks m₀ u.met) (c ∷ r.0) s);
          twice_known = λ x i g. T.twice x (w x i).0 (w x i).1;
        };
      }

  -- the mark of one that was not met twice
  mark_small : get_or m c 0 ≤ 2
  mark_small = omega (arith, ap (λ (k : List ℕ). get_or k c 0) u.marks_are, mark_of last f low m₀ t T big u.met c here)

  pub mark_fits : get_or m c 0 ≢ 2 → Fits w8 (get_or m c 0 + 1)
  mark_fits d = record { fits = omega (arith, mark_small) }

  -- m' are the marks with that of c, v is the value of c, g what it means
  module _ (m' : List ℕ) (v : ℕ) (g : Meaning) (d : get_or m c 0 ≢ 2) (s : m' ≡ set m c (get_or m c 0 + 1)) (r : ValueIs last l c v) (e : g ≡ meaning_of last v) where
    marked : m' ≡ mark m c
    unfolding mark
    marked = let z : get_or m c 0 + 1 ≡ min 2 (get_or m c 0 + 1) = omega (arith, mark_small) in s ∙ ap (set m c) z

    mark_now : get_or m' c 0 ≡ get_or m c 0 + 1
    mark_now = ap (λ (k : List ℕ). get_or k c 0) s ∙ get_or-set_same m c (get_or m c 0 + 1) 0 (omega (arith, ap length u.marks_are, marks_length m₀ u.met))

    met_now : List ℕ
    met_now = u.met ++ (c ∷ [])

    many_now : length met_now ≡ n + 1
    unfolding met_now
    many_now = length-append u.met (c ∷ []) ∙ omega (arith, u.many)

    marks_now : m' ≡ marks m₀ met_now
    unfolding met_now
    marks_now = marked ∙ ap (λ (k : List ℕ). mark k c) u.marks_are ∙ sym (marks_append m₀ u.met (c ∷ []) ∙ (unfold marks in refl))

    -- ---- the end

    module _ (x : g ≡ End) where
      leads_now : Leads last f start met_now
      unfolding met_now
      leads_now =
          let a : Values End last v = subst (λ (k : Meaning). Values k last v) x (meaning_says last v low r.small g e) in
          path_leads last f start c u.met (c ∷ []) u.path (refl, here, rw (sym r.is) a)

      -- to store the number left for all of them is always right
      pub walk_ends_stored : Walked last f start m₀ t (Some (n + 1, 0)) m'
      walk_ends_stored = record {
        is = record {
          ahead = met_now;
          behind = [];
          leads = rw (append-nil met_now) leads_now;
          long = omega (arith, many_now);
          known_are = refl;
          marks_are = rw (append-nil met_now) marks_now;
          twice_known = λ a i b. absurd i;
        };
      }

      -- where c was not met before none of them was, and it need not be stored
      pub walk_ends : get_or m c 0 ≢ 1 → Walked last f start m₀ t (Some (n + 1, n + 1)) m'
      unfolding met_now
      walk_ends h =
          let k : (a : ℕ) → get_or m' a 0 ≡ get_or (marks m₀ met_now) a 0 = λ a. ap (λ (z : List ℕ). get_or z a 0) marks_now in
          let w : (a : ℕ) → a ∈ met_now → get_or (marks m₀ met_now) a 0 ≤ get_or (marks m₀ met_now) c 0 =
          path_rising last f (marks m₀ met_now) (marks_rising last f low m₀ t T big start met_now first leads_now) start c u.met u.path here in
          record {
            is = record {
              ahead = [];
              behind = met_now;
              leads = leads_now;
              long = omega (arith, many_now);
              known_are = many_now;
              marks_are = marks_now;
              twice_known = λ a i b. absurd (h (omega (arith, k a, k c, w a i, mark_now, mark_small)));
            };
          }

    -- ---- no end

    pub walk_breaks : (w : Meaning) → g ≡ w → is_end w ≡ false → is_next w ≡ false → Walked last f start m₀ t None m'
    walk_breaks w x a b = endless m' never
      where
        never : (ds : List ℕ) → ¬ Leads last f (f c) ds
        never [] p = says_false (says_end v) (end_said last v low r.small g e ∙ ap is_end x ∙ a) (rw r.is p)
        never (d ∷ ds) p = says_false (says_link last v) (link_said last v low r.small g e ∙ ap is_next x ∙ b) (rw (r.is ∙ p.0) p.1)

    -- ---- the value that was read is the next cluster

    module _ (next : ℕ) (x : g ≡ Next next) where
      next_is : Link last v × (next ≡ v)
      next_is = subst (λ (k : Meaning). Values k last v) x (meaning_says last v low r.small g e)

      pub walk_goes_on : Walking last f start m₀ (n + 1) next m'
      unfolding met_now
      walk_goes_on = record {
        from = omega (arith, next_is.0.0, next_is.1);
        to = omega (arith, next_is.0.1, next_is.1);
        met = met_now;
        path = rw (next_is.1 ∙ r.is) (path_on last f start c u.met u.path here);
        many = many_now;
        marks_are = marks_now;
      }
