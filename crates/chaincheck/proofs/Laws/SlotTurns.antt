-- One slot: the chain of a plain file has at least the clusters that its size asks for, or it is bad.
use Rattle.std.specs.Prelude.{ℕ, ◌*◌, ◌≤◌, ◌<◌, Bool, not, ◌≡◌, refl, leb, length, Option, Some, None, Ok, Err}
use Rattle.std.proofs.Common.{arith, mul-le-mul_right, Fits, subst, ◌∙◌}
use Rattle.std.specs.Int.{w64}
use Rattle.std.proofs.Math.Bool.{true, false}
use mathlib.Core.List.{List, []}
use Rattle.std.proofs.Math.Path.{sym, ap}
use Rattle.chains.specs.Aids.Chain.{Chain}
use Rattle.chains.specs.Aids.Check.{chain_of, ownsb}
use Rattle.chains.specs.Aids.Holders.{Holder, Owns, nobody, file_holder}
use Rattle.chains.specs.Aids.Marks.{marks}
use Rattle.chains.specs.Aids.Sizes.{fits, Geometry}
use Rattle.chains.proofs.Laws.Chain.{chain_length, chain_same}
use Rattle.chains.proofs.Laws.Check.{says_owned}
use Rattle.chains.proofs.Laws.Sizes.{fits_room}
use Rattle.chains.proofs.Laws.Tests.{clash, false_says, not-false, not-true, true_says}
use Rattle.chains.proofs.Laws.Walk.{chain_walk}
use Rattle.table.specs.Entries.{table_of}
use Rattle.fields.specs.Fields.{start_of, size_of}
use Rattle.directory.specs.Slots.{standing_of, is_plain}
use Rattle.directory.specs.declared.Standing.{Standing}
use Rattle.directory.specs.declared.Standing.TheVariants.{NeverUsed, Erased, Label, Plain}
use Rattle.walks.specs.Aids.Walks.{Tails, Chained, VisitedBy, Visited}
use Rattle.chaincheck.specs.Aids.Entries.{holder_by, holder_at}
use Rattle.chaincheck.specs.Aids.Held.{chain_at}
use Rattle.chaincheck.specs.Aids.Visits.{slot_found, SlotVisited}

-- ---- who holds the chain

pub holder_none : (cb start size : ℕ) (st : Standing) → is_plain st ≡ false → holder_by cb start size st ≡ nobody
holder_none cb start size NeverUsed e = refl
holder_none cb start size Erased e = refl
holder_none cb start size Label e = refl
holder_none cb start size Plain e = absurd (let z : ◌≡◌ {A = ℕ} 0 1 = cc in omega arith)

pub holder_file : (cb start size : ℕ) (st : Standing) → is_plain st ≡ true → holder_by cb start size st ≡ file_holder cb start size
holder_file cb start size Plain e = refl
holder_file cb start size NeverUsed e = absurd (let z : ◌≡◌ {A = ℕ} 0 1 = cc in omega arith)
holder_file cb start size Erased e = absurd (let z : ◌≡◌ {A = ℕ} 0 1 = cc in omega arith)
holder_file cb start size Label e = absurd (let z : ◌≡◌ {A = ℕ} 0 1 = cc in omega arith)

-- ---- the clusters of a holder

pub chain_of_lem : (G : Geometry) (f : ℕ → ℕ) (h : Holder) (cs : List ℕ) → Chain G.last f h.start cs → chain_of G.last f h ≡ cs
unfolding chain_of
chain_of_lem G f h cs p = rw (chain_walk G f h.start cs p, chain_of)

-- ---- room for all bytes

module _ (n size cb : ℕ) (wide : 0 < cb) where
  pub room_fits : n ≤ 4079 → cb ≤ 4096 → Fits w64 (n * cb)
  room_fits few narrow = let m : n * cb ≤ 4079 * cb = mul-le-mul_right cb few in record { fits = omega arith }

  pub room_is : leb size (n * cb) ≡ fits cb size n
  room_is = fits_room cb wide size n

-- ---- the slot, in the form of the code's needs

module _ (last cb : ℕ) (l : List ℕ) (a : ℕ) (m : List ℕ) (low : last ≤ 4079) (wide : 0 < cb) where
  abbrev G : Geometry
  G = record { last = last; cb = cb; small = low; wide = wide }

  abbrev f : ℕ → ℕ
  f = table_of last l

  pub slot_no_file : (t : List ℕ) → Tails last f m t → (b : Bool) → b ≡ is_plain (standing_of l a) → not b ≡ true → SlotVisited last cb l a m (Ok None) m t
  unfolding slot_found chain_at marks
  slot_no_file t T b p x =
      let e : is_plain (standing_of l a) ≡ false = sym p ∙ not-true b x in
      record {
        is = rw e;
        marked = record { marks_are = rw (holder_none cb (start_of l a) (size_of l a) (standing_of l a) e, chain_of_lem G f nobody [] refl); tails = T };
      }

  -- no chain has more clusters than the volume
  pub chain_few : (start : ℕ) (g : Option ℕ) (after t : List ℕ) → Visited last (table_of last l) start m g after t → (n : ℕ) → g ≡ Some n → n ≤ 4079
  chain_few start g after t v n e =
      let has : Chained last f start m n after t = subst (λ (r : Option ℕ). VisitedBy last f start m r after t) e v.is in
      omega (arith, has.long, chain_length G f start has.clusters has.chain)

  -- the file's chain was visited
  module _ (start : ℕ) (g : Option ℕ) (after t : List ℕ) (v : Visited last (table_of last l) start m g after t) (s : start ≡ start_of l a)
      (size : ℕ) (z : size ≡ size_of l a) (b : Bool) (p : b ≡ is_plain (standing_of l a)) (x : not b ≡ false) where
    plain : is_plain (standing_of l a) ≡ true
    plain = sym p ∙ not-false b x

    holder : holder_at cb l a ≡ file_holder cb start size
    holder = rw (z, s) (holder_file cb (start_of l a) (size_of l a) (standing_of l a) plain)

    bad : ((cs : List ℕ) → ¬ Owns last f (file_holder cb start size) cs) → SlotVisited last cb l a m (Err (record {})) after t
    unfolding slot_found
    bad never =
        let o : ownsb last f (holder_at cb l a) ≡ false = rw holder (false_says (says_owned G f (file_holder cb start size)) (λ r. never r.0 r.1)) in
        record { is = rw (plain, o); marked = tt }

    pub slot_endless : g ≡ None → SlotVisited last cb l a m (Err (record {})) after t
    slot_endless e = bad (λ cs o. subst (λ (r : Option ℕ). VisitedBy last f start m r after t) e v.is cs o.chain)

    module _ (n : ℕ) (e : g ≡ Some n) where
      has : Chained last f start m n after t
      has = subst (λ (r : Option ℕ). VisitedBy last f start m r after t) e v.is

      module _ (y : Bool) (q : y ≡ fits cb size n) where
        pub slot_other : y ≡ false → SlotVisited last cb l a m (Err (record {})) after t
        slot_other d = bad (λ cs o.
            let k : n ≡ length cs = sym has.long ∙ ap length (chain_same G f start has.clusters cs has.chain o.chain) in
            clash o.long (rw (sym k) (sym q ∙ d)))

        pub slot_clusters : y ≡ true → SlotVisited last cb l a m (Ok (Some n)) after t
        unfolding slot_found chain_at
        slot_clusters d =
            let w : Owns last f (file_holder cb start size) has.clusters = record { chain = has.chain; long = rw has.long (sym q ∙ d) } in
            let o : ownsb last f (holder_at cb l a) ≡ true = rw holder (true_says (says_owned G f (file_holder cb start size)) (has.clusters, w)) in
            let c : chain_of last f (holder_at cb l a) ≡ has.clusters = rw holder (chain_of_lem G f (file_holder cb start size) has.clusters has.chain) in
            record {
              is = rw (plain, o, c, has.long);
              marked = record { marks_are = has.marks_are ∙ ap (marks m) (sym c); tails = has.tails };
            }
