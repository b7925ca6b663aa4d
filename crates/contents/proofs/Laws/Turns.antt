-- One turn of each loop along a chain, and what it owes on the way: in the form of its needs.
use Rattle.std.specs.Prelude.{ℕ, ◌+◌, ◌-◌, ◌*◌, ◌/◌, ◌%◌, ◌≤◌, ◌<◌, ◌≡◌, List, length, get_or, replicate}
use Rattle.std.proofs.Common.{arith, div-lt_iff_lt-mul, sym, ◌∙◌, ap, subst, ext_get_or}
use Rattle.std.proofs.Math.Path.{refl}
use Rattle.std.proofs.lemmas.List.{length-replicate, get_or-replicate}
use Rattle.image.specs.Store.{stored, part}
use Rattle.image.proofs.Laws.Store.{length_stored, length_part, part_at}
use Rattle.chains.specs.Content.{cluster_begin}
use Rattle.chains.specs.Write.{poured}
use Rattle.chains.proofs.Laws.Poured.{poured_length}
use Rattle.chains.specs.Aids.Steps.{followed}
use Rattle.table.specs.Entries.{table_of}
use Rattle.contents.specs.Aids.Contents.{chain_from, Area, fetched, place_of}
use Rattle.contents.specs.Aids.Loops.{run_of, runs_at, Ready, Ran, Stands, Going, Pouring, Fetching}
use Rattle.contents.specs.declared.Run.{Run}
use Rattle.contents.specs.declared.Runs.{Runs}
use Rattle.contents.proofs.Laws.Chain.{chain_room, chain_small, holder_next}
use Rattle.contents.proofs.Laws.Leaves.{in_range, in_reach, in_place, met_holds}
use Rattle.contents.proofs.Laws.Runs.{run_left, run_some, run_inside, run_ends}
use Rattle.contents.proofs.Laws.Stores.{run_fits, poured_more, fetched_more}
use Rattle.contents.proofs.Laws.Kept.{poured_table}

-- a part of zeros
zeros : (n at k : ℕ) → at + k ≤ n → part (replicate n 0) at k ≡ replicate k 0
zeros n at k h =
    let here : length (part (replicate n 0) at k) ≡ k = length_part (replicate n 0) at k (omega (arith, length-replicate {A = ℕ} n 0)) in
    ext_get_or 0 _ _ (here ∙ sym (length-replicate {A = ℕ} k 0)) (λ i j.
    part_at (replicate n 0) at k i (omega arith) ∙ get_or-replicate {A = ℕ} n (at + i) 0 0 (omega arith) ∙ sym (get_or-replicate {A = ℕ} k i 0 0 (omega arith)))

-- ---- along a chain

module _ (base cb last : ℕ) (l : List ℕ) (start : ℕ) (a : Area base cb last (length l)) (pos n : ℕ) (full : pos + n ≤ length (chain_from last l start) * cb) where
  first_stands : (c : ℕ) → c ≡ followed (table_of last l) (pos / cb) start → Stands cb (chain_from last l start) pos n c 0
  first_stands c e = record {
    far = omega arith;
    holds = λ h.
        let z : pos + 0 ≡ pos = omega arith in
        met_holds base cb last l start a pos c (omega arith) e ∙ sym (ap (λ (x : ℕ). get_or (chain_from last l start) (x / cb) 0) z);
  }

  module _ (c done : ℕ) (s : Stands cb (chain_from last l start) pos n c done) (more : done < n) where
    -- the number of the next byte, and its cluster
    next_fits : length l < 18446744073709551616 → pos + done < 18446744073709551616
    next_fits h = omega (arith, chain_small base cb last l start a)

    cluster_from : 2 ≤ c
    cluster_from = (in_range base cb last l start a (pos + done) c (omega arith) (s.holds more)).0

    cluster_fits : length l < 18446744073709551616 → cluster_begin base cb c + cb < 18446744073709551616
    cluster_fits = in_reach base cb last l start a (pos + done) c (omega arith) (s.holds more)

    -- the place of that byte
    place_is : (at : ℕ) → at ≡ cluster_begin base cb c + (pos + done) % cb → at ≡ place_of base cb last l start (pos + done)
    place_is = in_place base cb last l start a (pos + done) c (omega arith) (s.holds more)

    module _ (r : ℕ) (q : r ≡ run_of cb (pos + done) (n - done)) where
      run_end : done + r ≤ n
      run_end = omega (arith, run_left cb (pos + done) (n - done) a.wide)

      any : 0 < r
      any = rw q (run_some cb (pos + done) (n - done) a.wide (omega arith))

      within : (pos + done) % cb + r ≤ cb
      within = rw q (run_inside cb (pos + done) (n - done) a.wide)

      run_stays : (at : ℕ) → at ≡ cluster_begin base cb c + (pos + done) % cb → at + r ≤ length l
      run_stays at e = rw (place_is at e) (run_fits base cb a.wide l (chain_from last l start) (pos + done) r (chain_room base cb last l start a) (omega arith) within)

      next_stands : (v : ℕ) → v ≡ table_of last l c → Stands cb (chain_from last l start) pos n v (done + r)
      next_stands v e = record {
        far = run_end;
        holds = λ h.
            let d : (pos + done + r) / cb ≡ (pos + done) / cb + 1 = rw q (run_ends cb (pos + done) (n - done) a.wide (omega arith)) in
            let z : pos + (done + r) ≡ pos + done + r = omega arith in
            let i : (pos + done + r) / cb < length (chain_from last l start) = (div-lt_iff_lt-mul a.wide).1 (omega arith) in
            e ∙ ap (table_of last l) (s.holds more) ∙ holder_next base cb last l start a ((pos + done) / cb) (omega arith)
            ∙ sym (ap (λ (x : ℕ). get_or (chain_from last l start) (x / cb) 0) z ∙ ap (λ (x : ℕ). get_or (chain_from last l start) x 0) d);
      }

-- ---- the code's runs

going_first : (base cb last : ℕ) (l : List ℕ) (start pos n : ℕ) → Area base cb last (length l) → pos + n ≤ length (chain_from last l start) * cb
    → Going base cb last l start pos n (runs_at base cb last pos n (followed (table_of last l) (pos / cb) start) 0)
going_first base cb last l start pos n a h = record { area = a; inside = h; runs = refl; stands = first_stands base cb last l start a pos n h _ refl }

module _ {base cb last : ℕ} {l : List ℕ} {start pos n : ℕ} {s : Runs} (g : Going base cb last l start pos n s) where
  going_ready : (bytes : ℕ) → length l < 18446744073709551616 → length l ≤ bytes → Ready s bytes
  going_ready bytes h k = subst (λ (z : Runs). Ready z bytes) (sym g.runs) record {
    small = g.area.small;
    wide = g.area.wide;
    table = omega (arith, g.area.table, g.area.clusters);
    from = cluster_from base cb last l start g.area pos n g.inside s.cluster s.done g.stands;
    fits = λ more. cluster_fits base cb last l start g.area pos n g.inside s.cluster s.done g.stands more h;
    next_fits = λ more. next_fits base cb last l start g.area pos n g.inside s.cluster s.done g.stands more h;
  }

  module _ {m : List ℕ} {r : Run} {t : Runs} (k : Ran s m r t) where
    ran : Ran (runs_at base cb last pos n s.cluster s.done) m r t
    ran = subst (λ (z : Runs). Ran z m r t) g.runs k

    ran_end : s.done + r.len ≤ n
    ran_end = run_end base cb last l start g.area pos n g.inside s.cluster s.done g.stands ran.more r.len ran.len

    ran_some : 0 < r.len
    ran_some = any base cb last l start g.area pos n g.inside s.cluster s.done g.stands ran.more r.len ran.len

    ran_within : (pos + s.done) % cb + r.len ≤ cb
    ran_within = within base cb last l start g.area pos n g.inside s.cluster s.done g.stands ran.more r.len ran.len

    ran_less : n - t.done < n - s.done
    ran_less = omega (arith, ap (λ (z : Runs). z.done) ran.after, ran_end, ran_some)

    ran_stays : r.at + r.len ≤ length l
    ran_stays = run_stays base cb last l start g.area pos n g.inside s.cluster s.done g.stands ran.more r.len ran.len r.at ran.at

    ran_place : r.at ≡ place_of base cb last l start (pos + s.done)
    ran_place = place_is base cb last l start g.area pos n g.inside s.cluster s.done g.stands ran.more r.at ran.at

    going_on : table_of last m s.cluster ≡ table_of last l s.cluster → Going base cb last l start pos n (runs_at base cb last pos n (table_of last m s.cluster) (s.done + r.len))
    going_on e = record {
      area = g.area;
      inside = g.inside;
      runs = refl;
      stands = next_stands base cb last l start g.area pos n g.inside s.cluster s.done g.stands ran.more r.len ran.len (table_of last m s.cluster) e;
    }

-- ---- bytes are put

pub pour_first : (base cb last : ℕ) (l : List ℕ) (start pos : ℕ) (bs : List ℕ) (n : ℕ) (s : Runs) → Area base cb last (length l) → pos + n ≤ length (chain_from last l start) * cb
    → s ≡ runs_at base cb last pos n (followed (table_of last l) (pos / cb) start) 0 → Pouring base cb last l start pos bs n l s
unfolding poured
pour_first base cb last l start pos bs n s a h e = subst (Pouring base cb last l start pos bs n l) (sym e) record { going = going_first base cb last l start pos n a h; image = refl }

module _ {base cb last : ℕ} {l : List ℕ} {start pos : ℕ} {bs : List ℕ} {n : ℕ} {m : List ℕ} {s : Runs} (p : Pouring base cb last l start pos bs n m s) where
  pour_length : length m ≡ length l
  pour_length = ap length p.image ∙ poured_length base cb l (chain_from last l start) pos bs s.done

  pub pour_ready : length l < 18446744073709551616 → Ready s (length m)
  pour_ready h = going_ready p.going (length m) h (omega (arith, pour_length))

  module _ {r : Run} {t : Runs} (k : Ran s m r t) where
    pub pour_end : r.done + r.len ≤ n
    pour_end = omega (arith, k.done, ran_end p.going k)

    pub pour_less : n - t.done < n - s.done
    pour_less = ran_less p.going k

    pub pour_stays : r.at + r.len ≤ length m
    pour_stays = rw pour_length (ran_stays p.going k)

    pub pour_again : {m' : List ℕ} → n ≤ length bs → m' ≡ stored m r.at (part bs r.done r.len) → Pouring base cb last l start pos bs n m' t
    pour_again {m'} enough w = subst (Pouring base cb last l start pos bs n m') (sym (ran p.going k).after) record {
      going = going_on p.going k (ap (λ (x : List ℕ). table_of last x s.cluster) p.image ∙ poured_table base cb p.going.area.wide l (chain_from last l start) pos bs s.done last p.going.area.table s.cluster);
      image =
          w ∙ rw (k.done, p.image, ran_place p.going k)
          (poured_more base cb p.going.area.wide l (chain_from last l start) (chain_room base cb last l start p.going.area) pos s.done r.len (ran_some p.going k) (ran_within p.going k)
          (omega (arith, ran_end p.going k, p.going.inside)) bs (omega (arith, ran_end p.going k)));
    }

-- the zeros that are stored are a part of all of them
pub zeros_part : (m m' : List ℕ) (at done k n : ℕ) → m' ≡ stored m at (replicate k 0) → done + k ≤ n → m' ≡ stored m at (part (replicate n 0) done k)
zeros_part m m' at done k n w h = w ∙ ap (stored m at) (sym (zeros n done k h))

-- ---- bytes are read

pub fetch_first : (base cb last : ℕ) (l : List ℕ) (start pos : ℕ) (out : List ℕ) (n : ℕ) (s : Runs) → Area base cb last (length l) → pos + n ≤ length (chain_from last l start) * cb
    → s ≡ runs_at base cb last pos n (followed (table_of last l) (pos / cb) start) 0 → Fetching base cb last l start pos out n out s
unfolding stored
fetch_first base cb last l start pos out n s a h e = subst (Fetching base cb last l start pos out n out) (sym e) record { going = going_first base cb last l start pos n a h; buffer = refl }

module _ {base cb last : ℕ} {l : List ℕ} {start pos : ℕ} {out : List ℕ} {n : ℕ} {filled : List ℕ} {s : Runs} (p : Fetching base cb last l start pos out n filled s) where
  pub fetch_ready : length l < 18446744073709551616 → Ready s (length l)
  fetch_ready h = going_ready p.going (length l) h (omega arith)

  module _ {r : Run} {t : Runs} (k : Ran s l r t) where
    pub fetch_fits : n ≤ length out → r.done + r.len ≤ length filled
    fetch_fits h = omega (arith, k.done, ran_end p.going k, ap length p.buffer ∙ length_stored out 0 (fetched base cb last l start pos s.done))

    pub fetch_less : n - t.done < n - s.done
    fetch_less = ran_less p.going k

    pub fetch_stays : r.at + r.len ≤ length l
    fetch_stays = ran_stays p.going k

    pub fetch_again : {filled' : List ℕ} → filled' ≡ stored filled r.done (part l r.at r.len) → Fetching base cb last l start pos out n filled' t
    fetch_again {filled'} w = subst (Fetching base cb last l start pos out n filled') (sym (ran p.going k).after) record {
      going = going_on p.going k refl;
      buffer =
          w ∙ rw (k.done, p.buffer, ran_place p.going k)
          (fetched_more base cb p.going.area.wide l (chain_from last l start) (chain_room base cb last l start p.going.area) pos s.done r.len (ran_some p.going k) (ran_within p.going k)
          (omega (arith, ran_end p.going k, p.going.inside)) out);
    }
