-- View: the part of the image, and what it refuses, by its rows. Only one part and one number fit.
use Rattle.std.specs.Prelude.{ℕ, ◌+◌, ◌*◌, ◌≤◌, ◌<◌, ◌/◌, ◌≡◌, get_or, Ok, Err}
use native.Mathlib.Omega.{arith}
use Rattle.std.proofs.Math.Decide.{dec_lt}
use mathlib.Core.List.{List, []}
use Rattle.std.proofs.Math.Path.{sym}
use Rattle.std.proofs.Common.{◌∙◌, div-lt_iff_lt-mul}
use Rattle.std.proofs.Math.ListN.{length}
use Rattle.image.specs.Store.{part}
use Rattle.contents.specs.Aids.Contents.{chain_from, place_of}
use Rattle.contents.proofs.Laws.Chain.{chain_room}
use Rattle.diskette.specs.Places.{first_data, cluster_bytes, last_cluster, slot_at}
use Rattle.diskette.specs.declared.Kind.{Kind}
use Rattle.fields.specs.Fields.{start_of, size_of}
use Rattle.calls.specs.Outcome.{refusal, decided}
use Rattle.calls.specs.Numbers.{refusal_number}
use Rattle.calls.specs.declared.refusal.Refusal.{Refusal}
use Rattle.calls.specs.Aids.Ready.{OnVolume}
use Rattle.calls.proofs.Laws.Rows.{Stops, stopped}
use Rattle.calls.proofs.Laws.Ready.{on_kind_lem}
use Rattle.calls.proofs.Laws.Named.{FileNamed}
use Rattle.std.proofs.Math.Nat.{mod-lt}
use Rattle.chains.specs.Content.{byte_at}
use Rattle.chains.proofs.Laws.Lists.{index_mem}
use Rattle.chains.proofs.Laws.Runs.{content_run}
use Rattle.holding.specs.Holding.{file_bytes}
use Rattle.sound.specs.Files.{IsFile}
use Rattle.holding.proofs.Laws.Clusters.{on_clusters}
use Rattle.holding.proofs.Laws.Chain.{file_holds}
use Rattle.viewing.specs.View.{view_count, view_part, view_rows, view_outcome, Views, ViewNumbers}
use Rattle.viewing.specs.Aids.View.{view_at, Seen, Sees, SeesFile}

pub views_only : {img s : List ℕ} {offset : ℕ} {p q : List ℕ} → Views img s offset p → Views img s offset q → p ≡ q
views_only x y = x.is ∙ sym y.is

pub view_numbers_only : {img s : List ℕ} {offset p q : ℕ} → ViewNumbers img s offset p → ViewNumbers img s offset q → p ≡ q
view_numbers_only x y = x.is ∙ sym y.is

-- ---- the file in a slot of a volume that is ready

module _ (img : List ℕ) (k : Kind) (v : OnVolume img k) (slot : ℕ) (i : IsFile k img slot) (a : ℕ) (ae : a ≡ slot_at k slot) (size : ℕ) (sized : size ≡ size_of img a) (offset : ℕ) where
  pub see_none : size ≤ offset → SeesFile img k slot offset (0, 0)
  unfolding view_part
  see_none h = record {
    part_is =
        let z : view_count (cluster_bytes k) (size_of img (slot_at k slot)) offset ≡ 0 = rw (← ae, ← sized) (omega arith) in
        rw z;
    inside = omega arith;
  }

  module _ (more : offset < size) (cb last start : ℕ) (ce : cb ≡ cluster_bytes k) (le : last ≡ last_cluster k) (se : start ≡ start_of img a) where
    holds : offset < length (chain_from (last_cluster k) img (start_of img (slot_at k slot))) * cluster_bytes k
    holds =
        let h = file_holds img k v slot i in
        let g : offset < size_of img (slot_at k slot) = rw (← ae, ← sized) more in
        omega (arith, h, g)

    pub see_room : offset < length (chain_from last img start) * cb
    see_room = rw (se, ae, ce, le) holds

    room : view_at k img slot offset + view_count (cluster_bytes k) size offset ≤ length img
    unfolding byte_at
    room =
        let cs = chain_from (last_cluster k) img (start_of img (slot_at k slot)) in
        let w : 0 < cluster_bytes k = (on_clusters img k v).wide in
        let inside : offset / cluster_bytes k < length cs = (div-lt_iff_lt-mul {k = cluster_bytes k} {x = offset} {y = length cs} w).1 holds in
        let r = (chain_room (512 * first_data k) (cluster_bytes k) (last_cluster k) img (start_of img (slot_at k slot)) (on_clusters img k v) (get_or cs (offset / cluster_bytes k) 0) (index_mem cs (offset / cluster_bytes k) inside)).1 in
        omega (arith, r, mod-lt offset w)

    pub see_some : (first at bytes : ℕ) → first ≡ first_data k → at ≡ place_of (512 * first) cb last img start offset → bytes ≡ view_count cb size offset → SeesFile img k slot offset (at, bytes)
    unfolding view_part
    see_some first at bytes fe pe be =
        let p : at ≡ view_at k img slot offset = rw (pe, fe, ce, le, se, ae) in
        let n : bytes ≡ view_count (cluster_bytes k) size offset = rw (be, ce) in
        record {
          part_is = rw (p, n, sized, ae);
          inside = rw (p, n) room;
        }

-- ---- one row stops it, or all are passed

pub see_refused : {img s : List ℕ} {offset : ℕ} {r : Seen} {e : Refusal} → r ≡ Err e → Stops (view_rows img s) (refusal_number e) → Sees img s offset r
unfolding view_outcome
see_refused {img = img} x q = record { is = rw x (sym (stopped _ _ q _ img [] [])); within = rw x (omega arith) }

module _ (img s : List ℕ) (offset : ℕ) where
  pub see_well : (k : Kind) → OnVolume img k → (slot : ℕ) (p : ℕ × ℕ) → SeesFile img k slot offset p → FileNamed img s slot → Sees img s offset (Ok p)
  unfolding view_outcome decided refusal
  see_well k v slot p x i = record {
    is = rw (i.known, i.sound, i.good, i.found, on_kind_lem img k v, x.part_is);
    within = x.inside;
  }

-- ---- what it means: the part is bytes of the file

pub view_content : (img : List ℕ) (k : Kind) → OnVolume img k → (slot : ℕ) → IsFile k img slot → (offset : ℕ)
    → view_part k img slot offset ≡ part (file_bytes k img (slot_at k slot)) offset (view_count (cluster_bytes k) (size_of img (slot_at k slot)) offset)
unfolding view_part file_bytes
view_content img k v slot i offset =
    let size = size_of img (slot_at k slot) in
    let cs = chain_from (last_cluster k) img (start_of img (slot_at k slot)) in
    let w : 0 < cluster_bytes k = (on_clusters img k v).wide in
    let room = chain_room (512 * first_data k) (cluster_bytes k) (last_cluster k) img (start_of img (slot_at k slot)) (on_clusters img k v) in
    elim (dec_lt offset size) [
      | no n ↦ let z : view_count (cluster_bytes k) size offset ≡ 0 = omega arith in rw z
      | yes h ↦ sym (content_run (512 * first_data k) (cluster_bytes k) w img cs size offset (view_count (cluster_bytes k) size offset) room (file_holds img k v slot i) (omega (arith, mod-lt offset w)) (omega arith))
    ]
