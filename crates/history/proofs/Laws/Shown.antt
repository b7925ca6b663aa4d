-- The files that a sound volume has, and that read answers their bytes.
use Rattle.std.specs.Prelude.{ℕ, ◌*◌, ◌<◌, Bool, refl, length, Option, Some, None}
use Rattle.std.proofs.Common.{arith, inl, inr, sym, ◌∙◌, subst}
use Rattle.std.proofs.Math.Decide.{dec_lt}
use Rattle.std.proofs.Math.Bool.{true, false}
use mathlib.Core.List.{List}
use Rattle.std.proofs.Math.Path.{◌≡◌, ap}
use Rattle.chains.specs.Content.{content}
use Rattle.chains.specs.Aids.Holders.{Holder, Owns}
use Rattle.chains.proofs.Laws.Content.{content_length}
use Rattle.contents.proofs.Laws.Chain.{chain_room}
use Rattle.diskette.specs.Places.{first_data, cluster_bytes, last_cluster, root_entries, slot_at}
use Rattle.diskette.specs.declared.Kind.{Kind}
use Rattle.fields.specs.Fields.{name_of, attr_of, start_of, size_of}
use Rattle.directory.specs.Slots.{standing_of, is_plain}
use Rattle.directory.proofs.Laws.Slots.{plain_is}
use Rattle.sound.specs.Files.{value_of, IsFile, ChainOf}
use Rattle.sound.specs.Aids.Holders.{root_holders}
use Rattle.sound.proofs.Laws.Chains.{file_owns_chain}
use Rattle.sound.proofs.Laws.Holders.{root_holder, plain_holder}
use Rattle.sound.proofs.Laws.Sound.{chain_only}
use Rattle.calls.specs.Outcome.{Outcome}
use Rattle.calls.specs.Aids.Ready.{OnVolume}
use Rattle.calls.proofs.Laws.Ready.{on_usable, on_kind_lem}
use Rattle.holding.specs.Holding.{file_chain, file_bytes}
use Rattle.holding.proofs.Laws.Chain.{file_owned, file_holds}
use Rattle.holding.proofs.Laws.Clusters.{on_clusters}
use Rattle.reading.specs.Read.{read_rows, read_effect, read_outcome}
use Rattle.changes.specs.Files.{File, file, Files, Holds, Shows, ShowsAt}
use Rattle.changes.proofs.Laws.Changed.{on_sound}
use Rattle.history.specs.Aids.Ours.{run}
use Rattle.history.specs.Promises.{FirstFiles, ReadsAreOfHistory}
use Rattle.history.specs.World.{ours}
use Rattle.history.proofs.Laws.Begins.{on}
use Rattle.history.proofs.Laws.Rows.{decided_cases}
use Rattle.history.proofs.Laws.Runs.{begins_run}

module _ (k : Kind) (l : List ℕ) (v : OnVolume l k) where
  -- what slot s has, by whether a plain file stands there
  shown : (s : ℕ) → Dec (s < root_entries k) → Bool → Option File
  shown s (yes h) true =
      Some (file (name_of l (slot_at k s)) (attr_of l (slot_at k s))
      (content (512 * first_data k) (cluster_bytes k) l ((on_sound k l v).0 s) (size_of l (slot_at k s))))
  shown s (yes h) false = None
  shown s (no n) b = None

  shows : (s : ℕ) (d : Dec (s < root_entries k)) (b : Bool) → is_plain (standing_of l (slot_at k s)) ≡ b → ShowsAt k l s (shown s d b)
  unfolding shown
  shows s (yes h) true e =
      let i : IsFile k l s = record { below = h; plain = (plain_is l (slot_at k s)).0 e } in
      record { is_file = i; name = refl; attr = refl; bytes = ((on_sound k l v).0 s, (on_sound k l v).1.chains s i, refl) }
  shows s (yes h) false e = λ i. clash (sym ((plain_is l (slot_at k s)).1 i.plain) ∙ e)
    where
      clash : true ≡ false → ⊥
      clash q = absurd (let z : ◌≡◌ {A = ℕ} 0 1 = cc in omega arith)
  shows s (no n) b e = λ i. n i.below

  pub volume_shows : (fs : Files) × Shows k l fs
  volume_shows = (
    λ s. shown s (dec_lt s (root_entries k)) (is_plain (standing_of l (slot_at k s))),
    λ s. shows s (dec_lt s (root_entries k)) (is_plain (standing_of l (slot_at k s))) refl,
  )

  -- the chain that a walk finds is the file's
  pub file_chain_of : (s : ℕ) → IsFile k l s → ChainOf k l s (file_chain k l (slot_at k s))
  file_chain_of s i =
      let holder = root_holder k l s i.below ∙ plain_holder (cluster_bytes k) l (slot_at k s) i.plain in
      (file_owns_chain k (on_usable l k v) l (root_holders k l) (root_holder k l) s (file_chain k l (slot_at k s)) i).0
      (subst (λ (h : Holder). Owns (last_cluster k) (value_of k l) h (file_chain k l (slot_at k s))) (sym holder) (file_owned l k v s i))

  -- so any list that is its chain is that one
  pub list_is : (s : ℕ) → IsFile k l s → (cs : List ℕ) → ChainOf k l s cs → cs ≡ file_chain k l (slot_at k s)
  list_is s i cs c = chain_only k (on_usable l k v) l s cs (file_chain k l (slot_at k s)) c (file_chain_of s i)

  -- as many bytes as its size says
  pub bytes_long : (s : ℕ) → IsFile k l s → length (file_bytes k l (slot_at k s)) ≡ size_of l (slot_at k s)
  unfolding file_bytes
  bytes_long s i =
      content_length (512 * first_data k) (cluster_bytes k) (on_clusters l k v).wide l (file_chain k l (slot_at k s)) (size_of l (slot_at k s))
      (chain_room (512 * first_data k) (cluster_bytes k) (last_cluster k) l (start_of l (slot_at k s)) (on_clusters l k v)) (file_holds l k v s i)

  pub holds_bytes : (s : ℕ) (f : File) → Holds k l s f → file_bytes k l (slot_at k s) ≡ f.bytes
  unfolding file_bytes
  holds_bytes s f x =
      let i = x.is_file in
      ap (λ (cs : List ℕ). content (512 * first_data k) (cluster_bytes k) l cs (size_of l (slot_at k s)))
      (sym (list_is s i x.bytes.0 x.bytes.1))
      ∙ x.bytes.2

pub first_files : FirstFiles
first_files k w b = volume_shows k w.image (on b)

pub reads_are_of_history : ReadsAreOfHistory ours
unfolding read_outcome
reads_are_of_history k v c cs g h buffer s f e n x =
    let w = run v cs in
    let b = begins_run k cs v c g in
    let l = w.image in
    let t = w.table in
    let i = x.is_file in
    let bytes : file_bytes k l (slot_at k s) ≡ f.bytes = holds_bytes k l (on b) s f x in
    let size : size_of l (slot_at k s) ≡ length f.bytes = sym (bytes_long k l (on b) s i) ∙ ap length bytes in
    elim (decided_cases (read_rows l t h) (read_effect l t h buffer) l t buffer) [
      | inl y ↦ absurd (y.0 (sym (ap (λ (o : Outcome). o.number) y.1) ∙ e))
      | inr y ↦ rw (y.1, on_kind_lem l k (on b), n.slot, size, bytes) (refl, refl)
    ]
