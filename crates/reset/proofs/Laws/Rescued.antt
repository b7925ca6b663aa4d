-- A file that stands on a disk, under a name that no other has, is what rescue gives.
use Rattle.std.specs.Prelude.{ℕ, ◌+◌, ◌*◌, ◌≤◌, ◌<◌, min, true, List, [], ◌≡◌, take, Some, is_some, is_none}
use Rattle.std.proofs.Common.{arith, ◌∙◌}
use Rattle.std.proofs.Math.Bool.{false, not}
use Rattle.std.proofs.Math.Path.{sym, ap}
use Rattle.std.proofs.Math.ListN.{length}
use borrow.Author.Tests.{ltb-true}
use Rattle.image.specs.Store.{stored}
use Rattle.search.proofs.Laws.Answers.{only_answer}
use Rattle.chains.proofs.Laws.Tests.{true_says}
use Rattle.diskette.specs.Images.{kind_of_image}
use Rattle.diskette.proofs.Laws.Images.{image_of_kind, image_usable, image_has_area}
use Rattle.diskette.specs.Places.{first_data, root_entries, slot_at}
use Rattle.diskette.specs.declared.Kind.{Kind}
use Rattle.directory.specs.Search.{slot_named}
use Rattle.directory.specs.Slots.{PlainAt}
use Rattle.directory.proofs.Laws.Search.{slot_named_answers}
use Rattle.fields.specs.Fields.{name_of, size_of}
use Rattle.names.specs.Reading.{name_given, name_bytes}
use Rattle.names.specs.Spelling.{Means}
use Rattle.names.proofs.Laws.Given.{given_bytes}
use Rattle.names.proofs.Laws.Meaning.{accepted}
use Rattle.names.proofs.Laws.Proper.{proper}
use Rattle.sound.specs.Files.{IsFile}
use Rattle.calls.specs.Outcome.{Outcome, outcome, refusal, decided}
use Rattle.calls.specs.Refusals.{is_unknown, kind_found, the_kind, not_of_kind, bad_name, file_found}
use Rattle.holding.specs.Holding.{file_bytes}
use Rattle.rescuing.specs.Rescue.{good_chain, rescue_outcome}
use Rattle.rescuing.proofs.Laws.Chain.{says_chain, held_long, held_by_lem}
use Rattle.changes.specs.Files.{File, Holds}
use Rattle.history.specs.World.{ours}
use Rattle.reset.specs.Promises.{Rescued}

module _ (m : List ℕ) (k : Kind) (e : kind_of_image m ≡ Some k) (s : ℕ) (f : File) (h : Holds k m s f)
    (alone : (r : ℕ) → IsFile k m r → name_of m (slot_at k r) ≡ name_of m (slot_at k s) → r ≡ s) (name : List ℕ) (means : Means name f.name) where
  is_kind : the_kind m ≡ k
  is_kind = ap kind_found e

  slots_in : (t : ℕ) → t < root_entries k → slot_at k t + 32 ≤ length m
  slots_in t i = let a : 512 * first_data k ≤ length m = image_has_area m k ((image_of_kind m k).0 e) (image_usable m k e) in omega arith

  spelled : name_of m (slot_at k s) ≡ name_bytes (name_given name)
  spelled = h.name ∙ sym (ap name_bytes ((accepted name f.name).1 means))

  -- slot r holds a plain file of the name
  abbrev Named : ℕ → Type 0
  Named r = (r < root_entries k) × (PlainAt m (slot_at k r) × (name_of m (slot_at k r) ≡ name_bytes (name_given name)))

  found : file_found m name ≡ Some s
  unfolding file_found
  found =
      let n = (name_bytes (name_given name)) in
      rw is_kind (only_answer Named (slot_named m (slot_at k) (root_entries k) n) (Some s)
      (slot_named_answers m (slot_at k) (root_entries k) slots_in n (proper name n (given_bytes (name_given name) (ap is_some ((accepted name f.name).1 means)))).long) (
        (h.is_file.below, (h.is_file.plain, spelled)),
        λ q l x.
            let z : q ≡ s = alone q (record { below = x.0; plain = x.1.0 }) (x.1.1 ∙ sym spelled) in
            omega (arith, ltb-true q s l),
      ))

  good : good_chain k m s ≡ true
  good = true_says (says_chain m k e s) (h.bytes.0, h.bytes.1)

  held : file_bytes k m (slot_at k s) ≡ f.bytes
  held = held_by_lem m k e s h.bytes.0 h.bytes.1 ∙ h.bytes.2

  rescue_is : (out : List ℕ) → let n = min (length out) (length f.bytes) in rescue_outcome m name out ≡ outcome 0 n m [] (stored out 0 (take n f.bytes))
  unfolding rescue_outcome decided refusal
  rescue_is out =
      let p : not_of_kind m ≡ false = ap is_unknown e in
      let q : bad_name name ≡ false = ap is_none ((accepted name f.name).1 means) in
      let z : length f.bytes ≡ size_of m (slot_at k s) = ap length (sym held) ∙ held_long m k e s good in
      rw (p, q, found, is_kind, good, held, z)

pub rescued_by_name : (m : List ℕ) (k : Kind) → kind_of_image m ≡ Some k → (s : ℕ) (f : File) → Holds k m s f
    → ((r : ℕ) → IsFile k m r → name_of m (slot_at k r) ≡ name_of m (slot_at k s) → r ≡ s) → Rescued ours m f
rescued_by_name m k e s f h alone name means table out =
    let x = rescue_is m k e s f h alone name means out in
    let count = ap (λ (o : Outcome). o.value) x in
    let put = ap (λ (o : Outcome). o.buffer) x ∙ ap (λ (n : ℕ). stored out 0 (take n f.bytes)) (sym count) in
    (ap (λ (o : Outcome). o.number) x, count, put)
