-- Document 01, "When a volume is sound": what each finding says of a place. Finding 1 is about the bytes as a whole and
-- stands in Answer.
use Rattle.std.specs.Prelude.{ℕ, ◌+◌, ◌*◌, ◌<◌, true, List, ◌⊎◌, ◌≢◌, ◌≡◌, get_or}
use Rattle.chains.specs.Lists.{◌∈◌}
use Rattle.chains.specs.Values.{Link, Used, Valid}
use Rattle.diskette.specs.Places.{last_cluster, root_entries, copy_one, copy_two, slot_at}
use Rattle.diskette.specs.declared.Kind.{Kind}
use Rattle.fields.specs.Fields.{name_of, attr_of}
use Rattle.directory.specs.Slots.{has_bit, NeverUsedAt, LiveAt, LabelAt, PlainAt}
use Rattle.sound.specs.Files.{value_of, IsFile, ChainOf}

-- 2. Byte 1 or 2 of copy 1 is not FF, or the copies differ anywhere in their sectors. (The place is an offset in the copy.)
abbrev pub TablesDiffer : Kind → List ℕ → ℕ → Type 0
TablesDiffer k l j =
    (j < 512 * k.fat)
    × ((((j ≡ 1) ⊎ (j ≡ 2)) × (get_or l (copy_one + j) 0 ≢ 0xFF)) ⊎ (get_or l (copy_one + j) 0 ≢ get_or l (copy_two k + j) 0))

-- 3. An entry from 2 to the last cluster has none of the values above.
abbrev pub NoValue : Kind → List ℕ → ℕ → Type 0
NoValue k l c = Link (last_cluster k) c × (¬ Valid (last_cluster k) (value_of k l c))

-- 4. Directory: a slot after a 00 slot whose first byte is not 00;
abbrev pub AfterNeverUsed : Kind → List ℕ → ℕ → Type 0
AfterNeverUsed k l s = (¬ NeverUsedAt l (slot_at k s)) × ((t : ℕ) × (t < s) × NeverUsedAt l (slot_at k t))

-- a live entry starting with 2E, or with attribute bit 10, 40 or 80;
abbrev pub StrangeEntry : Kind → List ℕ → ℕ → Type 0
StrangeEntry k l s =
    let a = slot_at k s in
    LiveAt l a
    × ((get_or l a 0 ≡ 0x2E)
    ⊎ ((has_bit (attr_of l a) 0x10 ≡ true) ⊎ ((has_bit (attr_of l a) 0x40 ≡ true) ⊎ (has_bit (attr_of l a) 0x80 ≡ true))))

-- a second label;
abbrev pub SecondLabel : Kind → List ℕ → ℕ → Type 0
SecondLabel k l s = LabelAt l (slot_at k s) × ((t : ℕ) × (t < s) × LabelAt l (slot_at k t))

-- a plain file with the 11 name bytes of one in a lower slot.
abbrev pub NameTwice : Kind → List ℕ → ℕ → Type 0
NameTwice k l s =
    PlainAt l (slot_at k s) × ((t : ℕ) × (t < s) × PlainAt l (slot_at k t) × (name_of l (slot_at k t) ≡ name_of l (slot_at k s)))

abbrev pub BadSlot : Kind → List ℕ → ℕ → Type 0
BadSlot k l s =
    (s < root_entries k) × (AfterNeverUsed k l s ⊎ (StrangeEntry k l s ⊎ (SecondLabel k l s ⊎ NameTwice k l s)))

-- 5. Chain: start 0 with size above 0, or a chain too short, broken or without end.
abbrev pub BadChain : Kind → List ℕ → ℕ → Type 0
BadChain k l s = IsFile k l s × ((cs : List ℕ) → ¬ ChainOf k l s cs)

-- a cluster of the chain of the file in slot s
abbrev pub InChain : Kind → List ℕ → ℕ → ℕ → Type 0
InChain k l s c = IsFile k l s × ((cs : List ℕ) × ChainOf k l s cs × (c ∈ cs))

-- 6. A cluster in two files' chains.
abbrev pub InTwoChains : Kind → List ℕ → ℕ → Type 0
InTwoChains k l c = (s t : ℕ) × (s ≢ t) × InChain k l s c × InChain k l t c

-- 7. A cluster whose value is a link or an end but which is in no chain.
abbrev pub Lost : Kind → List ℕ → ℕ → Type 0
Lost k l c = Link (last_cluster k) c × Used (last_cluster k) (value_of k l c) × ((s : ℕ) → ¬ InChain k l s c)
