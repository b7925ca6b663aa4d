-- Two spellings name the same file exactly where they differ at most in the case of letters and a last dot.
use Rattle.std.specs.Prelude.{ℕ, zero, suc, ◌-◌, true, false, Some, ◌↔◌, ◌≡◌, refl, length, take, drop, replicate}
use Rattle.std.proofs.Common.{arith, inl, inr, ◌∙◌, take_at, drop_at}
use mathlib.Core.List.{List, [], ◌∷◌, ◌++◌, map, append-nil, map-append}
use Rattle.std.proofs.Math.Path.{sym, ap}
use Rattle.std.proofs.lemmas.List.{length-map}
use Rattle.names.specs.Alphabet.{plain, allowed, capital}
use Rattle.names.specs.Spelling.{dot, space, every, Parts, Spells, padded, eleven, without_last, plainly}
use Rattle.names.specs.Reading.{before_first, after_first, fitting, name_given}
use Rattle.names.proofs.Laws.Alphabet.{capital_plain, every_map}
use Rattle.names.proofs.Laws.Parts.{before_skip, after_skip, without_none, length_filled}
use Rattle.names.proofs.Laws.Meaning.{no_dot, fits_spells, fits_name}

-- ---- a last dot

last_dot_append : (b : List ℕ) (c : ℕ) (cs : List ℕ) → without_last dot (b ++ (c ∷ cs)) ≡ b ++ without_last dot (c ∷ cs)
unfolding without_last
last_dot_append [] c cs = refl
last_dot_append (x ∷ []) c cs = refl
last_dot_append (x ∷ (y ∷ ys)) c cs = ap (λ (l : List ℕ). x ∷ l) (last_dot_append (y ∷ ys) c cs)

-- ---- the two parts with a dot between them where it is needed

joined : List ℕ → List ℕ → List ℕ
joined b [] = b
joined b (c ∷ cs) = b ++ (dot ∷ (c ∷ cs))

spells_joined : (s base ext : List ℕ) → Spells (every allowed) s base ext → without_last dot s ≡ joined base ext
unfolding joined without_last
spells_joined s base [] w = elim w.written [
  | inl h ↦ ap (without_last dot) h.0 ∙ without_none allowed dot no_dot base w.parts.base_good
  | inr e ↦ ap (without_last dot) e ∙ last_dot_append base dot [] ∙ append-nil base
]
spells_joined s base (c ∷ cs) w = elim w.written [
  | inl h ↦ absurd (let z : length (c ∷ cs) ≡ 0 = ap length h.1 in omega arith)
  | inr e ↦ ap (without_last dot) e ∙ last_dot_append base dot (c ∷ cs) ∙ ap (λ (l : List ℕ). base ++ (dot ∷ l)) (without_none allowed dot no_dot (c ∷ cs) w.parts.ext_good)
]

map_joined : (base ext : List ℕ) → map capital (joined base ext) ≡ joined (map capital base) (map capital ext)
unfolding joined capital
map_joined base [] = refl
map_joined base (c ∷ cs) = map-append capital base (dot ∷ (c ∷ cs))

-- ---- parts of plain characters are found again, in the eleven bytes and in what is joined

no_plain_space : plain space ≡ false
unfolding plain
no_plain_space = refl

no_plain_dot : plain dot ≡ false
unfolding plain
no_plain_dot = refl

before_spaces : (n : ℕ) → before_first space (replicate n space) ≡ []
unfolding before_first
before_spaces zero = refl
before_spaces (suc n) = refl

unpadded : (n : ℕ) (t : List ℕ) → every plain t ≡ true → before_first space (padded n t) ≡ t
unpadded n t e = before_skip plain space no_plain_space t (replicate (n - length t) space) e ∙ ap (λ (l : List ℕ). t ++ l) (before_spaces (n - length t)) ∙ append-nil t

unjoined : (b e : List ℕ) → every plain b ≡ true → (before_first dot (joined b e) ≡ b) × (after_first dot (joined b e) ≡ e)
unfolding joined before_first after_first
unjoined b [] p = (
  ap (before_first dot) (sym (append-nil b)) ∙ before_skip plain dot no_plain_dot b [] p ∙ append-nil b,
  ap (after_first dot) (sym (append-nil b)) ∙ after_skip plain dot no_plain_dot b [] p,
)
unjoined b (c ∷ cs) p = (
  before_skip plain dot no_plain_dot b (dot ∷ (c ∷ cs)) p ∙ append-nil b,
  after_skip plain dot no_plain_dot b (dot ∷ (c ∷ cs)) p,
)

module _ (base ext : List ℕ) (p : Parts (every allowed) base ext) where
  plain_base : every plain (map capital base) ≡ true
  plain_base = every_map allowed plain capital capital_plain base p.base_good

  plain_ext : every plain (map capital ext) ≡ true
  plain_ext = every_map allowed plain capital capital_plain ext p.ext_good

  eight : length (padded 8 (map capital base)) ≡ 8
  eight = length_filled 8 space (map capital base) (rw (length-map base capital) p.eight)

  base_of_eleven : before_first space (take 8 (eleven base ext)) ≡ map capital base
  unfolding eleven
  base_of_eleven = ap (before_first space) (take_at (padded 8 (map capital base)) (padded 3 (map capital ext)) 8 eight) ∙ unpadded 8 (map capital base) plain_base

  ext_of_eleven : before_first space (drop 8 (eleven base ext)) ≡ map capital ext
  unfolding eleven
  ext_of_eleven = ap (before_first space) (drop_at (padded 8 (map capital base)) (padded 3 (map capital ext)) 8 eight) ∙ unpadded 3 (map capital ext) plain_ext

module _ (b e c f : List ℕ) (p : Parts (every allowed) b e) (q : Parts (every allowed) c f) where
  same_joined : eleven b e ≡ eleven c f → joined (map capital b) (map capital e) ≡ joined (map capital c) (map capital f)
  same_joined h =
      let x : map capital b ≡ map capital c = sym (base_of_eleven b e p) ∙ ap (λ (n : List ℕ). before_first space (take 8 n)) h ∙ base_of_eleven c f q in
      let y : map capital e ≡ map capital f = sym (ext_of_eleven b e p) ∙ ap (λ (n : List ℕ). before_first space (drop 8 n)) h ∙ ext_of_eleven c f q in
      rw (x, y)

  same_eleven : joined (map capital b) (map capital e) ≡ joined (map capital c) (map capital f) → eleven b e ≡ eleven c f
  unfolding eleven
  same_eleven h =
      let u = unjoined (map capital b) (map capital e) (plain_base b e p) in
      let v = unjoined (map capital c) (map capital f) (plain_base c f q) in
      let x : map capital b ≡ map capital c = sym u.0 ∙ ap (before_first dot) h ∙ v.0 in
      let y : map capital e ≡ map capital f = sym u.1 ∙ ap (after_first dot) h ∙ v.1 in
      rw (x, y)

-- ---- the theorem

plainly_joined : (s base ext : List ℕ) → Spells (every allowed) s base ext → plainly s ≡ joined (map capital base) (map capital ext)
unfolding plainly
plainly_joined s base ext w = ap (map capital) (spells_joined s base ext w) ∙ map_joined base ext

spells_same : (s b e t c f : List ℕ) → Spells (every allowed) s b e → Spells (every allowed) t c f → (eleven b e ≡ eleven c f) ↔ (plainly s ≡ plainly t)
spells_same s b e t c f w v =
    let x = plainly_joined s b e w in
    let y = plainly_joined t c f v in (
      λ h. x ∙ same_joined b e c f w.parts v.parts h ∙ sym y,
      λ h. same_eleven b e c f w.parts v.parts (sym x ∙ h ∙ y),
    )

pub same : (s t m n : List ℕ) → name_given s ≡ Some m → name_given t ≡ Some n → (m ≡ n) ↔ (plainly s ≡ plainly t)
same s t m n f g =
    rw (fits_name s m f, fits_name t n g)
    (spells_same s (before_first dot s) (after_first dot s) t (before_first dot t) (after_first dot t) (fits_spells s m f) (fits_spells t n g))

-- "TARE." equals "TARE"
abbrev pub tare : List ℕ
tare = 0x54 ∷ 0x41 ∷ 0x52 ∷ 0x45 ∷ []

pub tare_bytes : name_given tare ≡ Some (tare ++ replicate 7 space)
unfolding name_given before_first after_first fitting every plain allowed capital eleven
tare_bytes = refl

pub tare_dot : name_given (tare ++ (dot ∷ [])) ≡ name_given tare
unfolding name_given before_first after_first fitting every plain allowed capital eleven
tare_dot = refl
