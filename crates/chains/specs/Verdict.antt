-- The first finding in order, at its lowest place. What a place is may differ from finding to finding.
use Rattle.std.specs.Prelude.{◌≡◌, ◌⊎◌, Bool}
use Rattle.search.specs.Search.{Lowest, Nowhere}

-- the answer a says B at its lowest place; or B holds nowhere, and the rest decides a
abbrev pub OrElse : {P A : Type 0} → (P → P → Bool) → (P → Type 0) → (P → A) → (A → Type 0) → A → Type 0
OrElse before B say Rest a = ((p : _) × Lowest before B p × (a ≡ say p)) ⊎ (Nowhere B × Rest a)
