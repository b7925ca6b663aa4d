-- Texts put on a page one after the other are one text.
use Rattle.std.specs.Prelude.{ℕ, List, [], ◌++◌, ◌≡◌, refl}
use Rattle.std.proofs.Common.{sym, ◌∙◌}
use Rattle.text.specs.declared.page.Page.{Page}
use Rattle.text.specs.Aids.Puts.{PutsIn}
use Rattle.text.specs.Aids.Pages.{Adds, AddsIn}
use Rattle.text.proofs.Laws.Puts.{puts_nothing, puts_then}

pub adds_nothing : (p : Page) → Adds [] p p
adds_nothing p = record { same = refl; long = refl; puts = puts_nothing p.out.now p.at }

pub adds_then : (s t : List ℕ) (p q r : Page) → Adds s p q → Adds t q r → Adds (s ++ t) p r
adds_then s t p q r f g =
    record {
      same = g.same ∙ f.same;
      long = g.long ∙ f.long;
      puts = puts_then s t p.out.now p.at q.at q.out.now r.at r.out.now f.puts g.puts;
    }

-- a value that was told apart is shown as what it is
pub adds_shown : {A : Type 0} (show : A → List ℕ) (read told a : A) (p q : Page) → a ≡ read → a ≡ told → Adds (show told) p q → Adds (show read) p q
adds_shown show read told a p q e f g = rw (sym e ∙ f) g

-- the same said of the buffer and the two places in it
pub puts_in : (most : ℕ) (text : List ℕ) (p q : Page) → AddsIn most text p q → PutsIn most text p.out.now p.at q.at q.out.now
puts_in most text p q f = record { puts = f.adds.puts; room = f.room }
