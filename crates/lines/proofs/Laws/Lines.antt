-- A key, a value and an end, put one after the other, are a line; so are the lines of a volume that is not sound.
use Rattle.std.specs.Prelude.{ℕ, List, ◌++◌}
use Rattle.text.specs.Ascii.{ascii}
use Rattle.text.specs.Digits.{decimal}
use Rattle.text.specs.declared.page.Page.{Page}
use Rattle.text.specs.Aids.Pages.{Adds}
use Rattle.text.proofs.Laws.Pages.{adds_then}
use Rattle.lines.specs.Lines.{line, unsound_text}

pub adds_line : (key value : List ℕ) (p q r s : Page) → Adds key p q → Adds value q r → Adds (ascii "\n") r s → Adds (line key value) p s
unfolding line
adds_line key value p q r s f g h = adds_then key (value ++ ascii "\n") p q s f (adds_then value (ascii "\n") q r s g h)

pub adds_unsound : (finding place : ℕ) (p q r s : Page)
    → Adds (ascii "sound=no\n") p q → Adds (line (ascii "finding=") (decimal finding)) q r → Adds (line (ascii "place=") (decimal place)) r s
    → Adds (unsound_text finding place) p s
unfolding unsound_text
adds_unsound finding place p q r s a b c =
    let two = adds_then (line (ascii "finding=") (decimal finding)) (line (ascii "place=") (decimal place)) q r s b c in
    adds_then (ascii "sound=no\n") (line (ascii "finding=") (decimal finding) ++ line (ascii "place=") (decimal place)) p q s a two
