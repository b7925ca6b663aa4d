-- Document 01, "Worked numbers": the listing's case. What our definitions give is the text that the paper prints.
use Rattle.std.specs.Prelude.{ℕ, List, [], ◌∷◌, map, ◌≡◌, refl}
use Prim.Native.String.{String}
use Rattle.names.specs.Alphabet.{plain}
use Rattle.names.specs.Spelling.{every}
use Rattle.stamps.specs.Stamps.{time_read, date_read, time_fits, date_fits}
use Rattle.text.specs.Ascii.{ascii}
use Rattle.text.specs.Digits.{digit_sign, in_digits, width_in, width, decimal, hex}
use Rattle.text.specs.Names.{only_spaces, trimmed, shown, part_text, ext_text, name_text}
use Rattle.text.specs.Stamps.{marked_text, three_text, date_shown, time_shown}
use Rattle.lines.specs.Lines.{line, stamp_text, file_text, out_of_use_text, counts_text, sound_text, unsound_text}

-- ours is what our definitions give, paper what the paper prints
pub record Printed : Type 0 where
  pub ours : List ℕ
  pub paper : String

infix 4 ◌prints◌
abbrev ◌prints◌ : List ℕ → String → Printed
o prints p = record { ours = o; paper = p }

-- the listing's three blocks; names and stamps of other shapes
abbrev pub printed_cases : List Printed
printed_cases =
    (sound_text 0xFE 313 309 4 0 0 2 prints "sound=yes\nkind=FE\nclusters=313\nfree=309\nheld=4\nbad=0\nreserved=0\nfiles=2\n")
    ∷ (file_text (ascii "TARE    KEY") 0x21 40 2 0x0721 0x3500 prints "file=TARE.KEY\nattr=21\nsize=40\nstart=2\ndate=1983-09-01\ntime=06:40:00\n")
    ∷ (file_text (ascii "DAY001  LOG") 0x20 1025 3 0x0721 0x90BD prints "file=DAY001.LOG\nattr=20\nsize=1025\nstart=3\ndate=1983-09-01\ntime=18:05:58\n")
    ∷ (unsound_text 7 352 prints "sound=no\nfinding=7\nplace=352\n")
    ∷ (name_text (ascii "README     ") prints "README")
    ∷ (name_text (ascii "        EXT") prints ".EXT")
    ∷ (name_text (ascii "           ") prints "")
    ∷ (name_text (ascii "a B.    C D") prints "??B?.C?D")
    ∷ (date_shown (date_read 0x0700) prints "none")
    ∷ (time_shown (time_read 0x90BE) prints "none")
    ∷ []

pub printed : map (λ (c : Printed). c.ours) printed_cases ≡ map (λ (c : Printed). ascii c.paper) printed_cases
unfolding every plain time_read date_read time_fits date_fits digit_sign in_digits width_in width decimal hex only_spaces trimmed shown part_text ext_text name_text marked_text three_text date_shown time_shown line stamp_text file_text out_of_use_text counts_text sound_text unsound_text
printed = refl
