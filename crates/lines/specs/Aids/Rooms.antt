-- How many bytes the lines have at most. (A number is taken as one of 20 digits.)
use Rattle.std.specs.Prelude.{ℕ}

-- a file
abbrev pub file_room : ℕ
file_room = 109

-- a sound volume, before its files
abbrev pub sound_room : ℕ
sound_room = 182

-- a volume that is not sound
abbrev pub unsound_room : ℕ
unsound_room = 65
