-- Sizes that the reader and the writer keep to.
use Rattle.std.specs.Prelude.{ℕ}

-- how many bytes of a file are read or written at a time at most
abbrev pub piece_size : ℕ
piece_size = 65536

-- how many bytes a frame's line has at most, with its line feed
abbrev pub longest_mark : ℕ
longest_mark = 256
