-- Limits that several crates share.
use Rattle.std.specs.Prelude.{◌^◌, ℕ}

-- the greatest width and the greatest height of a picture, in samples
abbrev pub greatest_side : ℕ
greatest_side = 8192

-- the greatest number of bytes of a picture
abbrev pub greatest_picture : ℕ
greatest_picture = 2 ^ 26

-- Sizes in a header of a file, and the parts of ratios, are below this number.
abbrev pub number_bound : ℕ
number_bound = 2 ^ 31

-- the greatest size of a time, in ticks
abbrev pub greatest_time : ℕ
greatest_time = 2 ^ 62
