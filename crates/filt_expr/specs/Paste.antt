-- Parts of rows.
use Rattle.std.specs.Prelude.{◌+◌, ◌&&◌, ℕ, Bool, nat_le, nat_lt}

-- the place is one of n places from `first` on
abbrev pub is_among : ℕ → ℕ → ℕ → Bool
is_among first n at = nat_le first at && nat_lt at (first + n)
