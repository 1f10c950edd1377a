-- The limits of the hosts.
use Rattle.std.specs.Prelude.{◌-◌, ◌^◌, ℕ}

-- how many bytes a host in memory has room to print
abbrev pub said_room : ℕ
said_room = 65536

-- the last value of a count of faults
abbrev pub last_count : ℕ
last_count = 2 ^ 64 - 1
