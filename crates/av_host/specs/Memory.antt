-- What a host in memory means.
use Rattle.std.specs.Prelude.{◌≡◌, ℕ, ◌+◌, ◌-◌, min, List, nat_lt, length, drop, slice_get, string_bytes, Some, Err, Result, option_map, Bool, true, false, ◌==◌}
use Rattle.std.specs.List.{list_any}
use Rattle.av_host.specs.World.{World, Inputs, Outputs, Faults}
use Rattle.av_host.specs.Bounds.{said_room, last_count}
use Rattle.av_host.specs.Named.{last_named, live_name}
use Rattle.av_host.specs.declared.host.HostError.{HostError}
use Rattle.av_host.specs.declared.host.HostError.TheVariants.{Failed}
use Rattle.av_host.specs.declared.parts.MemoryHost.{MemoryHost}
use Rattle.av_host.specs.declared.parts.NamedBytes.{NamedBytes}
use Rattle.av_host.specs.declared.parts.Source.{Source}
use Rattle.av_host.specs.declared.parts.Counts.{Counts}
use Rattle.av_host.specs.declared.parts.CallPlan.{CallPlan}

-- the name, as bytes
abbrev pub name_of : NamedBytes → List ℕ
name_of n = string_bytes n.name

-- the bytes that the name has
abbrev pub bytes_of : NamedBytes → List ℕ
bytes_of n = n.bytes.items

-- what is left of an open input
abbrev pub left_of : Source → List ℕ
left_of s = drop s.at s.bytes.items

-- the four counts
abbrev pub faults_of : Counts → Faults
faults_of c = record { openings = c.openings; reads = c.reads; writes = c.writes; sayings = c.sayings }

-- each place of the list is the id of an open input
abbrev pub inputs_of : List Source → Inputs
inputs_of sources = record {
  is_open = λ id. nat_lt id (length sources);
  left = λ id. option_map left_of (slice_get sources id);
}

-- each place of the list is the id of an output, unless a later one has its name
abbrev pub outputs_of : List NamedBytes → Outputs
outputs_of made = record {
  name = λ id. live_name name_of made id;
  content = λ name. Some (option_map bytes_of (last_named name_of made name));
}

-- the world of a host in memory
abbrev pub memory_world : MemoryHost → World
memory_world m = record {
  held = λ name. option_map bytes_of (last_named name_of m.files.items name);
  inputs = inputs_of m.sources.items;
  outputs = outputs_of m.made.items;
  said = Some m.said.bytes.items;
  faults = faults_of m.counts;
}

-- whether the next call is one that fails
abbrev pub plan_fails : CallPlan → Bool
plan_fails p = list_any (λ call. call == p.made) p.failing.items

-- how many calls of the host were made
abbrev pub calls_made : MemoryHost → ℕ
calls_made m = m.plan.made

-- which calls fail, counted from 0
abbrev pub failing_calls : MemoryHost → List ℕ
failing_calls m = m.plan.failing.items

-- whether the next call is one that fails
abbrev pub fails_now : MemoryHost → Bool
fails_now m = plan_fails m.plan

-- the most that a read gives
abbrev pub read_bound : MemoryHost → ℕ
read_bound m = m.read_bound

-- the most that a write takes
abbrev pub write_bound : MemoryHost → ℕ
write_bound m = m.write_bound

-- how many more bytes can be printed
abbrev pub room_to_say : MemoryHost → ℕ
room_to_say m = said_room - length m.said.bytes.items

-- one more, up to the last value of a count
abbrev pub raised : ℕ → ℕ
raised n = min (n + 1) last_count

-- whether the call failed
abbrev pub is_failed : {T : Type 0} → Result T HostError → Bool
is_failed (Err Failed) = true
is_failed other = false

-- No call was made, and which calls fail and the bounds on reads and writes stay.
pub record KeepsCalls (old new : MemoryHost) : Type 0 where
  pub made : calls_made new ≡ calls_made old
  pub failing : failing_calls new ≡ failing_calls old
  pub bound : read_bound new ≡ read_bound old
  pub taking : write_bound new ≡ write_bound old

-- One more call was made, and which calls fail and the bounds on reads and writes stay.
pub record CountsCall (old new : MemoryHost) : Type 0 where
  pub made : calls_made new ≡ raised (calls_made old)
  pub failing : failing_calls new ≡ failing_calls old
  pub bound : read_bound new ≡ read_bound old
  pub taking : write_bound new ≡ write_bound old
