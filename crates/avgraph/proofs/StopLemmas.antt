-- Stops of filters that can't be configured.
use Rattle.std.proofs.Common.{◌≡◌, ℕ, refl}
use Rattle.av_frame.specs.declared.refusals.ConfigError.{ConfigError}
use Rattle.av_frame.specs.declared.refusals.ConfigError.TheVariants as config
use Rattle.av_faults.specs.declared.fault.Stop.TheVariants as stop
use Rattle.avgraph.specs.Stops.{config_stop}

-- a stop by out of memory is that of the filter
pub config_memory : (n : ℕ) (e : ConfigError) → stop.NoMemory ≡ config_stop n e → e ≡ config.NoMemory
config_memory n (config.SizeMismatch a b) h = absurd cc
config_memory n (config.BadGeometry found allowed) h = absurd cc
config_memory n config.TimeBaseRange h = absurd cc
config_memory n (config.TooLarge found allowed) h = absurd cc
config_memory n (config.NoValue k) h = absurd cc
config_memory n config.NoMemory h = refl
