-- Pictures turned from left to right (FFmpeg Filters Documentation, hflip).
use Rattle.std.specs.Prelude.{ℕ, ◌-◌, length, slice_index, codes, refl}
use Rattle.av_frame.specs.Frames.{FrameValue, plane_at}
use Rattle.av_filter.specs.Meanings.{Meaning, MeaningLaws}
use Rattle.av_frame.specs.Pictures.{repainted, repainted_keeps}
use Rattle.av_filter.specs.Plains.{plain_meaning, plain_meaning_laws}
use Rattle.av_frame.specs.Rasters.{row_of}
use Rattle.filt_video.specs.declared.hflip.HflipRule.{HflipRule}

-- out(p, r, c) = in(p, r, w - 1 - c), where row r has w samples
abbrev pub hflipped : FrameValue → ℕ → ℕ → ℕ → ℕ
hflipped x p r c = let row = row_of (plane_at x.planes p) r in slice_index row ((length row - 1) - c)

abbrev pub hflip : Meaning
hflip = plain_meaning {P = HflipRule} (codes "hflip") (record {}) (repainted hflipped)

pub hflip_laws : MeaningLaws hflip
hflip_laws = plain_meaning_laws {P = HflipRule} (codes "hflip") (record {}) (repainted hflipped) (repainted_keeps hflipped) (λ x. refl)
