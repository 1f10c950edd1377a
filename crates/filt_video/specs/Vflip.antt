-- Pictures turned upside down (FFmpeg Filters Documentation, vflip).
use Rattle.std.specs.Prelude.{ℕ, ◌-◌, codes, refl}
use Rattle.av_base.specs.Shapes.{rows_of}
use Rattle.av_frame.specs.Frames.{FrameValue}
use Rattle.av_filter.specs.Meanings.{Meaning, MeaningLaws}
use Rattle.av_frame.specs.Pictures.{sample, repainted, repainted_keeps}
use Rattle.av_filter.specs.Plains.{plain_meaning, plain_meaning_laws}
use Rattle.filt_video.specs.declared.vflip.VflipRule.{VflipRule}

-- out(p, r, c) = in(p, h - 1 - r, c), where plane p has h rows
abbrev pub vflipped : FrameValue → ℕ → ℕ → ℕ → ℕ
vflipped x p r c = sample x p ((rows_of x.shape p - 1) - r) c

abbrev pub vflip : Meaning
vflip = plain_meaning {P = VflipRule} (codes "vflip") (record {}) (repainted vflipped)

pub vflip_laws : MeaningLaws vflip
vflip_laws = plain_meaning_laws {P = VflipRule} (codes "vflip") (record {}) (repainted vflipped) (repainted_keeps vflipped) (λ x. refl)
