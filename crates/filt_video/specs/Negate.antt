-- Negated pictures (FFmpeg Filters Documentation, negate).
use Rattle.std.specs.Prelude.{ℕ, ◌-◌, ◌==◌, if◌then◌else◌, codes, refl}
use Rattle.av_frame.specs.Frames.{FrameValue}
use Rattle.av_filter.specs.Meanings.{Meaning, MeaningLaws}
use Rattle.av_frame.specs.Pictures.{sample, repainted, repainted_keeps}
use Rattle.av_filter.specs.Plains.{plain_meaning, plain_meaning_laws}
use Rattle.filt_video.specs.declared.negate.NegateRule.{NegateRule}

-- out(p, r, c) = 255 - in(p, r, c) in Y, U and V; A, plane 3, stays
abbrev pub negated : FrameValue → ℕ → ℕ → ℕ → ℕ
negated x p r c = if p == 3 then sample x p r c else 255 - sample x p r c

abbrev pub negate : Meaning
negate = plain_meaning {P = NegateRule} (codes "negate") (record {}) (repainted negated)

pub negate_laws : MeaningLaws negate
negate_laws = plain_meaning_laws {P = NegateRule} (codes "negate") (record {}) (repainted negated) (repainted_keeps negated) (λ x. refl)
