-- Pictures that pass as they are (FFmpeg Filters Documentation, null).
use Rattle.std.specs.Prelude.{codes, refl}
use Rattle.av_filter.specs.Meanings.{Meaning, MeaningLaws}
use Rattle.av_filter.specs.Plains.{plain_meaning, plain_meaning_laws}
use Rattle.filt_video.specs.declared.null.NullRule.{NullRule}

abbrev pub null : Meaning
null = plain_meaning {P = NullRule} (codes "null") (record {}) (λ x. x)

pub null_laws : MeaningLaws null
null_laws = plain_meaning_laws {P = NullRule} (codes "null") (record {}) (λ x. x) (λ x. record { pts = refl; duration = refl }) (λ x. refl)
