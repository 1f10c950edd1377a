-- The filters that calls name, and the options that arguments give them (FFmpeg Filters Documentation; which filters there
-- are, and what is refused, is this project's own).
use Rattle.std.specs.Prelude.{◌≡◌, ℕ, true, false, List, [], ◌∷◌, Some, None, codes, Result, Ok, Err}
use Rattle.graph_text.specs.declared.graph.FilterCall.{FilterCall}
use Rattle.av_filter.specs.Words.{word_in}
use Rattle.av_frame.specs.declared.refusals.OptionError.{OptionError}
use Rattle.av_frame.specs.declared.refusals.OptionError.TheVariants.{UnknownFilter, NotYet}
use Rattle.node_core.specs.Filters.{frame_filters}
use Rattle.node_core.specs.declared.kind.Kind.{Kind}
use Rattle.node_core.specs.declared.name.Later.{Later}

-- ---- names

abbrev pub later : List ℕ → List ℕ × Later
later text = (text, record {})

-- filters that are still to be built
abbrev pub later_names : List (List ℕ × Later)
later_names =
    later (codes "overlay") ∷ later (codes "hstack") ∷ later (codes "vstack") ∷ later (codes "xstack") ∷ later (codes "alphamerge") ∷ later (codes "blend")
    ∷ later (codes "trim") ∷ later (codes "atrim") ∷ later (codes "fps") ∷ later (codes "setpts") ∷ later (codes "asetpts") ∷ later (codes "framestep")
    ∷ later (codes "loop") ∷ later (codes "reverse") ∷ later (codes "areverse")
    ∷ later (codes "split") ∷ later (codes "asplit") ∷ later (codes "extractplanes") ∷ later (codes "alphaextract") ∷ later (codes "channelsplit") ∷ later (codes "concat")
    ∷ later (codes "volume") ∷ later (codes "channelmap") ∷ later (codes "amerge") ∷ later (codes "asetnsamples") ∷ later (codes "apad") ∷ later (codes "adelay")
    ∷ later (codes "aformat") ∷ later (codes "anull") ∷ []

-- ---- calls

-- What a call means: the filter of its name with the options that its arguments give it, or why these are refused; no
-- filter, if there is none of this name, or it is still to be built.
pub data Means (call : FilterCall) : Result Kind OptionError → Type 0 where
  Filter : (kind : Kind) → frame_filters.contains call.name ≡ true → frame_filters.reads call.name call.args (Ok kind.options) → Means call (Ok kind)
  Refused : (e : OptionError) → frame_filters.contains call.name ≡ true → frame_filters.reads call.name call.args (Err e) → Means call (Err e)
  Unbuilt : frame_filters.contains call.name ≡ false → word_in later_names call.name ≡ Some (record {}) → Means call (Err NotYet)
  Unknown : frame_filters.contains call.name ≡ false → word_in later_names call.name ≡ None → Means call (Err UnknownFilter)

-- the filter that a call names, with the options that its arguments give it
abbrev pub IsKind : FilterCall → Kind → Type 0
IsKind call kind = Means call (Ok kind)

-- what a call is refused for
abbrev pub IsKindFault : FilterCall → OptionError → Type 0
IsKindFault call e = Means call (Err e)
