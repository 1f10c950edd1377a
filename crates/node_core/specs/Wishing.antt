-- What filters ask of the formats of their links.
use Rattle.std.specs.Prelude.{List, [], ◌∷◌, ◌++◌, ◌^◌, ◌⊎◌, Bool, true, false, map, filter, fold, flat_map, bit_or}
use Rattle.std.proofs.Common.{inl, inr}
use Rattle.av_base.specs.declared.formats.PixelFormat.TheVariants.{Gray, Yuv420p, Yuv422p, Yuv444p, Yuva420p, Yuva422p, Yuva444p}
use Rattle.av_base.specs.declared.formats.SampleFormat.TheVariants.{U8, S16, S32}
use Rattle.av_base.specs.declared.formats.Format.{Format}
use Rattle.av_base.specs.declared.formats.Format.TheVariants.{Video, Audio}
use Rattle.av_base.specs.declared.sets.FormatSet.{FormatSet}
use Rattle.av_base.specs.FormatSets.{place_of}
use Rattle.graph_formats.specs.declared.request.Relation.TheVariants.{Same}
use Rattle.node_core.specs.FilterLaws.{frame_filter_laws}
use Rattle.node_core.specs.declared.kind.Kind.{Kind}
use Rattle.node_core.specs.declared.wishes.PadLinks.{PadLinks}
use Rattle.node_core.specs.declared.wishes.Wishes.{Wishes}

-- all formats, in the format order
abbrev pub all_formats : List Format
all_formats = Video Gray ∷ Video Yuv420p ∷ Video Yuv422p ∷ Video Yuv444p ∷ Video Yuva420p ∷ Video Yuva422p ∷ Video Yuva444p ∷ Audio U8 ∷ Audio S16 ∷ Audio S32 ∷ []

-- whether a fact that is decided holds
abbrev pub is_so : {P Q : Type 0} → P ⊎ Q → Bool
is_so (inl p) = true
is_so (inr q) = false

-- whether a filter takes pictures of a format
abbrev pub takes_it : Kind → Format → Bool
takes_it kind f = is_so (frame_filter_laws.making.decided kind.options f)

-- the set with one format more
abbrev pub set_with : FormatSet → Format → FormatSet
set_with set f = record { bits = bit_or set.bits (2 ^ place_of f) }

-- the set of these formats
abbrev pub set_of : List Format → FormatSet
set_of formats = fold set_with (record { bits = 0 }) formats

-- the formats that a filter takes
abbrev pub formats_of : Kind → FormatSet
formats_of kind = set_of (filter (takes_it kind) all_formats)

-- All filters that there are take pictures in these formats and give them in the same format: each link of a filter is to
-- have one of them, and each link to it the same as each link from it.
abbrev pub wishes_of : Kind → PadLinks → Wishes
wishes_of kind links = record {
  wishes = map (λ link. record { link = link; set = formats_of kind }) (links.ins ++ links.outs);
  relations = flat_map (λ a. map (λ b. Same a b) links.outs) links.ins;
}
