mod WorthLemmas
mod CropLemmas
mod LutyuvLemmas
mod ColourLemmas
mod GeometryLemmas
mod PadLemmas
mod PasteLemmas
