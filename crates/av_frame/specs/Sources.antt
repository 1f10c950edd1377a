-- The sources of a kernel.
use Rattle.std.specs.Prelude.{ℕ, pos, List, [], slice_index_or}
use Rattle.av_base.specs.declared.formats.PixelFormat.TheVariants.{Gray}
use Rattle.av_base.specs.declared.formats.Format.TheVariants as format
use Rattle.av_base.specs.declared.shapes.Props.TheVariants as props
use Rattle.av_frame.specs.Frames.{FrameValue}

-- a frame without a plane, for a place where there is none
abbrev pub no_frame : FrameValue
no_frame = record {
  shape = record { format = format.Video Gray; props = props.Audio (record { rate = 0; layout = record { mask = 0 } }) };
  planes = [];
  pts = pos 0;
  duration = pos 0;
}

abbrev pub source_at : List FrameValue → ℕ → FrameValue
source_at sources n = slice_index_or sources n no_frame
