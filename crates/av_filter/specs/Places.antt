-- Places in the first source of a kernel.
use Rattle.std.specs.Prelude.{◌<◌, ℕ, List, length}
use Rattle.av_base.specs.Shapes.{planes_of, rows_of, columns_of}
use Rattle.av_frame.specs.Frames.{FrameValue}
use Rattle.av_frame.specs.Sources.{source_at}

-- the kernels' sources are such that the first has this place
pub record HasPlace (sources : List FrameValue) (p r c : ℕ) : Type 0 where
  pub some : 0 < length sources
  pub plane : p < planes_of (source_at sources 0).shape
  pub row : r < rows_of (source_at sources 0).shape p
  pub column : c < columns_of (source_at sources 0).shape p
