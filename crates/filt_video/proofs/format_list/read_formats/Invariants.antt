use Rattle.std.proofs.Common.{map}
use Rattle.filt_video.specs.Formats.{AreFormats}
use Rattle.filt_video.proofs.format_list.read_formats.Given as goal

abbrev pub invariant-reading : goal.invariant-reading
invariant-reading l = AreFormats (map (λ part. part.now) l.yielded) l.formats
