use Rattle.std.proofs.Common.{◌∷◌, [], sym, ◌∙◌, arith}
use Rattle.std.proofs.lemmas.List.{map-append}
use Rattle.std.proofs.lemmas.Iterator.Splits.{YieldsList-from_str_split}
use Rattle.std.proofs.lemmas.Iterator.Consumers.{YieldsList-turn, YieldsList-end, YieldsList-at}
use Rattle.filt_video.specs.Formats.{parts_of}
use Rattle.filt_video.proofs.FormatLemmas.{no_formats, one_more_format, not_formats}
use Rattle.filt_video.proofs.format_list.read_formats.Goals as goal

pub reading-init : goal.reading-init
reading-init c = no_formats c.empty-formats.result c.empty-formats.ensures.formats

pub returns-in_default-clause-none : goal.returns-in_default-clause-none
returns-in_default-clause-none c = λ none set.
    let s = c.split-name-items.ensures in
    let yields = YieldsList-at c.into_iter-name-iterator.ensures.into_iter_gives (YieldsList-from_str_split 124 c.args.text.now (omega arith) s.text s.has_more s.pattern) in
    let at = YieldsList-turn yields c.reading.yielded _ c.reading.yielded_by _ _ c.in-Some.name c.in-Some.is c.next.ensures.steps in
    not_formats (parts_of c.args.text.now) _ c.in-Some.name.now at (sym c.named.ensures ∙ c.in_default.is) set

pub reading-preserved : goal.reading-preserved
reading-preserved c =
    rw (map-append (λ part. part.now) c.reading.yielded (c.in-Some.name ∷ []))
    (one_more_format _ c.in-Some.name.now c.in-Some-named.pixels c.reading.formats c.with-formats.result (sym c.named.ensures ∙ c.in-Some-named.is) c.with-formats.ensures.formats c.reading.invariant)

pub returns-clause-found : goal.returns-clause-found
returns-clause-found c =
    let s = c.split-name-items.ensures in
    let yields = YieldsList-at c.into_iter-name-iterator.ensures.into_iter_gives (YieldsList-from_str_split 124 c.args.text.now (omega arith) s.text s.has_more s.pattern) in
    let all = YieldsList-end yields c.reading.yielded _ c.reading.yielded_by _ _ c.in-None.is c.next.ensures.steps in
    rw (← all.0) c.reading.invariant
