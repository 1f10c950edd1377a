use Rattle.std.proofs.Common.{◌≡◌, ◌+◌, ◌<◌, min, length, take, refl, sym, ap, ◌∙◌, get_or, rules}
use Rattle.std.proofs.lemmas.List.{get_or_default, length-take-le}
use Rattle.av_host.specs.Memory.{left_of}
use Rattle.av_host.proofs.MemoryLemmas.{left_within, takes}
use Rattle.av_host.proofs.memory_calls.MemoryHostHost.read.Goals as goal

pub returns-clause-read : goal.returns-clause-read
returns-clause-read c =
    let xs = c.args.self.now.sources.items in
    let i = c.args.id in
    let x = c.take_from-n.new.source in
    let n = c.take_from-n.result in
    let now = c.take_from-n.ensures in
    let within : i < length xs = search rules in
    let was : c.index_mut-source.result.now ≡ get_or xs i x = c.index_mut-source.ensures.value ∙ get_or_default xs i _ x within in
    let size = length-take-le n c.take_from-n.new.buf now.fits in
    record {
      held = refl;
      outputs = refl;
      said = refl;
      inputs = takes xs i x n (take n c.take_from-n.new.buf) (now.bytes ∙ ap (λ s. s.bytes.items) was) (now.at ∙ ap (λ s. s.at + n) was) (now.got ∙ ap (λ s. take n (left_of s)) was) size;
    }

pub returns-clause-end : goal.returns-clause-end
returns-clause-end c =
    λ none some left e.
    let source = c.index_mut-source.result.now in
    let at = left_within c.args.self.now.sources.items c.args.id source left e in
    let zero : c.take_from-n.result ≡ 0 = cc in
    sym (ap left_of c.index_mut-source.ensures.value ∙ at.1) ∙ c.take_from-n.ensures.end zero some

pub returns-clause-gives : goal.returns-clause-gives
returns-clause-gives c =
    λ left e.
    let source = c.index_mut-source.result.now in
    let at = left_within c.args.self.now.sources.items c.args.id source left e in
    c.take_from-n.ensures.count
    ∙ ap (λ ys. min (length ys) (min (length c.args.buf.now) c.args.self.now.read_bound)) (ap left_of c.index_mut-source.ensures.value ∙ at.1)
