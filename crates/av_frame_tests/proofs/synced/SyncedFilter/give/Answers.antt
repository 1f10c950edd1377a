use Rattle.std.proofs.Common.{◌==◌, sym, ◌∙◌, ap}
use Rattle.av_frame_tests.specs.Synced.{SyncedValue, synced_rest, is_ready}
use Rattle.av_frame_tests.proofs.SyncedLemmas.{rest_advanced, rest_given, none_given, only_output}
use Rattle.av_frame_tests.proofs.synced.SyncedFilter.give.Goals as goal

pub returns-then-not-advance-clause-rest : goal.returns-then-not-advance-clause-rest
returns-then-not-advance-clause-rest g c ins r o h =
    sym (rest_advanced c.args.self.now c.advance.new.self ins o c.advance.ensures.side)
    ∙ none_given (o == c.args.output) (synced_rest c.advance.new.self ins o)

pub returns-clause-rest : goal.returns-clause-rest
returns-clause-rest g c ins r o h =
    let x = c.in-Some.frame in
    let xs = c.pop_front.new.self.items in
    let side = c.advance.ensures.side in
    let state = c.self.view_is ∙ side in
    let main = sym (ap (λ (v : SyncedValue). v.main) state) ∙ c.in-Some.ensures.items in
    let next = ap (λ (v : SyncedValue). record v { main = xs }) state in
    let ready = ap is_ready (sym side) ∙ (sym c.advance.ensures.ready ∙ c.if-not-advance.false) in
    rest_given c.args.self.now _ x xs ins o main next ready (o == c.args.output) (only_output o c.args.output h c.requires.port)
