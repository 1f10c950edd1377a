use Rattle.std.proofs.Common.{◌≡◌, List, [], ◌∷◌, refl, sym, ◌∙◌, subst, arith}
use Rattle.std.proofs.lemmas.List.{take_all}
use Rattle.av_base.specs.declared.formats.Format.{Format}
use Rattle.node_core.specs.Shaping.{Takes}
use Rattle.node_core.specs.Filters.{frame_filters}
use Rattle.node_core.specs.FilterLaws.{frame_filter_laws}
use Rattle.avgraph.specs.Chains.{Step, AreReady}
use Rattle.avgraph.proofs.ReadyLemmas.{filter_at, filter_within, takes_at, ready_more, path_unready, path_length}
use Rattle.avgraph.proofs.ready.make_all_ready.Goals as goal

pub loop-filter-init : goal.loop-filter-init
loop-filter-init c = record { picture = c.requires.picture; format = refl; ready = λ path are. rw c.new-readies.ensures.items refl }

pub bounds-kinds-filter : goal.bounds-kinds-filter
bounds-kinds-filter c = filter_within (filter_at c.args.kinds.now c.args.order.now c.requires.taking.0 c.loop-filter.filter-index c.loop-filter-test.true c.requires.taking.1)

pub make_ready-requires-clause-takes : goal.make_ready-requires-clause-takes
make_ready-requires-clause-takes c =
    let i = c.loop-filter.invariant in
    let path = c.requires.taking in
    subst (λ (f : Format). Takes c.index-kinds-filter.result f) (sym i.format)
    (takes_at c.index-kinds-filter.result c.args.shape.format c.index-kinds-filter.is (filter_at c.args.kinds.now c.args.order.now path.0 c.loop-filter.filter-index c.loop-filter-test.true path.1) path.2)

pub returns-in-Err-clause-stop : goal.returns-in-Err-clause-stop
returns-in-Err-clause-stop c = λ path are.
    let i = c.loop-filter.invariant in
    let kind = c.index-kinds-filter.result in
    let known = c.requires.taking in
    let takes = subst (λ (f : Format). Takes kind f) (sym i.format)
    (takes_at kind c.args.shape.format c.index-kinds-filter.is (filter_at c.args.kinds.now c.args.order.now known.0 c.loop-filter.filter-index c.loop-filter-test.true known.1) known.2) in
    rw c.stopped_config.ensures
    (path_unready kind c.args.shape c.loop-filter.end c.loop-filter.readies.items c.in-Err.error c.index-kinds-filter.is (filter_at c.args.kinds.now c.args.order.now path c.loop-filter.filter-index c.loop-filter-test.true are)
    (i.ready path are) i.picture takes c.in-Err.ensures.refused)

pub loop-filter-preserved : goal.loop-filter-preserved
loop-filter-preserved c =
    let i = c.loop-filter.invariant in
    let kind = c.index-kinds-filter.result in
    let ready = c.in-Ok.ensures.ready in
    let out = frame_filters.making.shape c.in-Ok.ready.settings c.loop-filter.end in
    let outs : c.as_slice.result.now ≡ out ∷ [] = c.as_slice.ensures ∙ (c.outs.ensures.outs ∙ ready.outs) in
    let known = c.requires.taking in
    let takes = subst (λ (f : Format). Takes kind f) (sym i.format)
    (takes_at kind c.args.shape.format c.index-kinds-filter.is (filter_at c.args.kinds.now c.args.order.now known.0 c.loop-filter.filter-index c.loop-filter-test.true known.1) known.2) in
    let pictured = frame_filter_laws.making.pictured c.in-Ok.ready.settings c.loop-filter.end (record { options = kind.options; picture = i.picture; takes = takes; settles = ready.settles }) in
    record {
      picture = rw outs (record { lawful = pictured.lawful; video = pictured.video });
      format = rw outs ((frame_filter_laws.making.stream c.in-Ok.ready.settings c.loop-filter.end).format ∙ i.format);
      ready = λ path are.
          rw (outs, c.in_ok-push.ensures.items)
          (ready_more kind c.args.shape c.loop-filter.end out c.loop-filter.readies.items c.in-Ok.ready c.index-kinds-filter.is (filter_at c.args.kinds.now c.args.order.now path c.loop-filter.filter-index c.loop-filter-test.true are)
          (i.ready path are) i.picture takes ready ready.outs);
    }

pub returns-clause-ready : goal.returns-clause-ready
returns-clause-ready c = λ path are.
    let long = path_length c.args.kinds.now c.args.order.now path are in
    subst (λ (p : List Step). AreReady p c.args.shape c.loop-filter.readies.items c.loop-filter.end) (take_all c.loop-filter.filter-index path (omega arith)) (c.loop-filter.invariant.ready path are)
