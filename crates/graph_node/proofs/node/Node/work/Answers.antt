use Rattle.std.proofs.Common.{sym, ◌∙◌, ap, Ok}
use Rattle.std.specs.Prelude.{slice_get}
use Rattle.std.specs.Global.{Vec}
use Rattle.graph_node.specs.declared.outlet.Outlet.{Outlet}
use Rattle.graph_node.proofs.NodeLemmas.{cores_trans}
use Rattle.graph_node.proofs.LoopLemmas.{drawn_given, asked_same, need_same, rise_of, none_of, all_none}
use Rattle.graph_node.proofs.node.Node.work.Goals as goal

pub returns-else-some_of-clause-idle : goal.returns-else-some_of-clause-idle
returns-else-some_of-clause-idle g c _ =
    let no = none_of c.in_ok-filled.filled c.in_ok-flushed.flushed c.in_ok-offered.offered c.in_ok-given.given c.close_all-closed.result c.want_all-asked.result (sym c.some_of.ensures ∙ c.if-some_of.false) in
    let give = c.give_all.ensures in
    let close = c.close_all-closed.ensures in
    let want = c.want_all-asked.ensures in
    let n1 = c.offer_all.new.self in
    let n2 = c.give_all.new.self in
    let n3 = c.close_all-closed.new.self in
    let n4 = c.want_all-asked.new.self in
    let none = ap Ok no.1 in
    record {
      drawn = want.drawn (close.drawn (drawn_given g.F.Filter.closes n1 n2 give.ins give.step.inputs_are give.step.closes_stay (c.in_ok-offered.ensures.idle (ap Ok no.0))));
      asked = asked_same g.F.Filter.rest n3 n4 want.kept.1 want.step.outputs_are want.kept.0
          (asked_same g.F.Filter.rest n2 n3 close.kept.1 close.step.outputs_are close.kept.0 (c.in_ok-given.ensures.idle none));
      closed = want.closed close.idle;
      needs = need_same g.F.Filter.wants n3 n4 want.kept.1 want.step.outputs_are want.step.inputs_are want.kept.0
          (need_same g.F.Filter.wants n2 n3 close.kept.1 close.step.outputs_are close.step.inputs_are close.kept.0 (c.in_ok-given.ensures.needs none));
      wanted = want.idle;
    }

pub returns-then-some_of-clause-moved : goal.returns-then-some_of-clause-moved
returns-then-some_of-clause-moved g c _ =
    rise_of c.in_ok-filled.filled c.in_ok-flushed.flushed c.in_ok-offered.offered c.in_ok-given.given c.close_all-closed.result c.want_all-asked.result _ _ _ _ _ _ _ (sym c.some_of.ensures ∙ c.if-some_of.true)
    c.fill_all.ensures.step.grows c.flush_all.ensures.step.grows c.offer_all.ensures.step.grows c.give_all.ensures.step.grows c.close_all-closed.ensures.step.grows c.want_all-asked.ensures.step.grows
    (λ e. c.in_ok-filled.ensures.moved (ap Ok e)) (λ e. c.in_ok-flushed.ensures.moved (ap Ok e)) (λ e. c.in_ok-offered.ensures.moved (ap Ok e)) (λ e. c.in_ok-given.ensures.moved (ap Ok e)) c.close_all-closed.ensures.moved c.want_all-asked.ensures.moved

pub returns-else-some_of-clause-still : goal.returns-else-some_of-clause-still
returns-else-some_of-clause-still g c _ =
    let no = all_none c.in_ok-filled.filled c.in_ok-flushed.flushed c.in_ok-offered.offered c.in_ok-given.given c.close_all-closed.result c.want_all-asked.result (sym c.some_of.ensures ∙ c.if-some_of.false) in (
      cores_trans _ _ _ (c.in_ok-filled.ensures.still (ap Ok no.0)) (cores_trans _ _ _ (c.in_ok-flushed.ensures.still (ap Ok no.1)) (cores_trans _ _ _ (c.in_ok-offered.ensures.still (ap Ok no.2))
          (cores_trans _ _ _ (c.in_ok-given.ensures.still (ap Ok no.3)) (cores_trans _ _ _ (c.close_all-closed.ensures.still no.4) (c.want_all-asked.ensures.still no.5))))),
      record {
        ins = c.in_ok-filled.ensures.done (ap Ok no.0);
        outs = λ o q h. c.in_ok-flushed.ensures.done (ap Ok no.1) o q (ap (λ (v : Vec Outlet). slice_get v.items o) c.fill_all.ensures.outs ∙ h);
      },
    )
