use Rattle.std.proofs.Common.{arith, refl}
use Rattle.av_frame_tests.specs.SyncedLaws.{synced_rule_laws}
use Rattle.av_frame_tests.proofs.SyncedLemmas.{lawful_synced}
use Rattle.av_frame_tests.proofs.SyncedEvents.{shown}
use Rattle.av_frame_tests.proofs.synced.Synced.new.Goals as goal

pub returns-clause-is_new : goal.returns-clause-is_new
returns-clause-is_new c main side = record {
  pads_are = refl;
  rest_is = λ ins o h. rw (c.new.ensures.items, c.new-2.ensures.items) refl;
  accepts_first = λ i x h e. tt;
  begins = synced_rule_laws.begins;
  lawful = λ ins r o h. lawful_synced main (ins 0).frames (ins 1) (r 0 (omega arith));
}

pub returns-clause-shown : goal.returns-clause-shown
returns-clause-shown c ins r = rw (c.new.ensures.items, c.new-2.ensures.items) (shown (ins 0) (ins 1) (r 0 (omega arith)))
