use Rattle.std.proofs.Common.{◌∙◌, None, get_or, take, sym, ap}
use Rattle.av_words.specs.WordRoles.{said_of, line_of}
use Rattle.av_words.specs.WordFaults.{map_after}
use Rattle.av_words.specs.CommandWords.{outputs_after, SaysOutput}
use Rattle.av_words.specs.WordChecks.{plain}
use Rattle.av_words.proofs.WordCheckLemmas.{no_item, item_here, line_more, waiting_more}
use Rattle.av_words.proofs.CommandPartLemmas.{no_bad_ending, zip_append, outputs_more, label_kept}
use Rattle.av_words.proofs.command_parts.list_outputs.Goals as goal

pub output_of-requires-clause-ending : goal.output_of-requires-clause-ending
output_of-requires-clause-ending c =
    let items = c.args.items.now in
    let item = get_or items c.items.item-index no_item in
    no_bad_ending (line_of items) c.requires c.items.item-index item.role item.word.now (item_here items c.items.item-index no_item c.items-test.true)

pub items-preserved : goal.items-preserved
items-preserved c =
    let items = c.args.items.now in
    let line = line_of items in
    let n = c.items.item-index in
    let item = get_or items n no_item in
    let more = line_more items n no_item c.items-test.true in
    let before = c.items.invariant in
    let here = item_here items n no_item c.items-test.true in
    let next = c.map_after-map.ensures in
    let one = rw before.map at c.in_ok-output_of.ensures in
    record {
      outputs = rw (more, outputs_more None (take n line) (said_of item), c.in_ok-keep.ensures) (zip_append SaysOutput (outputs_after None (take n line)) _ c.items.outputs.items _ before.outputs one);
      map = rw more (next ∙ ap (map_after item.role item.word.now) before.map ∙ sym (waiting_more None (take n line) (said_of item)));
      label = rw next (label_kept line c.requires n item.role item.word.now (plain c.items.map) here before.label);
    }
