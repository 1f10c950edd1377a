use Rattle.std.proofs.Common.{◌∷◌, [], get_or, take, filter}
use Rattle.std.proofs.lemmas.List.Elements.{filter-append}
use Rattle.av_words.specs.WordRoles.{said_of, line_of}
use Rattle.av_words.specs.WordFaults.{is_input}
use Rattle.av_words.specs.CommandWords.{SaysInput}
use Rattle.av_words.proofs.WordCheckLemmas.{no_item, item_here, line_more}
use Rattle.av_words.proofs.CommandPartLemmas.{no_bad_number, no_bad_ending, zip_append}
use Rattle.av_words.proofs.command_parts.list_inputs.Goals as goal

pub input_of-requires-clause-ending : goal.input_of-requires-clause-ending
input_of-requires-clause-ending c =
    let items = c.args.items.now in
    let item = get_or items c.items.item-index no_item in
    no_bad_ending (line_of items) c.requires c.items.item-index item.role item.word.now (item_here items c.items.item-index no_item c.items-test.true)

pub input_of-requires-clause-number : goal.input_of-requires-clause-number
input_of-requires-clause-number c =
    let items = c.args.items.now in
    let item = get_or items c.items.item-index no_item in
    no_bad_number (line_of items) c.requires c.items.item-index item.role item.word.now (item_here items c.items.item-index no_item c.items-test.true)

pub items-preserved : goal.items-preserved
items-preserved c =
    let items = c.args.items.now in
    let n = c.items.item-index in
    let item = get_or items n no_item in
    rw (line_more items n no_item c.items-test.true, filter-append is_input (take n (line_of items)) (said_of item ∷ []), c.in_ok-keep.ensures)
    (zip_append SaysInput (filter is_input (take n (line_of items))) (filter is_input (said_of item ∷ [])) c.items.inputs.items _ c.items.invariant c.in_ok-input_of.ensures)
