use Rattle.std.proofs.Common.{◌≡◌, ◌∙◌}
use Rattle.av_words.specs.declared.word_roles.Role.TheVariants.{Report}
use Rattle.av_words.specs.declared.word_roles.Valued.TheVariants.{Workers, Slices}
use Rattle.av_words.specs.WordRoles.{line_of}
use Rattle.av_words.proofs.CommandPartLemmas.{takes_value, has_last}
use Rattle.av_words.proofs.command_parts.command_of.Goals as goal

pub count_of-requires : goal.count_of-requires
count_of-requires c value has none = takes_value (line_of c.args.items.now) c.requires.faultless has.0 Workers value has.1 (λ h. none h.0 h.1)

pub count_of-requires-2 : goal.count_of-requires-2
count_of-requires-2 c value has none = takes_value (line_of c.args.items.now) c.requires.faultless has.0 Slices value has.1 (λ h. none h.0 h.1)

pub returns : goal.returns
returns c =
    let line = line_of c.args.items.now in
    let text : c.new-text.result ≡ c.args.text.now = c.new-text.ensures ∙ c.in_ok-from_str.ensures.ok in
    record {
      faultless = c.requires.faultless;
      inputs = c.in_ok-inputs.ensures;
      text = rw text c.requires.text;
      outputs = c.in_ok-outputs.ensures;
      workers = c.count_of.ensures;
      slices = c.count_of-2.ensures;
      order = c.in_ok-order.ensures;
      report = has_last line Report c.last_of.result c.is_some.result c.is_some.ensures c.last_of.ensures;
    }
