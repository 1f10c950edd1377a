use Rattle.std.proofs.Common.{◌≡◌, ◌<◌, ◌∙◌, ◌++◌, ◌∷◌, [], map, string_bytes, ap, sym, get_or, length, arith}
use Rattle.std.proofs.lemmas.List.{get_or-map, map-append, length-map}
use Rattle.av_words.specs.WordRoles.{said, line_of}
use Rattle.av_words.proofs.WordRoleLemmas.{said_more}
use Rattle.av_words.proofs.word_roles.read_items.Goals as goal

pub words-preserved : goal.words-preserved
words-preserved c =
    let words = c.args.words.now in
    let i = c.words.word-index in
    let word = c.as_str-word.result.now in
    let is : word ≡ get_or (map string_bytes words) i [] =
    c.as_str-word.ensures.value ∙ (ap string_bytes c.word-item.is ∙ sym (get_or-map string_bytes words i c.word-item.result [] c.words-test.true)) in
    let within : i < length (map string_bytes words) = omega (arith, length-map words string_bytes) in
    let more = said_more (said (map string_bytes words)) (map string_bytes words) (line_of c.words.items.items) c.words.taker i word within is c.words.invariant in
    let role = c.role_in-role.ensures in
    let taker = c.taker_of-taker.ensures in
    let pushed : line_of c.push.new.self.items ≡ line_of c.words.items.items ++ (record { role = c.role_in-role.result; word = word }) ∷ [] =
    ap line_of c.in_ok-push.ensures.items ∙ map-append _ c.words.items.items _ in
    rw (pushed, taker, role) more
