use Rattle.std.proofs.lemmas.Str.{IsCharBoundary-start}
use Rattle.av_text.proofs.tests.arguments.Goals as goal

pub next_token-requires-clause-start : goal.next_token-requires-clause-start
next_token-requires-clause-start c = IsCharBoundary-start c.args.text.now c.utf8.text
