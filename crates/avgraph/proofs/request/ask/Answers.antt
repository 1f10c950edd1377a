use Rattle.std.proofs.Common.{map, inr}
use Rattle.std.specs.Prelude.{string_bytes}
use Rattle.avgraph.specs.Requests.{AsksCommand, Asks}
use Rattle.avgraph.proofs.RequestLemmas.{asked_next, small_command}
use Rattle.avgraph.proofs.request.ask.Goals as goal

pub ask_command-requires : goal.ask_command-requires
ask_command-requires c = small_command (map string_bytes c.args.words.now) c.in_ok-command.command c.in_ok-command.ensures.command

pub returns : goal.returns
returns c =
    asked_next (AsksCommand c.in_ok-command.command) (Asks (map string_bytes c.args.words.now)) (λ r h. inr (c.in_ok-command.command, c.in_ok-command.ensures.command, h)) c.ask_command.result c.ask_command.ensures
