use Rattle.graph_formats.proofs.LawLemmas.{one_assignment, one_fault, not_both}
use Rattle.graph_formats.proofs.TotalLemmas.{one_of_both}
use Rattle.graph_formats.proofs.law.formats_are_chosen_in_one_way.Goals as goal

pub returns : goal.returns
returns c = record { one_assignment = one_assignment; one_fault = one_fault; not_both = not_both; one_of_both = one_of_both }
