use Rattle.av_text.proofs.ReadingLemmas.{one_token, one_fault, not_both}
use Rattle.av_text.proofs.ArgLemmas.{one_list, one_args_fault, args_or_fault}
use Rattle.av_text.proofs.TotalLemmas.{token_or_fault, args_or_none}
use Rattle.av_text.proofs.law.texts_have_one_reading.Goals as goal

pub returns-clause-tokens : goal.returns-clause-tokens
returns-clause-tokens c = record { one_token = one_token; one_fault = one_fault; not_both = not_both; one_of_both = token_or_fault }

pub returns-clause-args : goal.returns-clause-args
returns-clause-args c = record {
  one_list = one_list;
  one_fault = λ text r s k l a b. one_args_fault text a.0 b.0 k l r s a.1 b.1;
  not_both = λ text s a k p f. args_or_fault text a f.0 k s p f.1;
  one_of_both = args_or_none;
}
