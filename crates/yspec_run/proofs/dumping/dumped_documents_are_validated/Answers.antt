use Rattle.yspec_run.proofs.DumpLemmas.{dump_validated}
use Rattle.yspec_run.proofs.dumping.dumped_documents_are_validated.Goals as goal

pub returns : goal.returns
returns c = record {
  alike = λ language document script name modules answers shown. (dump_validated language document script modules answers name shown).0;
  unrefused = λ language document script name modules answers shown. (dump_validated language document script modules answers name shown).1;
}
