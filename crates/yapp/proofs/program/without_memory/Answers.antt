use Rattle.std.proofs.Common.{refl}
use Rattle.yapp_words.specs.Running.{memory_told}
use Rattle.yapp.proofs.RunningLemmas.{on_errors}
use Rattle.yapp.proofs.program.without_memory.Goals as goal

pub returns-clause-tells : goal.returns-clause-tells
returns-clause-tells g c = λ output. on_errors output _ _ memory_told _ _ refl refl c.tell_memory.ensures refl
