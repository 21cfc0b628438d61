use Rattle.std.proofs.Common.{refl}
use Rattle.yapp.proofs.SessionLemmas.{does_same, does_without}
use Rattle.yapp.proofs.program.do_with.Goals as goal

pub returns-in-Ok-clause-does : goal.returns-in-Ok-clause-does
returns-in-Ok-clause-does g c = does_same _ _ _ _ _ _ _ _ _ _ _ _ _ c.in-Ok.ensures refl c.do_asked.ensures.does

pub returns-in-Err-clause-does : goal.returns-in-Err-clause-does
returns-in-Err-clause-does g c = does_without _ _ _ _ _ _ _ _ _ (c.without_memory.ensures.tells _)
