use Rattle.std.proofs.Common.{inr, refl}
use Rattle.yapp_words.specs.Running.{memory_told}
use Rattle.yapp.proofs.RunningLemmas.{failure_tells, on_errors}
use Rattle.yapp.proofs.saying.tell_failure.Goals as goal

pub returns-in-Ok-clause-tells : goal.returns-in-Ok-clause-tells
returns-in-Ok-clause-tells g c = failure_tells c.args.with_reasons c.args.as_json _ _ _ _ c.args.failure.now _ _ _ c.write_failure-written.result c.in-Ok.ensures.ok
    c.write_failure-written.ensures c.ended_after.ensures.end c.status.ensures

pub returns-in-Err-clause-tells : goal.returns-in-Err-clause-tells
returns-in-Err-clause-tells g c = inr (c.in-Err.ensures.err, on_errors _ _ _ memory_told _ _ refl refl c.tell_memory.ensures refl)
