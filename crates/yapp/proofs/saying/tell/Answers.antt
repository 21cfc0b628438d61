use Rattle.yspec_run.specs.Output.{printed}
use Rattle.std.specs.Prelude.{Ok}
use Rattle.yapp.specs.Files.{found_as, said_besides}
use Rattle.yapp.proofs.RunningLemmas.{both_end, end_is, found_tells, told_of}
use Rattle.yapp.proofs.saying.tell.Goals as goal

pub returns-in-Ok-clause-tells : goal.returns-in-Ok-clause-tells
returns-in-Ok-clause-tells g c =
    let f = c.in-Ok.found in
    let o = printed c.args.with_reasons (found_as f) in
    told_of c.args.with_reasons c.args.as_json _ _ _ _ _ _ _ c.in-Ok.is (found_tells c.args.with_reasons c.args.as_json _ _ _ _ (said_besides (Ok f)) f _ (both_end _ _ _ _ o _ c.write_found-written.result c.write_found-written.ensures
    (end_is o _ _ _ c.write_found-written.result c.ended_after.ensures.end c.status-status.ensures c.into_saved.ensures)))

pub returns-in-Err-clause-tells : goal.returns-in-Err-clause-tells
returns-in-Err-clause-tells g c = told_of c.args.with_reasons c.args.as_json _ _ _ _ _ _ _ c.in-Err.is c.tell_failure.ensures.tells
