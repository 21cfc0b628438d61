use Rattle.std.proofs.Common.{arith}
use Rattle.ycheck_config.specs.Inspecting.{inspection_view}
use Rattle.ysay_fault.proofs.FoundLemmas.{fellow_listed}
use Rattle.yapp.proofs.document.all_explained.Goals as goal

pub explained-requires-clause-found : goal.explained-requires-clause-found
explained-requires-clause-found c =
    let i = inspection_view c.args.inspection.now in
    fellow_listed i.schema i.tree c.as_slice-faults.result.now c.in_ok-fellows.fellows.items c.in_ok-fellows.ensures
    c.loop-number.number c.index-faults-number.result c.index.result.now (let test = c.loop-number-test.true in omega (arith, test)) c.index-faults-number.is c.index.ensures
