use Rattle.std.proofs.Common.{◌≡◌, ◌++◌, drop, map, string_bytes}
use Rattle.ycheck.specs.View.{views}
use Rattle.ysay_fault.specs.Sentences.{explained_fault}
use Rattle.ycheck_config.specs.Inspecting.{inspection_view}
use Rattle.yapp.proofs.document.all_explained.Given as goal

abbrev pub invariant-loop-number : goal.invariant-loop-number
invariant-loop-number l =
    let i = inspection_view l.inspection in
    map string_bytes l.texts.items ++ map (explained_fault i.schema i.tree) (views (drop l.number l.faults))
    ≡ map (explained_fault i.schema i.tree) (views l.faults)
