use Rattle.std.proofs.Common.{Bor, List, ℕ, ap, ap₂, map, ◌∙◌}
use Rattle.std.proofs.lemmas.Result.{IfOk-weaker}
use Rattle.yspec_search.specs.Search as spec
use Rattle.ylink_search.proofs.importing.wanted_by_module.Goals as goal

pub returns : goal.returns
returns c =
    let row = c.substatements-row.ensures.below in
    let prefixes = ap (map (λ (t : Bor (List ℕ)). t.now)) c.deref.ensures.value ∙ (c.in_ok-prefixes.ensures ∙ ap spec.augmented_in row) in
    IfOk-weaker c.wanted_in.result _ _ (λ v is. is ∙ ap₂ spec.wanted_in prefixes row) c.wanted_in.ensures
