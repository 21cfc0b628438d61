use Rattle.std.proofs.Common.{false, [], ◌∷◌, ◌++◌, ap, ◌∙◌}
use Rattle.std.proofs.lemmas.List.{replicate_more}
use Rattle.ystore_tree.proofs.inserting.unset.Goals as goal

pub loop-flag-preserved : goal.loop-flag-preserved
loop-flag-preserved c =
    c.in_ok-push.ensures.items ∙ (ap (λ bs. bs ++ false ∷ []) c.loop-flag.invariant ∙ replicate_more c.loop-flag._flag false)
