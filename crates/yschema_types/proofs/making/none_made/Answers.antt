use Rattle.std.proofs.Common.{◌≡◌, ◌++◌, [], ◌∷◌, replicate, sym, ap, ◌∙◌, arith}
use Rattle.std.proofs.lemmas.Grind.{replicate_next}
use Rattle.std.proofs.lemmas.List.{map-append}
use Rattle.yschema_types.specs.MadeTypes.{nothing}
use Rattle.yschema_types.specs.MadeView.{made_view, rows_view}
use Rattle.yschema_types.proofs.making.none_made.Goals as goal

pub loop-number-preserved : goal.loop-number-preserved
loop-number-preserved c =
    ap rows_view c.in_ok-push.ensures.items
    ∙ (map-append made_view c.loop-number.made.items _
    ∙ (ap (λ l. l ++ nothing ∷ []) c.loop-number.invariant ∙ sym (replicate_next c.loop-number._number nothing)))

pub returns : goal.returns
returns c =
    let ended : c.loop-number._number ≡ c.args.count = omega arith in
    c.loop-number.invariant ∙ ap (λ n. replicate n nothing) ended
