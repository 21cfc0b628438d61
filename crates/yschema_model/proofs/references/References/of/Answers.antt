use Rattle.std.proofs.Common.{◌≡◌, ◌+◌, ◌∷◌, ◌++◌, [], take, length, sym, ap, ◌∙◌, subst, arith, length-take}
use Rattle.std.proofs.lemmas.List.{take_more, take_all}
use Rattle.yschema_model.specs.Layout.{laid, place_of}
use Rattle.yschema_model.specs.References.{FindsReferences}
use Rattle.yschema_model.proofs.LayoutLemmas.{laid_push}
use Rattle.yschema_model.proofs.ReferenceLemmas.{slots_before}
use Rattle.yschema_model.proofs.references.References.of.Goals as goal

pub loop-number-preserved : goal.loop-number-preserved
loop-number-preserved c =
    let slots = c.args.slots.now in
    let i = c.loop-number.number in
    let slot = c.index-slots-number.result in
    let id = c.new-id.result in
    let done = take i slots in
    let within = length-take i slots in
    let here : length done ≡ id.0 = omega (arith, within, ap (λ n. n.0) c.new-id.ensures) in
    let step : laid 0 (take (i + 1) slots) ≡ laid 0 done ++ place_of id.0 slot ∷ [] =
    ap (laid 0) (take_more slots i slot (omega arith) ∙ ap (λ r. done ++ r ∷ []) (sym c.index-slots-number.is))
    ∙ (laid_push done slot ∙ ap (λ n. laid 0 done ++ place_of n slot ∷ []) here) in
    subst (FindsReferences c.add_slot.new.self) (sym step) (c.in_ok-add_slot.ensures (laid 0 done) (slots_before done id.0 here) c.loop-number.invariant)

pub returns : goal.returns
returns c =
    subst (λ slots. FindsReferences c.loop-number.references (laid 0 slots)) (take_all c.loop-number.number c.args.slots.now (omega arith)) c.loop-number.invariant
