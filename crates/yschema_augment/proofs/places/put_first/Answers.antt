use Rattle.std.proofs.Common.{◌∙◌, get_or, slice_set, sym, ap, subst}
use Rattle.std.proofs.lemmas.Option.{slice_get-get_or}
use Rattle.yschema_augment.specs.Placing.{FindsFrom}
use Rattle.yschema_augment.specs.declared.applied.Applied.{Applied}
use Rattle.yschema_augment.proofs.PlacingLemmas.{found_from}
use Rattle.yschema_augment.proofs.places.put_first.Goals as goal

pub returns : goal.returns
returns c =
    let order = c.args.order.now in
    let place = c.args.place in
    let none : Applied = record { target = 0; augment = 0 } in
    let a = get_or order place none in
    subst (λ first. FindsFrom first c.put.new.places.items order place) (sym c.put-2.ensures)
    (subst (λ next. FindsFrom (slice_set c.args.places.now.first.items a.target place) next order place) (sym c.put.ensures)
    (subst (λ later. FindsFrom (slice_set c.args.places.now.first.items a.target place) (slice_set c.args.places.now.next.items place later) order place)
    (sym (c.place_at-later.ensures ∙ ap (λ places. get_or places a.target 0) c.as_slice.ensures.value))
    (found_from c.args.places.now.first.items c.args.places.now.next.items order place a (slice_get-get_or order place none c.requires.within) c.requires.known)))
