use Rattle.std.proofs.Common.{get_or, ap, ◌∙◌, arith}
use Rattle.yschema_augment.proofs.places.Places.behind.Goals as goal

pub returns-clause-others : goal.returns-clause-others
returns-clause-others c = λ a is place b low high b_is same.
    let past = c.place_at.ensures ∙ ap (λ places. get_or places c.args.place 0) c.as_slice.ensures.value in
    let most = c.max.ensures in
    c.requires.known.next_is c.args.place a (omega arith) is place b low (omega (arith, past, most, low, high)) b_is same
