use Rattle.std.proofs.Common.{pos, map, ap, ◌∙◌, refl}
use Rattle.std.specs.List.{list_all}
use Rattle.std.specs.Prelude.{int_lt}
use Rattle.yspec.specs.types.Names.{Assigned}
use Rattle.ylink_types.specs.IdentityView.{home_view}
use Rattle.ylink_types.proofs.IdentityLemmas.{ascend_below}
use Rattle.ylink_types.proofs.identities.names_of.Goals as goal

pub with_identity-requires : goal.with_identity-requires
with_identity-requires c =
    let homes = map home_view c.args.homes.now in
    let ids = c.args.identities.now in
    let i = c.loop-identity.identity-index in
    ap (list_all (λ (a : Assigned). int_lt a.number (pos _))) c.loop-identity.invariant
    ∙ ascend_below homes ids i _ _ c.requires c.loop-identity-test.true refl
