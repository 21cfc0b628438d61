use Rattle.std.proofs.Common.{◌≡◌, rules, length, sym, ap, ◌∙◌, arith}
use Rattle.std.specs.Option.{option_map_or}
use Rattle.yspec.specs.linking.DerivedTypes.{unknown}
use Rattle.ybase_preorder.specs.View.{forest_in}
use Rattle.ylink_names.proofs.PlacedLemmas.{number_named_at}
use Rattle.ylink_values.specs.KeptView.{kept_view}
use Rattle.ylink_types.specs.TypedefView.{known_at}
use Rattle.ylink_types.proofs.OrderLemmas.{learned_all}
use Rattle.ylink_types.proofs.typedefs.Typedefs.of.Goals as goal

-- nothing is named
pub returns-then-is_empty-clause-known : goal.returns-then-is_empty-clause-known
returns-then-is_empty-clause-known c number =
    let f = forest_in c.args.sources.now.table in
    let nodes = c.args.order.now in
    let table = known_at c.new-known.result.items in
    let none : length nodes ≡ 0 = first_of (search rules, omega arith) in
    ap (λ o. option_map_or table o unknown) (sym (number_named_at f c.args.meanings.items c.requires.meant number))
    ∙ learned_all f (kept_view c.args.kept) nodes c.requires.ordered table (λ j before inside. absurd (omega (arith, inside, none))) number

pub returns-then-is_empty-clause-rests : goal.returns-then-is_empty-clause-rests
returns-then-is_empty-clause-rests c = record {
  named = number_named_at (forest_in c.args.sources.now.table) c.args.meanings.items c.requires.meant;
  identities = c.requires.identities;
}
