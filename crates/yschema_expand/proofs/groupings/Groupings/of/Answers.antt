use Rattle.std.proofs.Common.{refl}
use Rattle.yspec.specs.linking.DerivedTypes.{number_named}
use Rattle.ybase_preorder.specs.View.{forest_in}
use Rattle.yschema_expand.specs.Counting.{count_at, refine_at}
use Rattle.yschema_expand.specs.NamedView.{language_of, modules_of}
use Rattle.yschema_expand.proofs.OrderLemmas.{straight}
use Rattle.yschema_expand.proofs.ToldLemmas.{known_used}
use Rattle.yschema_expand.proofs.groupings.Groupings.of.Goals as goal

pub returns-clause-knows : goal.returns-clause-knows
returns-clause-knows c =
    let m = modules_of c.args.named.now in
    let f = forest_in c.args.named.now.sources.now.table in
    let nodes = c.args.order.now in (
      straight f nodes c.requires (language_of c.args.named.now),
      (λ number owner depth none ends. known_used (language_of c.args.named.now) f nodes c.requires (count_at c.in_ok-counts.counts.items) (refine_at c.in_ok-refines.refines.items)
          c.in_ok-counts.ensures c.in_ok-refines.ensures number (number_named m number) refl owner depth none ends),
    )
