use Rattle.std.proofs.Common.{◌≡◌, ◌∙◌, ◌+◌, min, sym, ap, ap₂, drop, get_or, List}
use Rattle.std.proofs.lemmas.List.{at_drop_more}
use Rattle.yspec.specs.linking.Keyword.{augment_word}
use Rattle.yspec_wide.specs.NodeCounts.{all_counts_in, counted_below, counted_by_augments, count_used_in}
use Rattle.ybase_preorder.specs.View.{row_by, forest_in}
use Rattle.ybase_preorder.specs.declared.siblings.Node.{Node}
use Rattle.ylink_grammar.specs.SourceView.{source_view}
use Rattle.ylink_grammar.specs.declared.source.Source.{Source}
use Rattle.yschema_expand.specs.AugmentView.{augments_seen}
use Rattle.yschema_expand.specs.Counting.{count_at, count_by, many}
use Rattle.yschema_expand.specs.NamedView.{language_of, modules_of}
use Rattle.yschema_expand.proofs.CountLemmas.{capped_next, capped_few, row_capped}
use Rattle.yschema_expand.proofs.groupings.Groupings.count_added.Goals as goal

pub loop-augment-preserved : goal.loop-augment-preserved
loop-augment-preserved c =
    let l = language_of c.args.named.now in
    let m = modules_of c.args.named.now in
    let f = forest_in c.args.named.now.sources.now.table in
    let counts = c.args.self.now.counts.items in
    let item = get_or c.args.augments.now c.loop-augment.augment-index c.augment-item.result in
    let given = row_by source_view item.children in
    let all = λ (xs : List (Node Source)). counted_by_augments l m (all_counts_in l m) (augments_seen xs) in
    let rest = drop (c.loop-augment.augment-index + 1) c.args.augments.now in
    let more = at_drop_more all c.args.augments.now c.loop-augment.augment-index c.augment-item.result c.loop-augment-test.true in
    let one : c.count_nodes-added.result ≡ min (counted_below l (count_used_in l m (all_counts_in l m)) augment_word given) many = c.count_nodes-added.ensures
    ∙ (ap₂ (λ cs r. min (counted_below l (count_by cs m) augment_word r) many) c.deref.ensures.value (ap (row_by source_view) (c.children.ensures ∙ ap (λ (n : Node Source). n.children) c.augment-item.is))
    ∙ row_capped l f (count_at counts) c.requires augment_word given) in
    record {
      few = capped_few (c.loop-augment.count + c.count_nodes-added.result) c.capped-count.result c.capped-count.ensures;
      so_far = capped_next c.loop-augment.count (counted_below l (count_used_in l m (all_counts_in l m)) augment_word given) (all rest) c.capped-count.result c.count_nodes-added.result one c.capped-count.ensures
          ∙ (ap (λ n. min (c.loop-augment.count + n) many) (sym more) ∙ c.loop-augment.invariant.so_far);
    }
