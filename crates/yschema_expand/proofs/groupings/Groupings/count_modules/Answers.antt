use Rattle.std.proofs.Common.{rules, ◌≡◌, ◌∙◌, ◌+◌, min, arith, sym, ap, ap₂}
use Rattle.yspec.specs.linking.Keyword.{module_word}
use Rattle.yspec_wide.specs.NodeCounts.{all_counts_in, counted_below, counted_in_from, count_used_in}
use Rattle.ybase_preorder.specs.View.{row_by, forest_in}
use Rattle.ybase_preorder.proofs.RowLemmas.{takes_by, takes_none_by}
use Rattle.ylink_grammar.specs.SourceView.{source_view}
use Rattle.yschema_expand.specs.Counting.{count_at, count_by, many}
use Rattle.yschema_expand.specs.NamedView.{language_of, modules_of}
use Rattle.yschema_expand.proofs.CountLemmas.{capped_next, capped_few, row_capped}
use Rattle.yschema_expand.proofs.groupings.Groupings.count_modules.Goals as goal

pub loop-top-init : goal.loop-top-init
loop-top-init c =
    let l = language_of c.args.named.now in
    let m = modules_of c.args.named.now in
    let counts = all_counts_in l m in
    let it : c.into_iter-top-iterator.result ≡ c.modules-top-items.result = search rules in
    let whole : row_by source_view c.into_iter-top-iterator.result ≡ m = ap (row_by source_view) it ∙ (c.modules-top-items.ensures ∙ c.sources.ensures) in
    let same = ap (counted_in_from l m counts) whole in
    record {
      more = tt;
      ends = tt;
      few = omega arith;
      so_far = omega (arith, same);
    }

pub loop-top-preserved : goal.loop-top-preserved
loop-top-preserved c =
    let l = language_of c.args.named.now in
    let m = modules_of c.args.named.now in
    let f = forest_in c.args.named.now.sources.now.table in
    let counts = all_counts_in l m in
    let before = c.loop-top.top-iterator in
    let after = c.next.new.self in
    let below = row_by source_view c.in-Some.top.children in
    let rest = row_by source_view after in
    let taken = takes_by source_view before after c.in-Some.top c.in-Some.ensures.steps in
    let held = c.args.self.now.counts.items in
    let one : c.count_nodes-nodes.result ≡ min (counted_below l (count_used_in l m counts) module_word below) many = c.count_nodes-nodes.ensures
    ∙ (ap₂ (λ cs r. min (counted_below l (count_by cs m) module_word r) many) c.deref.ensures.value (ap (row_by source_view) c.children.ensures)
    ∙ row_capped l f (count_at held) c.requires module_word below) in
    record {
      more = tt;
      ends = tt;
      few = capped_few (c.loop-top.count + c.count_nodes-nodes.result) c.capped-count.result c.capped-count.ensures;
      so_far = capped_next c.loop-top.count (counted_below l (count_used_in l m counts) module_word below) (counted_in_from l m counts rest) c.capped-count.result c.count_nodes-nodes.result one c.capped-count.ensures
          ∙ (ap (λ g. min (c.loop-top.count + counted_in_from l m counts g) many) (sym taken) ∙ c.loop-top.invariant.so_far);
    }

pub returns : goal.returns
returns c =
    let l = language_of c.args.named.now in
    let m = modules_of c.args.named.now in
    let counts = all_counts_in l m in
    let before = c.loop-top.top-iterator in
    let none = (takes_none_by source_view before c.next.new.self c.in-None.ensures.steps).0 in
    let nothing = ap (counted_in_from l m counts) none in
    omega (arith, nothing, c.loop-top.invariant.few, c.loop-top.invariant.so_far)
