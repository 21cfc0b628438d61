use Rattle.std.proofs.Common.{◌≡◌, ap₂, refl, ◌∙◌, length, arith}
use Rattle.std.specs.Prelude.{vec_len}
use Rattle.ybase_preorder.specs.View.{row_by, label_by}
use Rattle.ybase_preorder.proofs.RowLemmas.{takes_by, takes_none_by}
use Rattle.ylink_grammar.specs.LinkView.{view}
use Rattle.ylink_grammar.specs.SourceView.{source_view}
use Rattle.ylink_names.specs.FirstNamedView.{named}
use Rattle.ylink_names.specs.PrefixView.{declared_by}
use Rattle.ylink_names.proofs.DeclaredLemmas.{declared_as}
use Rattle.ylink_names.proofs.PlaceLemmas.{next_place, all_places, found_at_place}
use Rattle.ylink_names.proofs.prefix.Prefixes.of.Goals as goal

pub loop-top-preserved : goal.loop-top-preserved
loop-top-preserved c =
    let before = c.loop-top.top-iterator in
    let after = c.next.new.self in
    let top = c.in-Some.top in
    let modules = view c.args.sources.now in
    let tables = c.loop-top.declared.items in
    let count : vec_len c.loop-top.declared ≡ length tables = omega arith in
    record {
      more = tt;
      ends = tt;
      so_far = λ prefix. next_place (λ table. named table prefix) (declared_as modules prefix) tables c.push.new.self.items
          c.in_ok-prefixes_of.field-0 (label_by source_view top) (row_by source_view top.children) (row_by source_view after) (row_by source_view before) _
          (takes_by source_view before after top c.in-Some.ensures.steps) c.in_ok-push.ensures.items
          (c.in_ok-prefixes_of.ensures modules c.in_ok-places.ensures prefix ∙ ap₂ (λ h f. declared_by modules h prefix (row_by source_view f)) (c.len-home.ensures ∙ count) c.children.ensures)
          (c.loop-top.invariant.so_far prefix);
    }

pub returns : goal.returns
returns c home prefix =
    let modules = view c.args.sources.now in
    let before = c.loop-top.top-iterator in
    found_at_place (λ table. named table prefix) (declared_as modules prefix) (λ home. refl) modules c.loop-top.declared.items
    (all_places (λ table. named table prefix) (declared_as modules prefix) c.loop-top.declared.items (row_by source_view before) _
    (takes_none_by source_view before c.next.new.self c.in-None.ensures.steps).0 (c.loop-top.invariant.so_far prefix)) home
