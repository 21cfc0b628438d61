use Rattle.std.proofs.Common.{rules, ◌≡◌, ◌∙◌, ◌+◌, true, suc, None, length, sym, ap, subst}
use Rattle.yspec.specs.Forest.{end, node, size}
use Rattle.yspec.specs.linking.Expansion.{laid, groupings_of}
use Rattle.yspec_wide.specs.Sources.{bears_guard}
use Rattle.ybase_preorder.specs.View.{row_by, label_by, slots_in}
use Rattle.ybase_preorder.proofs.RowLemmas.{takes_by, takes_none_by}
use Rattle.ylink_grammar.specs.SourceView.{source_view}
use Rattle.yschema_given.specs.Keeping.{are_kept_right}
use Rattle.yschema_given.proofs.KeepingLemmas.{kept_parts}
use Rattle.yschema_expand.specs.AugmentView.{augment_view}
use Rattle.yschema_expand.specs.Bodies.{body_nodes}
use Rattle.yschema_expand.specs.NamedView.{language_of, modules_of}
use Rattle.yschema_expand.specs.Walk.{breaks_for, ends_within_in, Adds, AllEnd}
use Rattle.yschema_expand.proofs.BodyLemmas.{adds_rest}
use Rattle.yschema_expand.proofs.EndLemmas.{all_first}
use Rattle.yschema_expand.proofs.GroupingLemmas.{laid_end}
use Rattle.yschema_expand.proofs.WalkLemmas.{adds_none, breaks_none, depth_of}
use Rattle.yschema_expand.proofs.bodies.add_body.Goals as goal

pub loop-statement-init : goal.loop-statement-init
loop-statement-init c =
    let l = language_of c.args.context.now.named.now in
    let m = modules_of c.args.context.now.named.now in
    let a = augment_view c.args.augment in
    let it : c.into_iter-statement-iterator.result ≡ c.children-given.result = search rules in
    let whole : row_by source_view c.into_iter-statement-iterator.result ≡ a.given = ap (row_by source_view) (it ∙ c.children-given.ensures) in
    record {
      more = tt;
      ends = tt;
      kept = ap (are_kept_right l) whole ∙ c.requires.kept;
      ends_there = subst (λ f. AllEnd l m (suc (size m)) (laid f)) (sym whole) c.requires.ends;
      so_far = λ final added. subst (λ f. Adds None (body_nodes l m a.source.home (suc (size m)) a.given (laid f)) (breaks_for l m a.source.home (suc (size m)) (laid f)) c.args.made.now final) whole added;
    }

pub add_cased-requires-clause-given : goal.add_cased-requires-clause-given
add_cased-requires-clause-given c =
    ap (λ r. are_kept_right (language_of c.args.context.now.named.now) (row_by source_view r)) c.children-given.ensures ∙ c.requires.kept

pub add_cased-requires-clause-guarded : goal.add_cased-requires-clause-guarded
add_cased-requires-clause-guarded c =
    c.bears_guard-is_guarded.ensures ∙ ap (λ l. bears_guard l (row_by source_view c.children-given.result)) c.language.ensures

pub add_cased-requires-clause-kept : goal.add_cased-requires-clause-kept
add_cased-requires-clause-kept c =
    let l = language_of c.args.context.now.named.now in
    let after = c.next.new.self in
    let s = label_by source_view c.in-Some.statement in
    let below = row_by source_view c.in-Some.statement.children in
    let taken = takes_by source_view c.loop-statement.statement-iterator after c.in-Some.statement c.in-Some.ensures.steps in
    (kept_parts l s below (row_by source_view after) (subst (λ f. are_kept_right l f ≡ true) taken c.loop-statement.invariant.kept)).1

pub add_cased-requires-clause-ends : goal.add_cased-requires-clause-ends
add_cased-requires-clause-ends c =
    let l = language_of c.args.context.now.named.now in
    let m = modules_of c.args.context.now.named.now in
    let depth = depth_of m (slots_in c.sources.result.now.table) c.slots.result.now (sym c.sources.ensures) c.slots.ensures in
    let after = c.next.new.self in
    let s = label_by source_view c.in-Some.statement in
    let below = row_by source_view c.in-Some.statement.children in
    let taken = takes_by source_view c.loop-statement.statement-iterator after c.in-Some.statement c.in-Some.ensures.steps in
    let parts = all_first (ends_within_in l m (groupings_of m) (suc (size m))) s below (row_by source_view after)
    (subst (λ f. AllEnd l m (suc (size m)) (laid f)) taken c.loop-statement.invariant.ends_there) in
    subst (λ n. AllEnd l m n (laid (node s below end))) (sym depth) parts.0

pub loop-statement-preserved : goal.loop-statement-preserved
loop-statement-preserved c =
    let l = language_of c.args.context.now.named.now in
    let m = modules_of c.args.context.now.named.now in
    let a = augment_view c.args.augment in
    let full = suc (size m) in
    let before = c.loop-statement.statement-iterator in
    let after = c.next.new.self in
    let s = label_by source_view c.in-Some.statement in
    let below = row_by source_view c.in-Some.statement.children in
    let rest = row_by source_view after in
    let taken = takes_by source_view before after c.in-Some.statement c.in-Some.ensures.steps in
    let now = c.loop-statement.made in
    let mid = c.add_cased.new.made in
    let parts = laid (node s below end) in
    let depth = depth_of m (slots_in c.sources.result.now.table) c.slots.result.now (sym c.sources.ensures) c.slots.ensures in
    let home : c.label.result.now.home ≡ a.source.home = ap (λ l. l.home) c.label.ensures in
    let given : row_by source_view c.children-given.result ≡ a.given = ap (row_by source_view) c.children-given.ensures in
    let one : Adds None (body_nodes l m a.source.home full a.given parts) (breaks_for l m a.source.home full parts) now mid =
    subst (λ h. Adds None (body_nodes l m h full a.given parts) (breaks_for l m h full parts) now mid) home
    (subst (λ n. Adds None (body_nodes l m c.label.result.now.home n a.given parts) (breaks_for l m c.label.result.now.home n parts) now mid) depth
    (subst (λ g. Adds None (body_nodes l m c.label.result.now.home (length c.slots.result.now + 1) g parts) (breaks_for l m c.label.result.now.home (length c.slots.result.now + 1) parts) now mid) given
    c.in_ok-add_cased.ensures)) in
    record {
      more = tt;
      ends = tt;
      kept = (kept_parts l s below rest (subst (λ f. are_kept_right l f ≡ true) taken c.loop-statement.invariant.kept)).2;
      ends_there = (all_first (ends_within_in l m (groupings_of m) (suc (size m))) s below rest
          (subst (λ f. AllEnd l m (suc (size m)) (laid f)) taken c.loop-statement.invariant.ends_there)).1;
      so_far = λ final added. c.loop-statement.invariant.so_far final
          (subst (λ f. Adds None (body_nodes l m a.source.home full a.given (laid f)) (breaks_for l m a.source.home full (laid f)) now final) (sym taken)
          (adds_rest l m a.source.home full a.given s below rest now mid final one added));
    }

pub returns : goal.returns
returns c =
    let l = language_of c.args.context.now.named.now in
    let m = modules_of c.args.context.now.named.now in
    let a = augment_view c.args.augment in
    let full = suc (size m) in
    let before = c.loop-statement.statement-iterator in
    let none = ap laid (takes_none_by source_view before c.next.new.self c.in-None.ensures.steps).0 ∙ laid_end in
    c.loop-statement.invariant.so_far c.loop-statement.made
    (adds_none None (body_nodes l m a.source.home full a.given (laid (row_by source_view before))) (breaks_for l m a.source.home full (laid (row_by source_view before))) c.loop-statement.made
    (ap (body_nodes l m a.source.home full a.given) none) (ap (breaks_for l m a.source.home full) none ∙ breaks_none l m a.source.home full))
