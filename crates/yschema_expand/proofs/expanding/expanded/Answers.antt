use Rattle.std.proofs.Common.{rules, true, ◌≡◌, ◌+◌, suc, None, length, sym, ap, ◌∙◌, subst}
use Rattle.yspec.specs.Forest.{size}
use Rattle.yspec.specs.linking.Expansion.{laid, groupings_of}
use Rattle.yspec_wide.specs.Expansion.{expanded_in_from, unfit_in_from}
use Rattle.ybase_preorder.specs.View.{row_by, label_by, slots_in}
use Rattle.ybase_preorder.proofs.RowLemmas.{takes_by, takes_none_by}
use Rattle.ylink_grammar.specs.SourceView.{source_view}
use Rattle.yschema_expand.specs.NamedView.{language_of, modules_of}
use Rattle.yschema_expand.specs.Walk.{Adds, AddsParts, AllEnd, nodes_for, breaks_for}
use Rattle.yschema_expand.specs.declared.expanding.Made.{Made}
use Rattle.yschema_expand.proofs.EndLemmas.{RowsEnd, rows_end}
use Rattle.yschema_expand.proofs.WalkLemmas.{adds_join, adds_none, begun, depth_of}
use Rattle.yschema_given.specs.Keeping.{are_kept_right}
use Rattle.yschema_given.proofs.KeepingLemmas.{kept_parts}
use Rattle.yschema_expand.proofs.expanding.expanded.Goals as goal

pub loop-top-init : goal.loop-top-init
loop-top-init c =
    let l = language_of c.args.named.now in
    let m = modules_of c.args.named.now in
    let groupings = groupings_of m in
    let it : c.into_iter-top-iterator.result ≡ c.modules-top-items.result = search rules in
    let whole : row_by source_view c.into_iter-top-iterator.result ≡ m = ap (row_by source_view) it ∙ (c.modules-top-items.ensures ∙ c.sources-sources.ensures) in
    let start : Made = record { table = c.new.result; told = None } in
    record {
      more = tt;
      ends = tt;
      kept = ap (are_kept_right l) whole ∙ c.args.named.now.kept;
      ends_there = subst (RowsEnd l m) (sym whole) (rows_end l m c.requires.0);
      so_far = λ final added. subst (λ f. Adds None (expanded_in_from l m groupings f) (unfit_in_from l m groupings f) start final) whole added;
    }

pub add_nodes-requires-clause-ends : goal.add_nodes-requires-clause-ends
add_nodes-requires-clause-ends c =
    let l = language_of c.args.named.now in
    let m = modules_of c.args.named.now in
    let depth = depth_of m (slots_in c.sources-sources.result.now.table) c.slots.result.now (sym c.sources-sources.ensures) c.slots.ensures in
    let taken = takes_by source_view c.loop-top.top-iterator c.next.new.self c.in-Some.top c.in-Some.ensures.steps in
    let below = row_by source_view c.in-Some.top.children in
    let first = (subst (RowsEnd l m) taken c.loop-top.invariant.ends_there).0 in
    subst (λ r. AllEnd l m (length c.slots.result.now + 1) (laid (row_by source_view r))) (sym c.children.ensures)
    (subst (λ n. AllEnd l m n (laid below)) (sym depth) first)

pub add_nodes-requires-clause-kept : goal.add_nodes-requires-clause-kept
add_nodes-requires-clause-kept c =
    let l = language_of c.args.named.now in
    let after = c.next.new.self in
    let s = label_by source_view c.in-Some.top in
    let below = row_by source_view c.in-Some.top.children in
    let taken = takes_by source_view c.loop-top.top-iterator after c.in-Some.top c.in-Some.ensures.steps in
    ap (λ r. are_kept_right l (row_by source_view r)) c.children.ensures
    ∙ (kept_parts l s below (row_by source_view after) (subst (λ f. are_kept_right l f ≡ true) taken c.loop-top.invariant.kept)).1

pub loop-top-preserved : goal.loop-top-preserved
loop-top-preserved c =
    let l = language_of c.args.named.now in
    let m = modules_of c.args.named.now in
    let groupings = groupings_of m in
    let before = c.loop-top.top-iterator in
    let after = c.next.new.self in
    let s = label_by source_view c.in-Some.top in
    let below = row_by source_view c.in-Some.top.children in
    let rest = row_by source_view after in
    let taken = takes_by source_view before after c.in-Some.top c.in-Some.ensures.steps in
    let depth = depth_of m (slots_in c.sources-sources.result.now.table) c.slots.result.now (sym c.sources-sources.ensures) c.slots.ensures in
    let home : c.label.result.now.home ≡ s.home = ap (λ l. l.home) c.label.ensures in
    let own = row_by source_view c.children.result in
    let same : own ≡ below = ap (row_by source_view) c.children.ensures in
    let mid = c.add_nodes.new.made in
    let now = c.loop-top.made in
    let full = suc (size m) in
    let one : Adds None (nodes_for l m s.home full (laid below)) (breaks_for l m s.home full (laid below)) now mid =
    subst (λ h. AddsParts l m None h full (laid below) now mid) home
    (subst (λ n. AddsParts l m None c.label.result.now.home n (laid below) now mid) depth
    (subst (λ r. AddsParts l m None c.label.result.now.home (length c.slots.result.now + 1) (laid r) now mid) same c.in_ok-add_nodes.ensures)) in
    record {
      more = tt;
      ends = tt;
      kept = (kept_parts l s below rest (subst (λ f. are_kept_right l f ≡ true) taken c.loop-top.invariant.kept)).2;
      ends_there = (subst (RowsEnd l m) taken c.loop-top.invariant.ends_there).1;
      so_far = λ final added. c.loop-top.invariant.so_far final
          (subst (λ f. Adds None (expanded_in_from l m groupings f) (unfit_in_from l m groupings f) now final) (sym taken)
          (adds_join None (nodes_for l m s.home full (laid below)) (expanded_in_from l m groupings rest) (breaks_for l m s.home full (laid below)) (unfit_in_from l m groupings rest) now mid final one added));
    }

pub returns-clause-nodes : goal.returns-clause-nodes
returns-clause-nodes c =
    let l = language_of c.args.named.now in
    let m = modules_of c.args.named.now in
    let groupings = groupings_of m in
    let before = c.loop-top.top-iterator in
    let none = (takes_none_by source_view before c.next.new.self c.in-None.ensures.steps).0 in
    let all = c.loop-top.invariant.so_far c.loop-top.made
    (adds_none None (expanded_in_from l m groupings (row_by source_view before)) (unfit_in_from l m groupings (row_by source_view before)) c.loop-top.made
    (ap (expanded_in_from l m groupings) none) (ap (unfit_in_from l m groupings) none)) in
    all.0 ∙ ap (λ slots. begun slots (expanded_in_from l m groupings m)) c.new.ensures

pub returns-clause-told : goal.returns-clause-told
returns-clause-told c =
    let l = language_of c.args.named.now in
    let m = modules_of c.args.named.now in
    let groupings = groupings_of m in
    let before = c.loop-top.top-iterator in
    let none = (takes_none_by source_view before c.next.new.self c.in-None.ensures.steps).0 in
    let all = c.loop-top.invariant.so_far c.loop-top.made
    (adds_none None (expanded_in_from l m groupings (row_by source_view before)) (unfit_in_from l m groupings (row_by source_view before)) c.loop-top.made
    (ap (expanded_in_from l m groupings) none) (ap (unfit_in_from l m groupings) none)) in
    all.1
