use Rattle.std.proofs.Common.{◌≡◌, ◌&&◌, ◌+◌, not, true, false, arith, sym, ◌∙◌, subst}
use Rattle.std.proofs.lemmas.Bool.{and_parts}
use Rattle.std.proofs.lemmas.Result.{on_ok_weaker}
use Rattle.yspec.specs.Forest.{end, node, size}
use Rattle.yspec.specs.linking.Keyword.{same_keyword, case_word}
use Rattle.yspec.specs.linking.Expansion.{laid}
use Rattle.ybase_preorder.specs.View.{row_by, row_view, label_by}
use Rattle.ylink_grammar.specs.SourceView.{source_view}
use Rattle.yschema_expand.specs.NamedView.{language_of, modules_of}
use Rattle.yschema_expand.specs.Tasks.{brought, toll, toll_of, Does, TaskEnds, Leads}
use Rattle.yschema_expand.specs.Walk.{breaks_for, Adds}
use Rattle.yschema_expand.proofs.InnerLemmas.{brought_own, brought_single}
use Rattle.yschema_expand.proofs.TurnLemmas.{leaves_so}
use Rattle.yschema_expand.proofs.bringing.bring_laid.Goals as goal

pub returns-then-is_single : goal.returns-then-is_single
returns-then-is_single c =
    let l = language_of c.args.context.now.named.now in
    let m = modules_of c.args.context.now.named.now in
    let place = c.args.bringing.place in
    let chooses = c.args.bringing.in_choice in
    let given = row_by source_view c.args.bringing.given in
    let s = label_by source_view c.args.statement in
    let below = row_by source_view c.args.statement.children in
    let parts = laid (node s below end) in
    let told = breaks_for l m place.owner place.depth parts in
    let single : (chooses && not (same_keyword case_word s.keyword)) ≡ true = sym c.is_single.ensures ∙ c.if-is_single.true in
    let unused = c.requires.cases (and_parts chooses (not (same_keyword case_word s.keyword)) single).0 in
    on_ok_weaker c.bring_case.result (subst (λ f. Leads l m (Adds place.parent f told) (toll_of l m place.depth (size (row_view c.args.statement.children)) parts + 2)
    c.args.tasks.now.items c.bring_case.new.tasks.items c.args.made.now c.bring_case.new.made)
    (sym (brought_single l m place.owner place.depth given chooses s below c.requires.laid unused single))) c.bring_case.ensures

pub returns : goal.returns
returns c =
    let l = language_of c.args.context.now.named.now in
    let m = modules_of c.args.context.now.named.now in
    let place = c.args.bringing.place in
    let chooses = c.args.bringing.in_choice in
    let given = row_by source_view c.args.bringing.given in
    let s = label_by source_view c.args.statement in
    let below = row_by source_view c.args.statement.children in
    let parts = laid (node s below end) in
    let told = breaks_for l m place.owner place.depth parts in
    let most = toll_of l m place.depth (size (row_view c.args.statement.children)) parts in
    let single : (chooses && not (same_keyword case_word s.keyword)) ≡ false = sym c.is_single.ensures ∙ c.if-is_single.false in
    let this = Adds place.parent (brought l m place.owner place.depth false given parts) told in
    let that = Adds place.parent (brought l m place.owner place.depth chooses given parts) told in
    on_ok_weaker c.bring_alone.result (λ leads. leaves_so (Does l m) (toll l m) (TaskEnds l m) this that (most + 1) (most + 2)
    c.args.tasks.now.items c.bring_alone.new.tasks.items c.args.made.now c.bring_alone.new.made
    (λ mid adds. subst (λ f. Adds place.parent f told c.args.made.now mid)
    (sym (brought_own l m place.owner place.depth given chooses s below c.requires.laid c.requires.cases single)) adds)
    (omega arith) leads) c.bring_alone.ensures
