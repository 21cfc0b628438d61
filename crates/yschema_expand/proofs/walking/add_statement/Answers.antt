use Rattle.std.proofs.Common.{◌≡◌, ◌&&◌, not, true, false, sym, ◌∙◌, refl, subst}
use Rattle.std.proofs.lemmas.Result.{on_ok_weaker}
use Rattle.yspec.specs.Forest.{end, node, size}
use Rattle.yspec.specs.linking.Keyword.{same_keyword, case_word}
use Rattle.yspec.specs.linking.Parts.{part_of, case_for}
use Rattle.yspec.specs.linking.Expansion.{laid}
use Rattle.ybase_preorder.specs.View.{row_by, row_view, label_by}
use Rattle.ylink_grammar.specs.SourceView.{source_view}
use Rattle.yschema_expand.specs.NamedView.{language_of, modules_of}
use Rattle.yschema_expand.specs.Tasks.{toll, toll_of, Does, TaskEnds, Leads}
use Rattle.yschema_expand.specs.Walk.{chosen, is_laid, AllEnd, AddsParts}
use Rattle.yschema_expand.proofs.TurnLemmas.{leaves_none}
use Rattle.yschema_expand.proofs.WalkLemmas.{laid_none, laid_single, laid_own, adds_nothing, ends_node, chosen_empty}
use Rattle.yschema_expand.proofs.walking.add_statement.Goals as goal

pub returns-then-not-is_laid : goal.returns-then-not-is_laid
returns-then-not-is_laid c =
    let l = language_of c.args.context.now.named.now in
    let m = modules_of c.args.context.now.named.now in
    let parent = c.args.place.parent in
    let owner = c.args.place.owner in
    let depth = c.args.place.depth in
    let s = label_by source_view c.args.statement in
    let below = row_by source_view c.args.statement.children in
    let other : is_laid s ≡ false = sym c.is_laid.ensures ∙ c.if-not-is_laid.true in
    leaves_none (Does l m) (toll l m) (TaskEnds l m) (AddsParts l m parent owner depth (chosen c.args.in_choice (laid (node s below end)))) _ c.args.tasks.now.items c.args.made.now c.args.made.now
    (adds_nothing l m owner depth parent (chosen c.args.in_choice (laid (node s below end))) c.args.made.now (chosen_empty c.args.in_choice (laid (node s below end)) (laid_none s below other)))

pub add_case-requires-clause-ends : goal.add_case-requires-clause-ends
add_case-requires-clause-ends c =
    let l = language_of c.args.context.now.named.now in
    let m = modules_of c.args.context.now.named.now in
    let s = label_by source_view c.args.statement in
    let below = row_by source_view c.args.statement.children in
    let is : is_laid s ≡ true = sym c.is_laid.ensures ∙ c.if-not-is_laid.false in
    let single : (c.args.in_choice && not (same_keyword case_word s.keyword)) ≡ true = sym c.is_single.ensures ∙ c.if-is_single.true in
    ends_node l m c.args.place.depth (case_for (part_of s below)) (laid (node s below end)) refl
    (subst (AllEnd l m c.args.place.depth) (laid_single c.args.in_choice s below is single) c.requires.ends)

pub returns-then-is_single : goal.returns-then-is_single
returns-then-is_single c =
    let l = language_of c.args.context.now.named.now in
    let m = modules_of c.args.context.now.named.now in
    let parent = c.args.place.parent in
    let owner = c.args.place.owner in
    let depth = c.args.place.depth in
    let s = label_by source_view c.args.statement in
    let below = row_by source_view c.args.statement.children in
    let is : is_laid s ≡ true = sym c.is_laid.ensures ∙ c.if-not-is_laid.false in
    let single : (c.args.in_choice && not (same_keyword case_word s.keyword)) ≡ true = sym c.is_single.ensures ∙ c.if-is_single.true in
    on_ok_weaker c.add_case.result (subst (λ parts. Leads l m (AddsParts l m parent owner depth parts) (toll_of l m depth (size (row_view c.args.statement.children)) parts)
    c.args.tasks.now.items c.add_case.new.tasks.items c.args.made.now c.add_case.new.made) (sym (laid_single c.args.in_choice s below is single))) c.add_case.ensures

pub add_alone-requires-clause-ends : goal.add_alone-requires-clause-ends
add_alone-requires-clause-ends c =
    let l = language_of c.args.context.now.named.now in
    let m = modules_of c.args.context.now.named.now in
    let s = label_by source_view c.args.statement in
    let below = row_by source_view c.args.statement.children in
    let is : is_laid s ≡ true = sym c.is_laid.ensures ∙ c.if-not-is_laid.false in
    let single : (c.args.in_choice && not (same_keyword case_word s.keyword)) ≡ false = sym c.is_single.ensures ∙ c.if-is_single.false in
    subst (AllEnd l m c.args.place.depth) (laid_own c.args.in_choice s below is single) c.requires.ends

pub returns : goal.returns
returns c =
    let l = language_of c.args.context.now.named.now in
    let m = modules_of c.args.context.now.named.now in
    let parent = c.args.place.parent in
    let owner = c.args.place.owner in
    let depth = c.args.place.depth in
    let s = label_by source_view c.args.statement in
    let below = row_by source_view c.args.statement.children in
    let is : is_laid s ≡ true = sym c.is_laid.ensures ∙ c.if-not-is_laid.false in
    let single : (c.args.in_choice && not (same_keyword case_word s.keyword)) ≡ false = sym c.is_single.ensures ∙ c.if-is_single.false in
    on_ok_weaker c.add_alone.result (subst (λ parts. Leads l m (AddsParts l m parent owner depth parts) (toll_of l m depth (size (row_view c.args.statement.children)) parts)
    c.args.tasks.now.items c.add_alone.new.tasks.items c.args.made.now c.add_alone.new.made) (sym (laid_own c.args.in_choice s below is single))) c.add_alone.ensures
