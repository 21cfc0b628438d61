use Rattle.std.proofs.Common.{◌≡◌, true, false, Some, refl, sym, ap, ◌∙◌, subst}
use Rattle.std.proofs.lemmas.Result.{on_ok_weaker}
use Rattle.yspec.specs.Forest.{end, node}
use Rattle.yspec.specs.linking.Keyword.{case_word}
use Rattle.yspec.specs.linking.Source.{is_source_of}
use Rattle.yspec.specs.linking.Expansion.{laid, owned_by}
use Rattle.yspec.specs.linking.Parts.{case_for, part_of}
use Rattle.ybase_preorder.specs.View.{row_by, label_by}
use Rattle.ylink_grammar.specs.SourceView.{source_view}
use Rattle.yschema_expand.specs.Bodies.{asked_nodes, body_nodes}
use Rattle.yschema_expand.specs.NamedView.{language_of, modules_of}
use Rattle.yschema_expand.specs.Walk.{breaks_for, is_laid, Adds}
use Rattle.yschema_expand.specs.declared.expanding.Made.{Made}
use Rattle.yschema_expand.proofs.BodyLemmas.{body_one}
use Rattle.yschema_expand.proofs.WalkLemmas.{adds_around, adds_none, breaks_none, laid_none}
use Rattle.yschema_expand.proofs.bodies.add_cased.Goals as goal

pub returns-then-not-is_laid : goal.returns-then-not-is_laid
returns-then-not-is_laid c =
    let l = language_of c.args.context.now.named.now in
    let m = modules_of c.args.context.now.named.now in
    let owner = c.args.place.owner in
    let depth = c.args.place.depth in
    let given = row_by source_view c.args.given in
    let s = label_by source_view c.args.statement in
    let below = row_by source_view c.args.statement.children in
    let parts = laid (node s below end) in
    let none : parts ≡ end = laid_none s below (sym c.is_laid.ensures ∙ c.if-not-is_laid.true) in
    adds_none c.args.place.parent (body_nodes l m owner depth given parts) (breaks_for l m owner depth parts) c.args.made.now
    (ap (body_nodes l m owner depth given) none) (ap (breaks_for l m owner depth) none ∙ breaks_none l m owner depth)

pub returns-then-has_keyword : goal.returns-then-has_keyword
returns-then-has_keyword c =
    let l = language_of c.args.context.now.named.now in
    let m = modules_of c.args.context.now.named.now in
    let owner = c.args.place.owner in
    let depth = c.args.place.depth in
    let given = row_by source_view c.args.given in
    let s = label_by source_view c.args.statement in
    let below = row_by source_view c.args.statement.children in
    let is : is_laid s ≡ true = sym c.is_laid.ensures ∙ c.if-not-is_laid.false in
    let chosen : is_source_of case_word s ≡ true = sym c.has_keyword.ensures ∙ c.if-has_keyword.true in
    on_ok_weaker c.add_asked.result (subst (λ f. Adds c.args.place.parent f (breaks_for l m owner depth (laid (node s below end))) c.args.made.now c.add_asked.new.made)
    (sym (body_one l m owner depth given s below is true chosen))) c.add_asked.ensures

pub returns : goal.returns
returns c =
    let l = language_of c.args.context.now.named.now in
    let m = modules_of c.args.context.now.named.now in
    let parent = c.args.place.parent in
    let owner = c.args.place.owner in
    let depth = c.args.place.depth in
    let given = row_by source_view c.args.given in
    let s = label_by source_view c.args.statement in
    let below = row_by source_view c.args.statement.children in
    let parts = laid (node s below end) in
    let is : is_laid s ≡ true = sym c.is_laid.ensures ∙ c.if-not-is_laid.false in
    let single : is_source_of case_word s ≡ false = sym c.has_keyword.ensures ∙ c.if-has_keyword.false in
    let old = c.args.made.now in
    let mid : Made = record { table = c.open.new.self; told = old.told } in
    let full = c.add_asked-2.new.made in
    let new : Made = record { table = c.close.new.self; told = full.told } in
    subst (λ f. Adds parent f (breaks_for l m owner depth parts) old new) (sym (body_one l m owner depth given s below is false single))
    (adds_around parent (owned_by owner (case_for (part_of s below))) (asked_nodes l m owner depth given parts) (breaks_for l m owner depth parts)
    c.new-label.result c.in_ok-number.number old mid full new c.new-label.ensures c.in_ok-number.ensures.laid c.in_ok-number.ensures.number refl
    c.in_ok-add_asked.ensures c.close.ensures refl)
