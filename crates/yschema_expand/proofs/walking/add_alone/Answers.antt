use Rattle.std.proofs.Common.{◌≡◌, true, false, sym, ◌∙◌, subst}
use Rattle.std.proofs.lemmas.Result.{on_ok_weaker}
use Rattle.yspec.specs.Forest.{size}
use Rattle.yspec.specs.linking.Keyword.{uses_word}
use Rattle.yspec.specs.linking.Source.{is_source_of}
use Rattle.yspec.specs.linking.Parts.{part_of, within}
use Rattle.yspec.specs.linking.Expansion.{laid}
use Rattle.ybase_preorder.specs.View.{row_by, row_view, label_by}
use Rattle.ylink_grammar.specs.SourceView.{source_view}
use Rattle.yschema_expand.specs.NamedView.{language_of, modules_of}
use Rattle.yschema_expand.specs.Tasks.{toll_of, Leads}
use Rattle.yschema_expand.specs.Walk.{AllEnd, AddsParts}
use Rattle.yschema_expand.proofs.WalkLemmas.{laid_uses, laid_node, ends_node, ends_uses}
use Rattle.yschema_expand.proofs.walking.add_alone.Goals as goal

pub add_uses-requires-clause-ends : goal.add_uses-requires-clause-ends
add_uses-requires-clause-ends c =
    let l = language_of c.args.context.now.named.now in
    let m = modules_of c.args.context.now.named.now in
    let s = label_by source_view c.args.statement in
    let below = row_by source_view c.args.statement.children in
    let used : is_source_of uses_word s ≡ true = sym c.has_keyword.ensures ∙ c.if-has_keyword.true in
    ends_uses l m c.args.place.depth (part_of s below) used (subst (AllEnd l m c.args.place.depth) (laid_uses s below used) c.requires.ends)

pub returns-then-has_keyword : goal.returns-then-has_keyword
returns-then-has_keyword c =
    let l = language_of c.args.context.now.named.now in
    let m = modules_of c.args.context.now.named.now in
    let parent = c.args.place.parent in
    let owner = c.args.place.owner in
    let depth = c.args.place.depth in
    let s = label_by source_view c.args.statement in
    let below = row_by source_view c.args.statement.children in
    let used : is_source_of uses_word s ≡ true = sym c.has_keyword.ensures ∙ c.if-has_keyword.true in
    on_ok_weaker c.add_uses.result (subst (λ parts. Leads l m (AddsParts l m parent owner depth parts) (toll_of l m depth (size (row_view c.args.statement.children)) parts)
    c.args.tasks.now.items c.add_uses.new.tasks.items c.args.made.now c.add_uses.new.made) (sym (laid_uses s below used))) c.add_uses.ensures

pub add_node-requires-clause-ends : goal.add_node-requires-clause-ends
add_node-requires-clause-ends c =
    let l = language_of c.args.context.now.named.now in
    let m = modules_of c.args.context.now.named.now in
    let s = label_by source_view c.args.statement in
    let below = row_by source_view c.args.statement.children in
    let unused : is_source_of uses_word s ≡ false = sym c.has_keyword.ensures ∙ c.if-has_keyword.false in
    ends_node l m c.args.place.depth (part_of s below) (within s (laid below)) unused
    (subst (AllEnd l m c.args.place.depth) (laid_node s below c.requires.laid unused) c.requires.ends)

pub returns : goal.returns
returns c =
    let l = language_of c.args.context.now.named.now in
    let m = modules_of c.args.context.now.named.now in
    let parent = c.args.place.parent in
    let owner = c.args.place.owner in
    let depth = c.args.place.depth in
    let s = label_by source_view c.args.statement in
    let below = row_by source_view c.args.statement.children in
    let unused : is_source_of uses_word s ≡ false = sym c.has_keyword.ensures ∙ c.if-has_keyword.false in
    on_ok_weaker c.add_node.result (subst (λ parts. Leads l m (AddsParts l m parent owner depth parts) (toll_of l m depth (size (row_view c.args.statement.children)) parts)
    c.args.tasks.now.items c.add_node.new.tasks.items c.args.made.now c.add_node.new.made) (sym (laid_node s below c.requires.laid unused))) c.add_node.ensures
