use Rattle.std.proofs.Common.{◌≡◌, ◌++◌, true, cond, suc, [], ◌∷◌, arith, sym, ap, ap₂, ◌∙◌, refl, subst, Some}
use Rattle.yspec.specs.Forest.{end, node, size}
use Rattle.yspec.specs.linking.Keyword.{same_keyword, choice_word}
use Rattle.yspec.specs.linking.Parts.{part_of, within, as_cases}
use Rattle.yspec.specs.linking.Expansion.{laid}
use Rattle.ybase_preorder.specs.View.{row_by, row_view, label_by}
use Rattle.ylink_grammar.specs.SourceView.{source_view}
use Rattle.yschema_expand.specs.NamedView.{language_of, modules_of}
use Rattle.yschema_expand.specs.Tasks.{toll, toll_for, toll_of, tolls, Does, TaskEnds, Leads}
use Rattle.yschema_expand.specs.Walk.{chosen, AllEnd, AddsParts}
use Rattle.yschema_expand.specs.declared.expanding.Made.{Made}
use Rattle.yschema_expand.specs.declared.expanding.Place.{Place}
use Rattle.yschema_expand.specs.declared.walking.Task.{Task}
use Rattle.yschema_expand.specs.declared.walking.Task.TheVariants.{Add, Close}
use Rattle.yschema_expand.proofs.TaskLemmas.{tolls_node}
use Rattle.yschema_expand.proofs.TurnLemmas.{leaves_behind, leaves_task}
use Rattle.yschema_expand.proofs.WalkLemmas.{adds_node}
use Rattle.ybase_preorder.specs.declared.siblings.Siblings.{Siblings}
use Rattle.ylink_grammar.specs.declared.source.Source as held
use Rattle.yschema_given.specs.Keeping.{are_kept_right}
use Rattle.yschema_expand.proofs.walking.add_node.Goals as goal

pub returns : goal.returns
returns c =
    let l = language_of c.args.context.now.named.now in
    let m = modules_of c.args.context.now.named.now in
    let parent = c.args.place.parent in
    let owner = c.args.place.owner in
    let depth = c.args.place.depth in
    let s = label_by source_view c.args.statement in
    let below = row_by source_view c.args.statement.children in
    let n = c.in_ok-number.number in
    let old = c.args.made.now in
    let mid : Made = record { table = c.open.new.self; told = old.told } in
    let chooses = c.has_keyword-in_choice.result in
    let place : Place = record { parent = Some n; owner = owner; depth = depth } in
    let t : Task = Add place chooses c.children.result in
    let choice : chooses ≡ same_keyword choice_word s.keyword = c.has_keyword-in_choice.ensures in
    let inside : chosen chooses (laid (row_by source_view c.children.result)) ≡ within s (laid below) =
    ap₂ (λ b r. cond b (as_cases (laid r)) (laid r)) choice (ap (row_by source_view) c.children.ensures) in
    let inner = within s (laid below) in
    let cost = ap (tolls (toll_for l m depth)) inside in
    let count = ap (λ r. size (row_view r)) c.children.ensures in
    let whole = tolls_node (toll_for l m depth) (part_of s below) inner c.requires.node in
    let items = c.in_ok-push-2.ensures.items ∙ ap (λ ts. ts ++ t ∷ []) c.in_ok-push.ensures.items in
    subst (λ ts. Leads l m (AddsParts l m parent owner depth (node (part_of s below) inner end)) (toll_of l m depth (size (row_view c.args.statement.children)) (node (part_of s below) inner end)) c.args.tasks.now.items ts old mid) (sym items)
    (leaves_behind (Does l m) (toll l m) (TaskEnds l m) (Does l m t) (AddsParts l m parent owner depth (node (part_of s below) inner end)) (suc (toll l m t)) (toll_of l m depth (size (row_view c.args.statement.children)) (node (part_of s below) inner end)) (Close n) c.args.tasks.now.items
    ((c.args.tasks.now.items ++ Close n ∷ []) ++ t ∷ []) old mid mid
    (λ full final added closed. adds_node l m owner depth parent (part_of s below) inner c.new-label.result n old mid full final c.requires.node c.new-label.ensures
    c.in_ok-number.ensures.laid c.in_ok-number.ensures.number refl (subst (λ f. AddsParts l m (Some n) owner depth f mid full) inside added) closed.0 closed.1)
    tt (omega (arith, cost, count, whole))
    (leaves_task (Does l m) (toll l m) (TaskEnds l m) t (c.args.tasks.now.items ++ Close n ∷ []) mid (subst (AllEnd l m depth) (sym inside) c.requires.ends, subst (λ (r : Siblings held.Source). are_kept_right l (row_by source_view r) ≡ true) (sym c.children.ensures) c.requires.kept)))
