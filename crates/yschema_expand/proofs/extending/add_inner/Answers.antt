use Rattle.std.proofs.Common.{rules, ◌≡◌, ◌≤◌, ◌<◌, ◌+◌, ◌++◌, suc, [], ◌∷◌, true, not, is_some, arith, refl, sym, ap, ap₂, ◌∙◌, subst}
use Rattle.std.specs.Option.{IfSome}
use Rattle.yspec.specs.Forest.{Forest, size}
use Rattle.yspec.specs.linking.Keyword.{uses_word}
use Rattle.yspec.specs.linking.Source.{Source, first_with}
use Rattle.yspec.specs.linking.Expansion.{laid}
use Rattle.yspec.specs.schema.Breaks.{broken, when, least_from}
use Rattle.ybase_preorder.specs.View.{row_by, row_view}
use Rattle.ybase_preorder.proofs.LabelLemmas.{size-by}
use Rattle.ylink_grammar.specs.BreakView.{break_view, seen}
use Rattle.ylink_grammar.specs.SourceView.{source_view}
use Rattle.yschema_expand.specs.AugmentView.{augment_view}
use Rattle.yschema_expand.specs.NamedView.{language_of, modules_of}
use Rattle.yschema_expand.specs.TableView.{slots_of}
use Rattle.yschema_expand.specs.Tasks.{brought, one_toll, toll, toll_for, tolls, Does, Extends, TaskEnds, Leads}
use Rattle.yschema_expand.specs.TablesHung.{IsAmong}
use Rattle.yschema_expand.specs.Walk.{breaks_for, Adds, AllEnd}
use Rattle.yschema_expand.specs.declared.bringing.Bringing.{Bringing}
use Rattle.yschema_expand.specs.declared.expanding.Made.{Made}
use Rattle.yschema_expand.specs.declared.expanding.Place.{Place}
use Rattle.yschema_expand.specs.declared.hanging.Hanging.{Hanging}
use Rattle.yschema_expand.specs.declared.walking.Task.{Task}
use Rattle.yschema_expand.specs.declared.walking.Task.TheVariants.{Bring, Hang}
use Rattle.yschema_expand.proofs.InnerLemmas.{augment_added, choice_lacks, none_is}
use Rattle.yschema_expand.proofs.TurnLemmas.{leaves_behind, leaves_task}
use Rattle.yschema_given.specs.Keeping.{are_kept_right}
use Rattle.yschema_expand.proofs.extending.add_inner.Goals as goal

pub returns : goal.returns
returns c =
    let l = language_of c.args.context.now.named.now in
    let m = modules_of c.args.context.now.named.now in
    let owner = c.args.place.owner in
    let depth = c.args.place.depth in
    let first = c.args.first in
    let a = augment_view c.args.augment in
    let given = c.children-given.result in
    let same : row_by source_view given ≡ a.given = ap (row_by source_view) c.children-given.ensures in
    let target = c.in_ok-target.target in
    let start = c.len.result in
    let chooses = c.is_choice.result in
    let old = c.args.made.now in
    let before = c.args.tasks.now.items in
    let mid : Made = record { table = old.table; told = c.least_when-made.result } in
    let h : Hanging = record { first = first; target = target; start = start } in
    let place : Place = record { parent = target; owner = owner; depth = depth } in
    let bringing : Bringing = record { place = place; in_choice = chooses; given = given } in
    let hang : Task = Hang h in
    let t : Task = Bring bringing given in
    let items : c.push-2.new.self.items ≡ (before ++ hang ∷ []) ++ t ∷ [] = c.in_ok-push-2.ensures.items ∙ ap (λ ts. ts ++ t ∷ []) c.in_ok-push.ensures.items in
    let one : break_view c.broken-found.result ∷ [] ≡ broken 14 a.source.home a.source.statement.line = first_of (search rules, cc) in
    let told : seen c.least_when-made.result ≡ least_from (seen old.told) (when (not (is_some target)) (broken 14 a.source.home a.source.statement.line)) =
    c.least_when-made.ensures ∙ ap₂ (λ b bs. least_from (seen old.told) (when b bs)) (none_is c.is_none.result (is_some target) c.is_none.ensures) one in
    let kept = subst (λ (r : Forest Source). are_kept_right l r ≡ true) (sym same) c.requires.kept in
    let ends = subst (λ (r : Forest Source). AllEnd l m depth (laid r)) (sym same) c.requires.ends in
    let lacks = λ (yes : chooses ≡ true). ap (λ (r : Forest Source). is_some (first_with uses_word r)) same
    ∙ choice_lacks l m a (slots_of old.table) target c.in_ok-target.ensures.takes (sym c.is_choice.ensures ∙ yes) in
    let among : IsAmong h = subst (λ n. IfSome target (λ i. (first ≤ i) × (i < n))) (sym c.len.ensures) c.in_ok-target.ensures.among in
    let sized : size (row_view given) ≡ size a.given = sym (size-by source_view given.number (row_view given)) ∙ ap size same in
    let cost = ap (λ (r : Forest Source). tolls (toll_for l m depth) (laid r)) same in
    subst (λ ts. Leads l m (Extends l m owner depth first (a ∷ [])) (one_toll l m depth a) before ts old mid) (sym items)
    (leaves_behind (Does l m) (toll l m) (TaskEnds l m) (Does l m t) (Extends l m owner depth first (a ∷ [])) (suc (toll l m t)) (one_toll l m depth a) hang before
    ((before ++ hang ∷ []) ++ t ∷ []) old mid mid
    (λ full final brings hangs. augment_added l m owner depth first a target chooses start old mid full final refl c.len.ensures
    (λ earlier parent f count at. c.in_ok-target.ensures.found earlier parent f count at) c.is_choice.ensures told
    (subst (λ (r : Forest Source). Adds target (brought l m owner depth chooses r (laid r)) (breaks_for l m owner depth (laid r)) mid full) same brings) hangs)
    among (omega (arith, sized, cost))
    (leaves_task (Does l m) (toll l m) (TaskEnds l m) t (before ++ hang ∷ []) mid (ends, (kept, kept), lacks)))
