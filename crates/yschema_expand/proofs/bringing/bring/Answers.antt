use Rattle.std.proofs.Common.{◌≡◌, ◌+◌, ◌++◌, [], ◌∷◌, true, false, is_some, arith, sym, ap, ◌∙◌, subst}
use Rattle.std.proofs.lemmas.Result.{on_ok_weaker}
use Rattle.yspec.specs.Forest.{Forest, end, node, size}
use Rattle.yspec.specs.linking.Keyword.{uses_word}
use Rattle.yspec.specs.linking.Source.{first_with}
use Rattle.yspec.specs.linking.Expansion.{laid}
use Rattle.yspec.specs.linking.Parts.{Part}
use Rattle.ybase_preorder.specs.View.{row_by, row_view, label_by}
use Rattle.ybase_preorder.proofs.RowLemmas.{takes_by, takes_none_by}
use Rattle.ylink_grammar.specs.SourceView.{source_view}
use Rattle.yschema_expand.specs.NamedView.{language_of, modules_of}
use Rattle.yschema_expand.specs.Tasks.{brought, toll, toll_for, toll_of, tolls, Does, TaskEnds, Leads}
use Rattle.yschema_expand.specs.Walk.{breaks_for, is_laid, Adds, AllEnd}
use Rattle.yschema_expand.specs.declared.walking.Task.{Task}
use Rattle.yschema_expand.specs.declared.walking.Task.TheVariants.{Bring}
use Rattle.yschema_expand.proofs.InnerLemmas.{brings_both, brought_none, lacks_parts}
use Rattle.yschema_expand.proofs.TaskLemmas.{tolls_join}
use Rattle.yschema_expand.proofs.TurnLemmas.{leaves_none, leaves_behind}
use Rattle.yschema_expand.proofs.WalkLemmas.{adds_none, breaks_none, chosen-first, chosen_none, ends_join, laid_none}
use Rattle.yschema_given.specs.Keeping.{are_kept_right}
use Rattle.yschema_given.proofs.KeepingLemmas.{kept_parts}
use Rattle.yschema_expand.proofs.bringing.bring.Goals as goal

pub returns-in_default : goal.returns-in_default
returns-in_default c =
    let l = language_of c.args.context.now.named.now in
    let m = modules_of c.args.context.now.named.now in
    let place = c.args.bringing.place in
    let given = row_by source_view c.args.bringing.given in
    let before = c.args.statements in
    let parts = laid (row_by source_view before) in
    let none : parts ≡ end = chosen_none false (row_by source_view before) (takes_none_by source_view before c.next.new.self c.in_default.ensures.steps).0 in
    let t : Task = Bring c.args.bringing before in
    leaves_none (Does l m) (toll l m) (TaskEnds l m) (Does l m t) (toll l m t) c.args.tasks.now.items c.args.made.now c.args.made.now
    (adds_none place.parent (brought l m place.owner place.depth c.args.bringing.in_choice given parts) (breaks_for l m place.owner place.depth parts) c.args.made.now
    (brought_none l m place.owner place.depth given c.args.bringing.in_choice parts none)
    (ap (breaks_for l m place.owner place.depth) none ∙ breaks_none l m place.owner place.depth))

pub bring_laid-requires-clause-cases : goal.bring_laid-requires-clause-cases
bring_laid-requires-clause-cases c = λ chooses.
    let s = label_by source_view c.in-Some.statement in
    let below = row_by source_view c.in-Some.statement.children in
    let after = c.next.new.self in
    let taken = takes_by source_view c.args.statements after c.in-Some.statement c.in-Some.ensures.steps in
    (lacks_parts uses_word s below (row_by source_view after) (ap (λ f. is_some (first_with uses_word f)) (sym taken) ∙ c.requires.cases chooses)).0

pub bring_laid-requires-clause-kept : goal.bring_laid-requires-clause-kept
bring_laid-requires-clause-kept c =
    let l = language_of c.args.context.now.named.now in
    let after = c.next.new.self in
    let s = label_by source_view c.in-Some.statement in
    let below = row_by source_view c.in-Some.statement.children in
    let taken = takes_by source_view c.args.statements after c.in-Some.statement c.in-Some.ensures.steps in
    (kept_parts l s below (row_by source_view after) (subst (λ f. are_kept_right l f ≡ true) taken c.requires.kept)).1

pub bring_laid-requires-clause-ends : goal.bring_laid-requires-clause-ends
bring_laid-requires-clause-ends c =
    let l = language_of c.args.context.now.named.now in
    let m = modules_of c.args.context.now.named.now in
    let depth = c.args.bringing.place.depth in
    let after = c.next.new.self in
    let s = label_by source_view c.in-Some.statement in
    let below = row_by source_view c.in-Some.statement.children in
    let rest = row_by source_view after in
    let taken = takes_by source_view c.args.statements after c.in-Some.statement c.in-Some.ensures.steps in
    let split = ap laid taken ∙ chosen-first false s below rest in
    (ends_join l m depth (laid (node s below end)) (laid rest) (subst (AllEnd l m depth) split c.requires.ends)).0

pub returns-then-not-is_laid : goal.returns-then-not-is_laid
returns-then-not-is_laid c =
    let l = language_of c.args.context.now.named.now in
    let m = modules_of c.args.context.now.named.now in
    let place = c.args.bringing.place in
    let chooses = c.args.bringing.in_choice in
    let given = row_by source_view c.args.bringing.given in
    let before = c.args.statements in
    let after = c.next.new.self in
    let s = label_by source_view c.in-Some.statement in
    let below = row_by source_view c.in-Some.statement.children in
    let rest = row_by source_view after in
    let old = c.args.made.now in
    let taken = takes_by source_view before after c.in-Some.statement c.in-Some.ensures.steps in
    let one = laid (node s below end) in
    let others = laid rest in
    let all = laid (row_by source_view before) in
    let split : all ≡ _ = ap laid taken ∙ chosen-first false s below rest in
    let other : is_laid s ≡ false = sym c.is_laid.ensures ∙ c.if-not-is_laid.true in
    let none : one ≡ end = laid_none s below other in
    let cost = ap (tolls (toll_for l m place.depth)) split ∙ tolls_join (toll_for l m place.depth) one others in
    let sized = ap size c.in-Some.ensures.steps.0 in
    let t : Task = Bring c.args.bringing after in
    let this = Adds place.parent (brought l m place.owner place.depth chooses given one) (breaks_for l m place.owner place.depth one) in
    let whole = λ (f : Forest Part). Adds place.parent (brought l m place.owner place.depth chooses given f) (breaks_for l m place.owner place.depth f) in
    subst (λ ts. Leads l m (whole all) (toll l m (Bring c.args.bringing before)) c.args.tasks.now.items ts old old) (sym c.in_ok-push.ensures.items)
    (leaves_behind (Does l m) (toll l m) (TaskEnds l m) this (whole all) 0 (toll l m (Bring c.args.bringing before)) t c.args.tasks.now.items
    (c.args.tasks.now.items ++ t ∷ []) old old old
    (λ full final first then. subst (λ f. whole f old final) (sym split) (brings_both l m place.owner place.depth given place.parent chooses one others old full final first then)) (
      (ends_join l m place.depth one others (subst (AllEnd l m place.depth) split c.requires.ends)).1,
      ((kept_parts l s below rest (subst (λ f. are_kept_right l f ≡ true) taken c.requires.kept)).2, c.requires.given),
      (λ chosen. (lacks_parts uses_word s below rest (ap (λ f. is_some (first_with uses_word f)) (sym taken) ∙ c.requires.cases chosen)).1),
    )
    (omega (arith, cost, sized))
    (leaves_none (Does l m) (toll l m) (TaskEnds l m) this 0 (c.args.tasks.now.items ++ t ∷ []) old old
    (adds_none place.parent (brought l m place.owner place.depth chooses given one) (breaks_for l m place.owner place.depth one) old
    (brought_none l m place.owner place.depth given chooses one none)
    (ap (breaks_for l m place.owner place.depth) none ∙ breaks_none l m place.owner place.depth))))

pub returns : goal.returns
returns c =
    let l = language_of c.args.context.now.named.now in
    let m = modules_of c.args.context.now.named.now in
    let place = c.args.bringing.place in
    let chooses = c.args.bringing.in_choice in
    let given = row_by source_view c.args.bringing.given in
    let before = c.args.statements in
    let after = c.next.new.self in
    let s = label_by source_view c.in-Some.statement in
    let below = row_by source_view c.in-Some.statement.children in
    let rest = row_by source_view after in
    let old = c.args.made.now in
    let taken = takes_by source_view before after c.in-Some.statement c.in-Some.ensures.steps in
    let one = laid (node s below end) in
    let others = laid rest in
    let all = laid (row_by source_view before) in
    let split : all ≡ _ = ap laid taken ∙ chosen-first false s below rest in
    let cost = ap (tolls (toll_for l m place.depth)) split ∙ tolls_join (toll_for l m place.depth) one others in
    let sized = ap size c.in-Some.ensures.steps.0 in
    let t : Task = Bring c.args.bringing after in
    let this = Adds place.parent (brought l m place.owner place.depth chooses given one) (breaks_for l m place.owner place.depth one) in
    let whole = λ (f : Forest Part). Adds place.parent (brought l m place.owner place.depth chooses given f) (breaks_for l m place.owner place.depth f) in
    let most = toll_of l m place.depth (size (row_view c.in-Some.statement.children)) one + 2 in
    on_ok_weaker c.bring_laid.result (λ leads. leaves_behind (Does l m) (toll l m) (TaskEnds l m) this (whole all) most (toll l m (Bring c.args.bringing before)) t
    c.args.tasks.now.items c.bring_laid.new.tasks.items old old c.bring_laid.new.made
    (λ full final first then. subst (λ f. whole f old final) (sym split) (brings_both l m place.owner place.depth given place.parent chooses one others old full final first then)) (
      (ends_join l m place.depth one others (subst (AllEnd l m place.depth) split c.requires.ends)).1,
      ((kept_parts l s below rest (subst (λ f. are_kept_right l f ≡ true) taken c.requires.kept)).2, c.requires.given),
      (λ chosen. (lacks_parts uses_word s below rest (ap (λ f. is_some (first_with uses_word f)) (sym taken) ∙ c.requires.cases chosen)).1),
    )
    (omega (arith, cost, sized))
    (subst (λ ts. Leads l m this most ts c.bring_laid.new.tasks.items old c.bring_laid.new.made) c.in_ok-push.ensures.items leads)) c.bring_laid.ensures
