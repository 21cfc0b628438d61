use Rattle.std.proofs.Common.{◌≡◌, ◌++◌, [], ◌∷◌, sym, ap, ◌∙◌, subst}
use Rattle.std.proofs.lemmas.Result.{on_ok_weaker}
use Rattle.yschema_expand.specs.NamedView.{language_of, modules_of}
use Rattle.yschema_expand.specs.Tasks.{toll, Does, TaskEnds}
use Rattle.yschema_expand.specs.Turns.{AllGood, Runs}
use Rattle.yschema_expand.specs.declared.walking.Task.{Task}
use Rattle.yschema_expand.specs.declared.walking.Task.TheVariants.{Add}
use Rattle.yschema_expand.proofs.TurnLemmas.{runs_pop}
use Rattle.yschema_expand.proofs.walking.add_nodes.Goals as goal

pub finish-requires-clause-ends : goal.finish-requires-clause-ends
finish-requires-clause-ends c =
    let l = language_of c.args.context.now.named.now in
    let m = modules_of c.args.context.now.named.now in
    let t : Task = Add c.args.place c.args.in_choice c.args.statements in
    let only : c.push.new.self.items ≡ t ∷ [] = c.in_ok-push.ensures.items ∙ ap (λ ts. ts ++ t ∷ []) c.new-tasks.ensures.items in
    subst (AllGood (TaskEnds l m)) (sym only) ((c.requires.ends, c.requires.kept), tt)

pub returns : goal.returns
returns c =
    let l = language_of c.args.context.now.named.now in
    let m = modules_of c.args.context.now.named.now in
    let t : Task = Add c.args.place c.args.in_choice c.args.statements in
    let only : c.push.new.self.items ≡ t ∷ [] = c.in_ok-push.ensures.items ∙ ap (λ ts. ts ++ t ∷ []) c.new-tasks.ensures.items in
    let now = c.args.made.now in
    let final = c.finish.new.made in
    on_ok_weaker c.finish.result (λ runs.
    let done = runs_pop (Does l m) (toll l m) (TaskEnds l m) [] t now final (subst (λ ts. Runs (Does l m) ts now final) only runs) in
    subst (Does l m t now) done.2 done.1) c.finish.ensures
