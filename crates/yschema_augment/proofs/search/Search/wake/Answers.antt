use Rattle.std.proofs.Common.{◌≡◌, ◌++◌, None, sym, ap, ◌∙◌, subst}
use Rattle.std.proofs.lemmas.List.{append-nil}
use Rattle.std.specs.Prelude.{slice_get}
use Rattle.std.proofs.lemmas.Option.{slice_get_past}
use Rattle.ybase_preorder.specs.View.{label_by}
use Rattle.yschema_expand.specs.NumberedView.{with_number}
use Rattle.yschema_augment.proofs.AddingLemmas.{woken_none}
use Rattle.yschema_augment.proofs.search.Search.wake.Goals as goal

pub returns-in_default : goal.returns-in_default
returns-in_default c =
    let l = label_by with_number c.args.node in
    let none : slice_get c.args.self.now.names.of_nodes.items l.number ≡ None =
    subst (λ xs. slice_get xs l.number ≡ None) c.deref.ensures.value (subst (λ n. slice_get c.deref.result.now n ≡ None) c.number-number.ensures
    (slice_get_past c.deref.result.now c.number-number.result c.in_default.ensures.lookup.3)) in
    sym (ap (λ ws. c.args.woken.now.items ++ ws) (woken_none c.args.self.now c.args.target l none) ∙ append-nil c.args.woken.now.items)
