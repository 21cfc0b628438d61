use Rattle.std.proofs.Common.{◌≡◌, ℕ, ◌<◌, length, get_or, replicate, ap, ap₂, ◌∙◌, arith, rules}
use Rattle.std.proofs.Math.Path.{fun_ext}
use Rattle.std.specs.Prelude.{slice_set}
use Rattle.yspec.specs.text.Text.{Text}
use Rattle.yspec.specs.linking.Identities.{module_name}
use Rattle.yspec.specs.types.Identities.{ModuleNames}
use Rattle.yschema_plan.specs.PlanView.{view}
use Rattle.yschema_types.specs.MadeTypes.{made_node, nothing}
use Rattle.yschema_types.specs.MadeView.{rows_view}
use Rattle.yschema_types.specs.TypesView.{homes_in}
use Rattle.yschema_types.proofs.TypeLemmas.{none_yet, one_further, all_further}
use Rattle.yschema_types.proofs.making.made_in_order.Goals as goal

pub loop-number-init : goal.loop-number-init
loop-number-init c = λ means are is.
    none_yet c.args.plan.now means c.args.order.now is (rows_view c.in_ok-made.made.items) (c.in_ok-made.ensures ∙ ap (λ n. replicate n nothing) c.nodes.ensures)

pub loop-number-preserved : goal.loop-number-preserved
loop-number-preserved c = λ means are is.
    let plan = c.args.plan.now in
    let p = view plan in
    let order = c.args.order.now in
    let i = c.loop-number.number-index in
    let row = rows_view c.loop-number.made.items in
    let homes : homes_in c.args.modules.now ≡ module_name p.modules = fun_ext (λ n. ap (λ (names : ModuleNames). names.own) (c.requires.modules n)) in
    let within : i < length order = first_of (search rules, omega arith) in
    one_further plan means order is row (rows_view c.make.new.made.items) i within
    (c.in_ok-make.ensures ∙ ap₂ (λ (hs : ℕ → Text) ms. slice_set row (get_or order i 0) (made_node hs p ms row (get_or order i 0))) homes are)
    (c.loop-number.invariant means are is)

pub returns : goal.returns
returns c = λ means are is.
    all_further c.args.plan.now means c.args.order.now is (rows_view c.loop-number.made.items) c.loop-number.number-index (first_of (search rules, omega arith))
    (c.loop-number.invariant means are is)
