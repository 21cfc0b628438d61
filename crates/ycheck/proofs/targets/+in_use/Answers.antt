use Rattle.std.proofs.Common.{nat_lt, [], sym, ap, ◌∙◌, arith}
use Rattle.std.proofs.lemmas.Result.{on_ok_weaker}
use Rattle.yspec.specs.Forest.{end, node, size}
use Rattle.yspec.specs.schema.Schema as spec
use Rattle.yspec.specs.document.Document.{instances_in}
use Rattle.yspec.specs.document.Play.{stored_cases, or_default}
use Rattle.yschema_model.specs.Layout.{number_of, kind_view, leaf_type_view, absence_view, amount_view}
use Rattle.yschema_model.specs.View as schema_view
use Rattle.yinst_tree.specs.View as document_view
use Rattle.ycheck.specs.Targets.{times_used, default_value, some_values}
use Rattle.ycheck.proofs.CaseLemmas.{numbered_row, no_case}
use Rattle.ycheck.proofs.TargetLemmas.{gathers_none, gathers_same, implied_used, present_used, leaf_used, leaf_list_used, rest_unused, choice_used, case_used, case_unused, stored_unused, absent_used, data_kind, use_next, use_ended}
use Rattle.ycheck.proofs.targets.+in_use.Goals as goal

pub add_absent-returns-then-presence : goal.add_absent-returns-then-presence
add_absent-returns-then-presence t c = λ data_node.
    let n = schema_view.label_of c.args.child in
    let below = schema_view.below_of c.args.child in
    gathers_none c.args.targets.now (times_used (instances_in end) [] (node n below end)) (λ number v here.
    present_used number v n below (sym (ap (λ x. x.kind) c.node.ensures) ∙ (ap kind_view c.in-Container.is ∙ ap spec.container c.if-presence.true)))

pub add_absent-returns-else-presence : goal.add_absent-returns-else-presence
add_absent-returns-else-presence t c =
    let n = schema_view.label_of c.args.child in
    let below = schema_view.below_of c.args.child in
    on_ok_weaker c.add_in_use.result (λ so data_node.
    gathers_same c.args.targets.now c.add_in_use.new.targets (times_used (instances_in end) [] (schema_view.row_view c.children.result)) (times_used (instances_in end) [] (node n below end))
    (λ number v. ap (λ f. times_used (instances_in end) [] f number v) c.children.ensures
    ∙ implied_used number v n below (sym (ap (λ x. x.kind) c.node.ensures) ∙ (ap kind_view c.in-Container.is ∙ ap spec.container c.if-presence.false)))
    (so [] tt (no_case (instances_in end) (schema_view.row_view c.children.result)))) c.add_in_use.ensures

pub add_absent-returns-in-Leaf : goal.add_absent-returns-in-Leaf
add_absent-returns-in-Leaf t c =
    let n = schema_view.label_of c.args.child in
    let below = schema_view.below_of c.args.child in
    let absence = absence_view c.in-Leaf.absence in
    on_ok_weaker c.add_default.result (λ so data_node.
    gathers_same c.args.targets.now c.add_default.new.targets (default_value c.id.result.0 absence) (times_used (instances_in end) [] (node n below end))
    (λ number v. ap (λ m. default_value m absence number v) c.id.ensures
    ∙ leaf_used number v n below (leaf_type_view c.in-Leaf.leaf_type) absence (sym (ap (λ x. x.kind) c.node.ensures) ∙ ap kind_view c.in-Leaf.is)) so) c.add_default.ensures

pub add_absent-returns-in-LeafList : goal.add_absent-returns-in-LeafList
add_absent-returns-in-LeafList t c =
    let n = schema_view.label_of c.args.child in
    let below = schema_view.below_of c.args.child in
    let defaults = c.in-LeafList.defaults.items in
    on_ok_weaker c.add_copies.result (λ so data_node.
    gathers_same c.args.targets.now c.add_copies.new.targets (some_values c.id-in-LeafList.result.0 c.deref.result.now) (times_used (instances_in end) [] (node n below end))
    (λ number v. ap (λ m. some_values m c.deref.result.now number v) c.id-in-LeafList.ensures ∙ (ap (λ vs. some_values n.number vs number v) c.deref.ensures.value
    ∙ leaf_list_used number v n below (leaf_type_view c.in-LeafList.leaf_type) defaults (amount_view c.in-LeafList.amount) (sym (ap (λ x. x.kind) c.node.ensures) ∙ ap kind_view c.in-LeafList.is))) so) c.add_copies.ensures

pub add_absent-returns-in_default : goal.add_absent-returns-in_default
add_absent-returns-in_default t c = λ data_node.
    let n = schema_view.label_of c.args.child in
    let below = schema_view.below_of c.args.child in
    gathers_none c.args.targets.now (times_used (instances_in end) [] (node n below end)) (λ number v here.
    rest_unused number v n below c.node.result.now.kind (sym (ap (λ x. x.kind) c.node.ensures)) data_node c.in_default.not-Container c.in_default.not-Leaf c.in_default.not-LeafList)

pub add_child-returns-in-Choice : goal.add_child-returns-in-Choice
add_child-returns-in-Choice t c =
    let n = schema_view.label_of c.args.child in
    let below = schema_view.below_of c.args.child in
    let inner = schema_view.row_view c.children-cases.result in
    let s = instances_in (document_view.row_view c.args.rest.now) in
    let default_case = number_of c.in-Choice.default_case in
    on_ok_weaker c.add_in_use.result (λ so numbers sorted chooses.
    gathers_same c.args.targets.now c.add_in_use.new.targets (times_used s (or_default default_case (stored_cases s inner)) inner) (times_used s numbers (node n below end))
    (λ number v. ap (λ f. times_used s (or_default default_case (stored_cases s f)) f number v) c.children-cases.ensures
    ∙ choice_used number v s numbers n below default_case c.in-Choice.mandatory (sym (ap (λ x. x.kind) c.node.ensures) ∙ ap kind_view c.in-Choice.is))
    (so (or_default default_case (stored_cases s inner)) sorted
    (c.of-chosen.ensures.chooses s c.children-cases.result.number inner (numbered_row c.children-cases.result) (c.of.ensures sorted)))) c.add_in_use.ensures

pub add_child-returns-in_ok-add_in_use-in-Case : goal.add_child-returns-in_ok-add_in_use-in-Case
add_child-returns-in_ok-add_in_use-in-Case t c = λ numbers sorted chooses.
    let n = schema_view.label_of c.args.child in
    let below = schema_view.below_of c.args.child in
    let inner = schema_view.row_view c.children.result in
    let s = instances_in (document_view.row_view c.args.rest.now) in
    gathers_same c.args.targets.now c.add_in_use-then-has.new.targets (times_used s [] inner) (times_used s numbers (node n below end))
    (λ number v. ap (λ f. times_used s [] f number v) c.children.ensures
    ∙ case_used number v s numbers n below (sym (ap (λ x. x.kind) c.node.ensures) ∙ ap kind_view c.in-Case.is) (chooses.0 ∙ (sym (c.has.ensures sorted) ∙ c.if-has.true)))
    (c.in_ok-add_in_use-in-Case.ensures [] sorted (no_case s inner))

pub add_child-returns-else-has : goal.add_child-returns-else-has
add_child-returns-else-has t c = λ numbers sorted chooses.
    let n = schema_view.label_of c.args.child in
    let below = schema_view.below_of c.args.child in
    let s = instances_in (document_view.row_view c.args.rest.now) in
    gathers_none c.args.targets.now (times_used s numbers (node n below end)) (λ number v here.
    case_unused number v s numbers n below (sym (ap (λ x. x.kind) c.node.ensures) ∙ ap kind_view c.in-Case.is) (chooses.0 ∙ (sym (c.has.ensures sorted) ∙ c.if-has.false)))

pub add_child-returns-in_ok-add_absent-in_default :
    goal.add_child-returns-in_ok-add_absent-in_default
add_child-returns-in_ok-add_absent-in_default t c = λ numbers sorted chooses.
    let n = schema_view.label_of c.args.child in
    let below = schema_view.below_of c.args.child in
    let s = instances_in (document_view.row_view c.args.rest.now) in
    let is_data = sym (ap (λ x. spec.is_data x.kind) c.node.ensures) ∙ data_kind c.node.result.now.kind c.in_default.not-Choice c.in_default.not-Case in
    gathers_same c.args.targets.now c.add_absent.new.targets (times_used (instances_in end) [] (node n below end)) (times_used s numbers (node n below end))
    (λ number v. absent_used number v s numbers n below is_data (sym c.if-not-is_stored.true ∙ (c.is_stored.ensures sorted ∙ ap (λ m. nat_lt 0 (s m)) c.id.ensures)))
    (c.in_ok-add_absent-in_default.ensures is_data)

pub add_child-returns-else-not-is_stored : goal.add_child-returns-else-not-is_stored
add_child-returns-else-not-is_stored t c = λ numbers sorted chooses.
    let n = schema_view.label_of c.args.child in
    let below = schema_view.below_of c.args.child in
    let s = instances_in (document_view.row_view c.args.rest.now) in
    let is_data = sym (ap (λ x. spec.is_data x.kind) c.node.ensures) ∙ data_kind c.node.result.now.kind c.in_default.not-Choice c.in_default.not-Case in
    gathers_none c.args.targets.now (times_used s numbers (node n below end)) (λ number v here.
    stored_unused number v s numbers n below is_data (sym c.if-not-is_stored.false ∙ (c.is_stored.ensures sorted ∙ ap (λ m. nat_lt 0 (s m)) c.id.ensures)))

pub add_in_use-loop-child-preserved : goal.add_in_use-loop-child-preserved
add_in_use-loop-child-preserved t c =
    let child = c.in-Some.child in
    let is = c.in-Some.ensures.steps in
    let f = schema_view.row_view c.args.children in
    let s = instances_in (document_view.row_view c.args.rest.now) in
    record {
      more = tt;
      ends = tt;
      smaller = omega (arith, ap size is, c.loop-child.invariant.smaller);
      uses = λ numbers sorted chooses.
          use_next c.args.chosen (schema_view.row_view c.loop-child.child-iterator) (schema_view.row_view c.next.new.self) (schema_view.below_of child) (schema_view.label_of child)
          c.loop-child.child-iterator.number c.id.result.0 (document_view.row_view c.loop-child.rest.now) (document_view.row_view c.instances_of.result.1.now)
          c.args.targets.now c.loop-child.targets c.add_child.new.targets (times_used s numbers f) numbers (numbered_row c.loop-child.child-iterator)
          is c.id.ensures c.instances_of.ensures.behind c.in_ok-add_child.ensures (c.loop-child.invariant.uses numbers sorted chooses);
    }

pub add_in_use-returns : goal.add_in_use-returns
add_in_use-returns t c = λ numbers sorted chooses.
    let s = instances_in (document_view.row_view c.args.rest.now) in
    use_ended c.args.chosen (schema_view.row_view c.loop-child.child-iterator) (document_view.row_view c.loop-child.rest.now) c.args.targets.now c.loop-child.targets
    (times_used s numbers (schema_view.row_view c.args.children)) numbers c.in-None.ensures.steps.0 (c.loop-child.invariant.uses numbers sorted chooses)
