use Rattle.std.proofs.Common.{arith}
use Rattle.yspec_wide.specs.Types.{schema_node_in}
use Rattle.ybase_preorder.specs.View.{slots_in}
use Rattle.ylink_grammar.specs.LanguageView.{language_view}
use Rattle.yschema_plan.specs.PlanView.{view}
use Rattle.yschema.proofs.MakingLemmas.{ahead, row_stands, row_more, count_more, all_made, all_named}
use Rattle.yschema.proofs.making.slots_of.Goals as goal

pub slot_of-requires-clause-stands : goal.slot_of-requires-clause-stands
slot_of-requires-clause-stands c =
    row_stands c.args.plan.now c.slots-row-items.result.now c.loop-number.number c.row-item.result c.slots-row-items.ensures.rows c.loop-number-test.true c.row-item.is

pub loop-number-preserved : goal.loop-number-preserved
loop-number-preserved c =
    let plan = c.args.plan.now in
    let make = schema_node_in (language_view c.args.language.now) (view plan) in
    let made = c.loop-number.rows.items in
    record {
      counted = count_more made c.push.new.self.items c.in_ok-slot_of.field-0 c.loop-number.number c.in_ok-push.ensures.items c.loop-number.invariant.counted;
      laid = row_more make c.slots-row-items.result.now (slots_in plan.table) c.slots-row-items.ensures.rows c.loop-number.number c.row-item.result
          made c.push.new.self.items c.in_ok-slot_of.field-0 (ahead make 0 (slots_in plan.table)) c.loop-number-test.true c.row-item.is
          c.loop-number.invariant.counted c.in_ok-slot_of.ensures c.in_ok-push.ensures.items c.loop-number.invariant.laid;
    }

pub returns-clause-laid : goal.returns-clause-laid
returns-clause-laid c =
    all_made (language_view c.args.language.now) c.args.plan.now c.slots-row-items.result.now c.loop-number.number c.loop-number.rows.items c.slots-row-items.ensures.rows
    (omega (arith, c.loop-number-test.false)) c.loop-number.invariant.laid

pub returns-clause-names : goal.returns-clause-names
returns-clause-names c =
    all_named (language_view c.args.language.now) c.args.plan.now c.slots-row-items.result.now c.loop-number.number c.loop-number.rows.items c.slots-row-items.ensures.rows
    (omega (arith, c.loop-number-test.false)) c.loop-number.invariant.laid
