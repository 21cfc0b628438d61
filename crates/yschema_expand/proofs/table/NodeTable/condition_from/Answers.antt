use Rattle.std.proofs.Common.{◌∙◌, arith, length, sym, ap}
use Rattle.yspec.specs.linking.Parts.{own_of}
use Rattle.ybase_preorder.specs.View.{row_by}
use Rattle.ylink_grammar.specs.LanguageView.{language_view}
use Rattle.ylink_grammar.specs.SourceView.{source_view}
use Rattle.yschema_expand.specs.TableView.{parts_in, slots_of}
use Rattle.yschema_expand.proofs.ConditionLemmas.{all_conditioned, below_within, length_changed, length_lying, next_conditioned, none_yet}
use Rattle.yschema_expand.proofs.table.NodeTable.condition_from.Goals as goal

pub loop-below-init : goal.loop-below-init
loop-below-init c = λ earlier parent f count is.
    none_yet (language_view c.args.language.now) (own_of (row_by source_view c.args.given)) earlier parent c.args.first f (parts_in c.args.self.now) count is

pub loop-below-smaller : goal.loop-below-smaller
loop-below-smaller c =
    let old = slots_of c.loop-below.self in
    let new = slots_of c.condition.new.self in
    let within = below_within old c.loop-below.number c.in-Some.below (sym c.below.ensures ∙ c.in-Some.is) in
    let same = sym (length_lying new) ∙ (ap length c.in_ok-condition.ensures ∙ (length_changed c.loop-below.number _ (parts_in c.loop-below.self) ∙ length_lying old)) in
    let few = c.loop-below.self.numbered in
    let count = c.loop-below.self.slots.ok.0 in
    omega (arith, within, same, few, count, c.saturating_add.ensures, c.saturating_add-number.ensures)

pub loop-below-preserved : goal.loop-below-preserved
loop-below-preserved c = λ earlier parent f count is.
    let few = c.loop-below.self.numbered in
    let long = c.loop-below.self.slots.ok.0 in
    next_conditioned (language_view c.args.language.now) (own_of (row_by source_view c.args.given)) earlier parent c.args.first f
    c.loop-below.number _ c.in-Some.below (slots_of c.loop-below.self) (parts_in c.condition.new.self) (c.loop-below.invariant earlier parent f count is)
    (sym c.below.ensures ∙ c.in-Some.is) c.in_ok-condition.ensures
    (λ within. omega (arith, within, few, long, c.saturating_add.ensures, c.saturating_add-number.ensures))

pub returns : goal.returns
returns c = λ earlier parent f count is.
    all_conditioned (language_view c.args.language.now) (own_of (row_by source_view c.args.given)) earlier parent c.args.first f
    c.loop-below.number (slots_of c.loop-below.self) (c.loop-below.invariant earlier parent f count is) (sym c.below.ensures ∙ c.in_default.is)
