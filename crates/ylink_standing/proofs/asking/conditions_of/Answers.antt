use Rattle.std.proofs.Common.{◌+◌, [], ◌∷◌, length, ap, ◌∙◌, arith}
use Rattle.std.proofs.lemmas.List.{length-append}
use Rattle.ybase_preorder.specs.View.{slots_in}
use Rattle.ylink_grammar.specs.LanguageView.{language_view}
use Rattle.ylink_grammar.specs.LinkView.{view}
use Rattle.ylink_standing.proofs.AskingLemmas.{filled_next, filled_all}
use Rattle.ylink_standing.proofs.asking.conditions_of.Goals as goal

pub loop-row-init : goal.loop-row-init
loop-row-init c = record {
  count = ap length c.new-conditions.ensures.items;
  asked = λ n before. absurd (omega (arith, before));
}

pub loop-row-preserved : goal.loop-row-preserved
loop-row-preserved c =
    let rows = slots_in c.args.sources.now.table in
    let language = language_view c.args.language.now in
    let i = c.loop-row.row-index in
    let table = c.loop-row.conditions.items in
    let long = c.loop-row.invariant.count in
    let asked = c.in_ok-asked.asked in
    record {
      count = ap length c.in_ok-push.ensures.items ∙ (length-append table (asked ∷ []) ∙ ap (λ n. n + 1) long);
      asked = filled_next rows language table c.push.new.self.items i asked c.slots-row-items.result.now c.row-item.result c.slots-row-items.ensures (omega arith)
          c.row-item.is long c.in_ok-push.ensures.items
          (c.in_ok-asked.ensures (view c.args.sources.now)
          (record { prefixes_are = c.requires.prefixes; features_are = c.requires.features }) c.requires.versions i)
          c.loop-row.invariant.asked;
    }

pub returns : goal.returns
returns c =
    let rows = slots_in c.args.sources.now.table in
    let past = ap length c.slots-row-items.ensures in
    filled_all rows (language_view c.args.language.now) c.loop-row.conditions.items c.loop-row.row-index
    (omega (arith, past)) c.loop-row.invariant.asked
