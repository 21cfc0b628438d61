use Rattle.std.proofs.Common.{not, ap, sym, ◌∙◌, is_some}
use Rattle.std.specs.Prelude.{nat_lt}
use Rattle.yspec.specs.linking.Keyword.{leaf_word, leaf_list_word, list_word, choice_word, container_word, presence_word}
use Rattle.yspec.specs.linking.Planned.{stated_in}
use Rattle.ybase_words.specs.KeywordView.{keyword_view}
use Rattle.yschema_plan.specs.PlannedView.{planned_view}
use Rattle.yschema_plan.proofs.FactLemmas.{must_as, both_turned}
use Rattle.yschema_plan.proofs.planned.Planned.must_be.Goals as goal

pub returns-in-Leaf : goal.returns-in-Leaf
returns-in-Leaf c n = c.is_mandatory.ensures n
    ∙ must_as (planned_view n c.args.self.now) c.args.inside leaf_word (ap keyword_view (sym c.in-Leaf.is) ∙ c.keyword.ensures)

pub returns-in-Choice : goal.returns-in-Choice
returns-in-Choice c n = c.is_mandatory-in-Choice.ensures n
    ∙ must_as (planned_view n c.args.self.now) c.args.inside choice_word (ap keyword_view (sym c.in-Choice.is) ∙ c.keyword.ensures)

pub returns-in-LeafList : goal.returns-in-LeafList
returns-in-LeafList c n = ap (nat_lt 0) (c.min_elements.ensures n)
    ∙ must_as (planned_view n c.args.self.now) c.args.inside leaf_list_word (ap keyword_view (sym c.in-LeafList.is) ∙ c.keyword.ensures)

pub returns-in-List : goal.returns-in-List
returns-in-List c n = ap (nat_lt 0) (c.min_elements-in-List.ensures n)
    ∙ must_as (planned_view n c.args.self.now) c.args.inside list_word (ap keyword_view (sym c.in-List.is) ∙ c.keyword.ensures)

pub returns-then-inside : goal.returns-then-inside
returns-then-inside c n =
    let p = planned_view n c.args.self.now in
    ap not (c.has_presence.ensures n) ∙ (both_turned c.args.inside (not (is_some (stated_in presence_word p))) c.if-inside.true
    ∙ must_as p c.args.inside container_word (ap keyword_view (sym c.in-Container.is) ∙ c.keyword.ensures))
