use Rattle.std.proofs.Common.{not, ◌&&◌, is_some, ap, sym, ◌∙◌}
use Rattle.yspec.specs.linking.Keyword.{same_keyword, list_word, key_word}
use Rattle.yspec.specs.linking.Planned.{stated_in}
use Rattle.yspec.proofs.BasicLemmas.{is_some_map}
use Rattle.ybase_words.specs.KeywordView.{keyword_view}
use Rattle.yschema_plan.specs.PlannedView.{planned_view}
use Rattle.yschema_resolve.proofs.ConfigLemmas.{not_not}
use Rattle.yschema_resolve.proofs.config.lacks_key.Goals as goal

pub returns-in-List : goal.returns-in-List
returns-in-List c = λ number.
    not_not c.is_none.result ∙ (ap not (sym c.is_none.ensures ∙ (is_some_map (λ t. t.now) c.own_argument.result ∙ ap is_some (c.own_argument.ensures number)))
    ∙ ap (λ w. same_keyword list_word w && not (is_some (stated_in key_word (planned_view number c.args.planned.now)))) (ap keyword_view (sym c.in-List.is) ∙ c.keyword.ensures))
