use Rattle.std.proofs.Common.{◌≡◌, true, false, cond, [], ◌∷◌, ◌++◌, map, sym, ap, ◌∙◌}
use Rattle.std.proofs.lemmas.List.{append-nil, map-append}
use Rattle.yspec_wide.specs.Sources.{is_condition}
use Rattle.ylink_grammar.specs.LanguageView.{language_view}
use Rattle.ylink_grammar.specs.SourceView.{source_view}
use Rattle.ylink_features.specs.AskedView.{asked, asked_view}
use Rattle.ylink_features.proofs.asked.add_one.Goals as goal

pub returns-then-not-is_condition : goal.returns-then-not-is_condition
returns-then-not-is_condition c modules number means =
    let language = language_view c.args.meaning.now.language.now in
    let s = source_view number c.args.statement.now in
    let so_far = map asked_view c.args.made.now.items in
    let none : is_condition language s ≡ false = sym (c.is_condition.ensures number) ∙ c.if-not-is_condition.true in
    sym (ap (λ b. so_far ++ cond b (asked language modules c.args.above s ∷ []) []) none ∙ append-nil so_far)

pub returns : goal.returns
returns c modules number means =
    let language = language_view c.args.meaning.now.language.now in
    let s = source_view number c.args.statement.now in
    let so_far = map asked_view c.args.made.now.items in
    let one : is_condition language s ≡ true = sym (c.is_condition.ensures number) ∙ c.if-not-is_condition.false in
    ap (map asked_view) c.in_ok-push.ensures.items
    ∙ (map-append asked_view c.args.made.now.items (c.in_ok-asked.asked ∷ [])
    ∙ (ap (λ a. so_far ++ a ∷ []) (c.in_ok-asked.ensures modules number means)
    ∙ sym (ap (λ b. so_far ++ cond b (asked language modules c.args.above s ∷ []) []) one)))
