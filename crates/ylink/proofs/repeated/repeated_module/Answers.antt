use Rattle.std.proofs.Common.{◌≡◌, ◌∷◌, ap, map, ◌∙◌, arith, rules, not}
use Rattle.std.specs.List.{list_any}
use Rattle.yspec.specs.text.Text.{is_text}
use Rattle.yspec.specs.schema.Schema.{argument_text}
use Rattle.ytext.specs.View.{view}
use Rattle.ylink_grammar.specs.BreakView.{seen}
use Rattle.ylink.proofs.RepeatedLemmas.{HaveSame, judged_module_name, insert_key-has, contains-texts}
use Rattle.ylink.proofs.repeated.repeated_module.Goals as goal

pub loop-module-preserved : goal.loop-module-preserved
loop-module-preserved c =
    let before = map (λ k. k.now) c.loop-module.names.keys in
    let label = (view c.index-modules-module.result.top).0 in
    let has : HaveSame (map (λ k. k.now) c.insert.new.self.keys) (argument_text label ∷ before) = λ n.
    ap (λ ks. list_any (is_text n) (map (λ k. k.now) ks)) c.in_ok-is_new.ensures.keys
    ∙ (insert_key-has (λ k. k.now) c.loop-module.names.keys c.name_of.result n ∙ ap (λ a. list_any (is_text n) (a ∷ before)) c.name_of.ensures) in
    let fresh : c.in_ok-is_new.is_new ≡ not (list_any (is_text (argument_text label)) before) =
    c.in_ok-is_new.ensures.added ∙ ap not (contains-texts (λ k. k.now) c.loop-module.names.keys c.name_of.result ∙ ap (λ a. list_any (is_text a) before) c.name_of.ensures) in
    judged_module_name before _ c.args.modules.now c.loop-module.module c.index-modules-module.result c.in_ok-is_new.is_new (seen c.loop-module.told) (seen c.least_when-told.result) _
    (omega arith) c.index-modules-module.is fresh has (search rules) c.loop-module.invariant
