use Rattle.std.proofs.Common.{true, ap, ◌∙◌}
use Rattle.std.proofs.lemmas.Result.{IfOk-weaker}
use Rattle.clap.specs.Simple.{app_of_fields, on_top}
use Rattle.yapp_words.specs.Application.{compile_app, edit_app, explain_app, session_app, tree_app, validate_app}
use Rattle.yapp_words.proofs.CommandLemmas.{with_command}
use Rattle.yapp_words.proofs.arguments.application.Goals as goal

pub returns : goal.returns
returns c =
    let top_is = ap app_of_fields c.about.ensures ∙ c.new.ensures.app in
    let version_is = ap app_of_fields c.version.ensures ∙ ap (on_top (λ s. record s { has_version = true })) top_is in
    let without_help_is = ap app_of_fields c.disable_help_subcommand.ensures ∙ ap (on_top (λ s. record s { disable_help_subcommand = true })) version_is in
    let wants_is = ap app_of_fields c.subcommand_required.ensures ∙ ap (on_top (λ s. record s { subcommand_required = true })) without_help_is in
    let none = ap (λ f. f.has_globals) c.subcommand_required.ensures ∙ (ap (λ f. f.has_globals) c.disable_help_subcommand.ensures
    ∙ (ap (λ f. f.has_globals) c.version.ensures ∙ (ap (λ f. f.has_globals) c.about.ensures ∙ c.new.ensures.local))) in
    let compiles = with_command _ compile_app _ _ _ (wants_is, none) c.in_ok-compile_command.ensures c.in_ok-subcommand.ensures in
    let draws = with_command _ tree_app _ _ _ compiles c.in_ok-tree_command.ensures c.in_ok-subcommand-2.ensures in
    let validates = with_command _ validate_app _ _ _ draws c.in_ok-validate_command.ensures c.in_ok-subcommand-3.ensures in
    let edits = with_command _ edit_app _ _ _ validates c.in_ok-edit_command.ensures c.in_ok-subcommand-4.ensures in
    let opens = with_command _ session_app _ _ _ edits c.in_ok-session_command.ensures c.in_ok-subcommand-5.ensures in
    IfOk-weaker c.subcommand-6.result _ _ (λ r added. (with_command _ explain_app _ _ r opens c.in_ok-explain_command.ensures added).0) c.subcommand-6.ensures
