use Rattle.std.proofs.Common.{codes}
use Rattle.std.proofs.lemmas.Result.{IfOk-weaker}
use Rattle.yapp_words.specs.Application.{flag, letter_p, option, repeated, repeated_letter}
use Rattle.yapp_words.proofs.CommandLemmas.{told_command, with_argument}
use Rattle.yapp_words.proofs.arguments.command_over_files.Goals as goal

pub returns : goal.returns
returns c =
    let bare = told_command c.args.name.now c.new.result c.about.result c.after_help.result _ _ c.new.ensures.app c.new.ensures.local c.about.ensures c.after_help.ensures in
    let explain = with_argument _ (flag (codes "explain")) _ _ _ bare c.explain_argument.ensures c.in_ok-arg.ensures in
    let profile = with_argument _ (option (codes "profile")) _ _ _ explain c.profile_argument.ensures c.in_ok-arg-2.ensures in
    let features = with_argument _ (repeated (codes "features")) _ _ _ profile c.features_argument.ensures c.in_ok-arg-3.ensures in
    let unjudged = with_argument _ (option (codes "unjudged")) _ _ _ features c.unjudged_argument.ensures c.in_ok-arg-4.ensures in
    IfOk-weaker c.arg-5.result _ _ (λ r added. with_argument _ (repeated_letter (codes "folders") letter_p) _ r _ unjudged c.folders_argument.ensures added) c.arg-5.ensures
