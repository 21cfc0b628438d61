use Rattle.std.proofs.Common.{◌∙◌, sym}
use Rattle.std.specs.String.{string_bytes}
use Rattle.std.proofs.lemmas.Result.{IfOk-weaker}
use Rattle.ytype_simple.proofs.IdentityLemmas.{members_kept}
use Rattle.ytype.proofs.members.members_in.Goals as goal

pub returns-else-have_identity : goal.returns-else-have_identity
returns-else-have_identity c =
    let home = string_bytes c.args.home.now.value in
    IfOk-weaker c.clone.result _ _ (λ copy so. so ∙ members_kept home c.args.members.now (sym c.have_identity.ensures ∙ c.if-have_identity.false)) c.clone.ensures
