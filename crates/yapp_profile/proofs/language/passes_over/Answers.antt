use Rattle.std.proofs.Common.{ap, ◌∙◌}
use Rattle.std.specs.Prelude.{is_some}
use Rattle.yapp_profile.proofs.LanguageLemmas.{some_text}
use Rattle.yapp_profile.proofs.language.passes_over.Goals as goal

pub returns : goal.returns
returns c = c.is_some.ensures ∙ (some_text c.unjudged_in.result ∙ ap is_some c.unjudged_in.ensures)
