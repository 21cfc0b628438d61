use Rattle.std.proofs.Common.{not, ap, ◌∙◌}
use Rattle.yapp_profile.proofs.LanguageLemmas.{some_words}
use Rattle.yapp_profile.proofs.language.has_words.Goals as goal

pub returns : goal.returns
returns c = ap not c.is_empty.ensures ∙ some_words c.args.words.now
