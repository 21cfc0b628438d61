use Rattle.std.proofs.Common.{◌≡◌, drop}
use Rattle.yapp_profile.specs.Languages.{unfit_choosing}
use Rattle.yapp_profile.proofs.LanguageLemmas.{texts_of}
use Rattle.yapp_profile.proofs.language.first_unfit.Given as goal

abbrev pub invariant-loop-word : goal.invariant-loop-word
invariant-loop-word l = unfit_choosing (texts_of (drop l.word-index l.words)) ≡ unfit_choosing (texts_of l.words)
