use Rattle.std.proofs.Common.{◌≡◌, ◌++◌, map, drop}
use Rattle.ylink_grammar.specs.LanguageView.{choosing_view}
use Rattle.yapp_profile.specs.Languages.{choosing_of}
use Rattle.yapp_profile.proofs.LanguageLemmas.{texts_of}
use Rattle.yapp_profile.proofs.language.all_chosen.Given as goal

abbrev pub invariant-loop-word : goal.invariant-loop-word
invariant-loop-word l = map choosing_view l.choosings.items ++ map choosing_of (texts_of (drop l.word-index l.words)) ≡ map choosing_of (texts_of l.words)
