use Rattle.std.proofs.Common.{◌≡◌, ◌++◌, map, drop, string_bytes}
use Rattle.yapp_profile.specs.Languages as spec
use Rattle.yapp_profile.proofs.LanguageLemmas.{texts_of}
use Rattle.yapp_profile.proofs.language.named_among.Given as goal

abbrev pub invariant-loop-text : goal.invariant-loop-text
invariant-loop-text l = map string_bytes l.names.items ++ spec.named_among (texts_of (drop l.text-index l.texts)) ≡ spec.named_among (texts_of l.texts)
