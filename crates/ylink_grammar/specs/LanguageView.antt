-- The language as the specification's.
use Rattle.std.specs.Prelude.{map, string_bytes}
use Rattle.yspec_wide.specs.Language as spec
use Rattle.ylink_grammar.specs.declared.language.Choosing.{Choosing}
use Rattle.ylink_grammar.specs.declared.language.Unjudged.{Unjudged}
use Rattle.ylink_grammar.specs.declared.language.Wide.{Wide}
use Rattle.ylink_grammar.specs.declared.language.Language.{Language}
use Rattle.ylink_grammar.specs.declared.language.Language.TheVariants as languages

abbrev pub choosing_view : Choosing → spec.Choosing
choosing_view c = record { module_name = string_bytes c.module_name; features = map string_bytes c.features.items }

abbrev pub unjudged_view : Unjudged → spec.Unjudged
unjudged_view u = record { musts = u.musts; whens = u.whens }

abbrev pub wide_view : Wide → spec.Wide
wide_view w = record { choosings = map choosing_view w.choosings.items; unjudged = unjudged_view w.unjudged }

abbrev pub language_view : Language → spec.Language
language_view languages.Core = spec.core
language_view (languages.Rfc wide) = spec.rfc (wide_view wide)
