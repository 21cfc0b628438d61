-- Patterns that take whole texts, as callers see them.
use Rattle.std.specs.Prelude.{◌≡◌, Option, Some, None, ⊤}
use Rattle.regex_hir.specs.Re.{Re}
use Rattle.regex_hir.specs.Meaning.{meaning}
use Rattle.yspec_patterns.specs.Pattern as spec
use Rattle.ytype_patterns.specs.Means.{Means, to_end}
use Rattle.ytype_patterns.specs.declared.pattern.Pattern.{Pattern}
use Rattle.ytype_patterns.specs.declared.whole.Whole.{Whole}

-- it has to match to the end what this matches
abbrev pub IsWhole : Whole → Re → Type 0
IsWhole w re = meaning w.tree ≡ to_end re

-- it takes the texts of this pattern
abbrev pub IsOf : Pattern → spec.Pattern → Type 0
IsOf made p = (re : Re) × IsWhole made.whole re × Means re p

-- what a text is read as, by the pattern that it spells
abbrev pub Reads : Option Pattern → Option spec.Pattern → Type 0
Reads (Some made) (Some p) = IsOf made p
Reads None None = ⊤
Reads (Some made) None = ⊥
Reads None (Some p) = ⊥
