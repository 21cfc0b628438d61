-- How often parts are repeated as the specification's.
use Rattle.std.specs.Prelude.{ℕ, List, reverse}
use Rattle.yspec_patterns.specs.Sizes as spec
use Rattle.ytype_patterns.specs.declared.copies.Copies.{Copies}

-- the innermost group first
abbrev pub around_view : List ℕ → List ℕ
around_view around = reverse around

abbrev pub copies_view : Copies → spec.Copies
copies_view copies = (copies.here, around_view copies.around.items)
