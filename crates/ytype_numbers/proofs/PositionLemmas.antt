-- The names at positions, by a set of these.
use Rattle.std.proofs.Common.{◌≡◌, ℤ, cond, ◌||◌, List, [], ◌∷◌, refl, ap, ◌∙◌}
use Rattle.std.specs.Prelude.{filter}
use Rattle.std.specs.List.{list_any}
use Rattle.std.specs.Cmp.{int_eq_equiv}
use Rattle.std.specs.Ordering.{int_cmp, int_eq}
use Rattle.std.specs.BTreeSet.{BTreeSet, IsFromIterResult}
use Rattle.yspec.specs.types.Names.{Assigned}
use Rattle.yspec.specs.types.Types.{is_numbered}
use Rattle.yspec.specs.types.Values.{names_at}
use Rattle.ytype_numbers.specs.Positions.{holds_position}

any_turned : (z : ℤ) (ps : List ℤ) → list_any (int_eq z) ps ≡ is_numbered ps z
any_turned z [] = refl
any_turned z (p ∷ ps) = ap (λ b. b || list_any (int_eq z) ps) (int_eq_equiv.symm z p) ∙ ap (λ b. int_eq p z || b) (any_turned z ps)

pub names_held : (set : BTreeSet ℤ) (ps : List ℤ) (names : List Assigned) → IsFromIterResult int_cmp ps set → filter (λ (a : Assigned). holds_position set a.number) names ≡ names_at ps names
names_held set ps [] made = refl
names_held set ps (a ∷ names) made =
    ap (λ b. cond b (a ∷ filter (λ (a : Assigned). holds_position set a.number) names) (filter (λ (a : Assigned). holds_position set a.number) names)) (made.0 a.number ∙ any_turned a.number ps)
    ∙ ap (λ (ns : List Assigned). cond (is_numbered ps a.number) (a ∷ ns) ns) (names_held set ps names made)
