-- Of the names of built-in types.
use Rattle.std.proofs.Common.{◌≡◌, Bool, true, false, cond, List, [], ◌∷◌, map, Option, Some, refl, sym, ◌∙◌, ap}
use Rattle.std.specs.Prelude.{find, option_map}
use Rattle.std.proofs.lemmas.Slice.Eq.{bytes_eq-Decides}
use Rattle.yspec.specs.text.Text.{Text, is_text}
use Rattle.yspec.specs.linking.TypeStatements.{BuiltIn, built_in_name, built_in_named, named_so, all_built_in}

found_so : (t : Text) (types : List BuiltIn) (b : BuiltIn)
    → option_map (λ (entry : Text × BuiltIn). entry.1) (find (λ entry. is_text t entry.0) (map named_so types)) ≡ Some b → built_in_name b ≡ t
found_so t [] b e = absurd cc
found_so t (first ∷ types) b e = by (is_text t (built_in_name first)) refl (found_so t types b) e
  where
    rest : Option (Text × BuiltIn)
    rest = find (λ entry. is_text t entry.0) (map named_so types)

    by : (found : Bool) → is_text t (built_in_name first) ≡ found
        → (option_map (λ (entry : Text × BuiltIn). entry.1) rest ≡ Some b → built_in_name b ≡ t)
        → option_map (λ (entry : Text × BuiltIn). entry.1) (cond found (Some (named_so first)) rest) ≡ Some b → built_in_name b ≡ t
    by true same others e =
        let is : first ≡ b = cc in sym ((bytes_eq-Decides t (built_in_name first)).0 same ∙ ap built_in_name is)
    by false same others e = others e

-- the type that a text names has it as its name
pub name_of_named : (t : Text) (b : BuiltIn) → built_in_named t ≡ Some b → built_in_name b ≡ t
unfolding built_in_named
name_of_named t b e = found_so t all_built_in b e
