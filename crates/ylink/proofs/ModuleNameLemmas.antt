-- What modules of a set call themselves and others, by the module of a number.
use Rattle.std.proofs.Common.{◌≡◌, ℕ, zero, suc, [], Option, refl, sym, ap, ◌∙◌}
use Rattle.std.specs.Option.{option_map_or}
use Rattle.yspec.specs.Forest.{Forest, end, node}
use Rattle.yspec.specs.linking.Identities.{module_name, names_of, prefixed_in}
use Rattle.yspec.specs.linking.Imports.{body_at}
use Rattle.yspec.specs.linking.Source.{Source, argument_in}
use Rattle.ylink.specs.ModuleView.{module_in}

name_held : (set : Forest Source) (n : ℕ) → module_name set n ≡ option_map_or (λ (m : Source × Forest Source). argument_in m.0) (module_in set n) []
name_held end n = refl
name_held (node s below after) zero = refl
name_held (node s below after) (suc n) = name_held after n

body_held : (set : Forest Source) (n : ℕ) → body_at set n ≡ option_map_or (λ (m : Source × Forest Source). m.1) (module_in set n) end
body_held end n = refl
body_held (node s below after) zero = refl
body_held (node s below after) (suc n) = body_held after n

module _ (set : Forest Source) (n : ℕ) where
  pub module_called_so : (o : Option (Source × Forest Source)) → o ≡ module_in set n
      → option_map_or (λ (m : Source × Forest Source). argument_in m.0) o [] ≡ module_name set n
  module_called_so o is = ap (λ m. option_map_or (λ (m : Source × Forest Source). argument_in m.0) m []) is ∙ sym (name_held set n)

  pub prefixed_so : (o : Option (Source × Forest Source)) → o ≡ module_in set n
      → prefixed_in (option_map_or (λ (m : Source × Forest Source). argument_in m.0) o []) (option_map_or (λ (m : Source × Forest Source). m.1) o end)
      ≡ (names_of set n).prefixed
  prefixed_so o is =
      ap (λ m. prefixed_in (option_map_or (λ (m : Source × Forest Source). argument_in m.0) m []) (option_map_or (λ (m : Source × Forest Source). m.1) m end)) is
      ∙ (ap (λ name. prefixed_in name (option_map_or (λ (m : Source × Forest Source). m.1) (module_in set n) end)) (sym (name_held set n))
      ∙ ap (prefixed_in (module_name set n)) (sym (body_held set n)))
