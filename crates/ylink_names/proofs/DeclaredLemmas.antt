-- What prefixes are declared to be, statement by statement.
use Rattle.std.proofs.Common.{◌≡◌, ℕ, Bool, true, false, cond, ◌&&◌, Option, Some, None, option_map, refl, ap, ◌∙◌}
use Rattle.yspec.specs.Forest.{Forest, node, first_of}
use Rattle.yspec.specs.text.Text.{Text}
use Rattle.yspec.specs.linking.Keyword.{import_word}
use Rattle.yspec.specs.linking.Imports.{has_prefix, imported_as, module_called}
use Rattle.yspec.specs.linking.Source.{Source, is_source_of, argument_in}
use Rattle.ylink_names.specs.FirstNamedView.{named}
use Rattle.ylink_names.specs.declared.first_named.FirstNamed.{FirstNamed}
use Rattle.ylink_names.specs.PrefixView.{declared_by, imported_by}
use Rattle.ylink_names.proofs.FirstNamedLemmas.{first_more}

abbrev pub imported_in : Forest Source → Text → Forest Source → Option (Option ℕ)
imported_in modules prefix body = option_map (module_called modules) (imported_as prefix body)

imported_first : (modules : Forest Source) (prefix : Text) (s : Source) (below after : Forest Source)
    → imported_in modules prefix (node s below after) ≡ first_of (imported_by modules prefix s below) (imported_in modules prefix after)
imported_first modules prefix s below after = by (is_source_of import_word s && has_prefix prefix below)
  where
    by : (b : Bool) → option_map (module_called modules) (cond b (Some (argument_in s)) (imported_as prefix after))
        ≡ first_of (cond b (Some (module_called modules (argument_in s))) None) (imported_in modules prefix after)
    by true = refl
    by false = refl

pub next_import : (old new : FirstNamed (Option ℕ)) (modules before after below : Forest Source) (s : Source) (prefix : Text) (whole : Option (Option ℕ))
    → before ≡ node s below after → named new prefix ≡ first_of (named old prefix) (imported_by modules prefix s below)
    → first_of (named old prefix) (imported_in modules prefix before) ≡ whole → first_of (named new prefix) (imported_in modules prefix after) ≡ whole
next_import old new modules before after below s prefix whole first added so_far =
    first_more (named old prefix) (named new prefix) (imported_by modules prefix s below) (imported_in modules prefix after) (imported_in modules prefix before) whole
    added (ap (imported_in modules prefix) first ∙ imported_first modules prefix s below after) so_far

-- what a prefix is declared to be in each module
abbrev pub declared_as : Forest Source → Text → ℕ → Forest Source → Option (Option ℕ)
declared_as modules prefix home body = declared_by modules home prefix body
