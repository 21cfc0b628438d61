-- The language in which modules are read, and the version of YANG of each (RFC 7950, 1.1, 7.1.2, 7.20.1 and 12).
use Rattle.std.specs.Prelude.{ℕ, Bool, true, false, List, codes, find, Option, Some, None, if◌then◌else◌}
use Rattle.std.specs.List.{list_any}
use Rattle.std.specs.Option.{option_map_or}
use Rattle.yspec.specs.Forest.{Forest, row}
use Rattle.yspec.specs.text.Text.{Text, is_text}
use Rattle.yspec.specs.text.Statement.{Statement}
use Rattle.yspec.specs.linking.Keyword.{yang_version_word}
use Rattle.yspec.specs.linking.Source.{Source, argument_with}
use Rattle.yspec.specs.linking.Imports.{body_at}
use Rattle.yspec.specs.linking.StatementBreaks.{has_keyword}

-- the features of a module that are chosen
pub record Choosing : Type 0 where
  pub module_name : Text
  pub features : List Text

-- which conditions are read and not judged: `must`, and `when` (RFC 7950, 7.5.3 and 7.21.5)
pub record Unjudged : Type 0 where
  pub musts : Bool
  pub whens : Bool

-- what is chosen of the wide language: features, of each module that is named, and conditions that aren't judged
pub record Wide : Type 0 where
  pub choosings : List Choosing
  pub unjudged : Unjudged

pub data Language : Type 0 where
  -- YANG 1.1 without features
  core : Language
  -- YANG 1 and YANG 1.1
  rfc : Wide → Language

abbrev pub none_unjudged : Unjudged
none_unjudged = record { musts = false; whens = false }

-- with features alone
abbrev pub rfc_with : List Choosing → Language
rfc_with choosings = rfc (record { choosings = choosings; unjudged = none_unjudged })

-- whether a feature of a module is chosen: of a module that isn't named all are
abbrev pub is_chosen_of : List Choosing → Text → Text → Bool
is_chosen_of choosings module_name feature =
    option_map_or (λ c. list_any (is_text feature) c.features) (find (λ c. is_text module_name c.module_name) choosings) true

abbrev pub is_chosen : Language → Text → Text → Bool
is_chosen core module_name feature = false
is_chosen (rfc wide) module_name feature = is_chosen_of wide.choosings module_name feature

-- ---- versions

pub data YangVersion : Type 0 where
  -- RFC 6020
  yang_1 : YangVersion
  -- RFC 7950
  yang_1_1 : YangVersion

abbrev pub is_yang_1 : YangVersion → Bool
is_yang_1 yang_1 = true
is_yang_1 yang_1_1 = false

-- the version that an argument of `yang-version` names
abbrev pub version_named : Text → YangVersion
version_named t = if is_text t (codes "1.1") then yang_1_1 else yang_1

-- A module without `yang-version` is one of YANG 1.
abbrev pub version_stated : Option Text → YangVersion
version_stated stated = option_map_or version_named stated yang_1

abbrev pub argument_of_version : Option Statement → Option Text
argument_of_version None = None
argument_of_version (Some s) = s.argument

-- that of a module, by what stands below its `module` statement
abbrev pub version_below : Forest Statement → YangVersion
version_below below = version_stated (argument_of_version (find (has_keyword yang_version_word) (row below)))

-- that of the module of a number in the set; under the core every module is one of YANG 1.1
abbrev pub version_of : Language → Forest Source → ℕ → YangVersion
version_of core modules home = yang_1_1
version_of (rfc wide) modules home = version_stated (argument_with yang_version_word (body_at modules home))
