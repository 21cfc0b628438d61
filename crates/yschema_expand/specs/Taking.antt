-- Which nodes may take what an augment states.
use Rattle.std.specs.Prelude.{◌&&◌, ℕ, Bool, not, is_some, if◌then◌else◌}
use Rattle.yspec.specs.Forest.{Forest}
use Rattle.yspec.specs.linking.Keyword.{Keyword, same_keyword}
use Rattle.yspec.specs.linking.Keyword as word
use Rattle.yspec.specs.linking.Source.{Source, first_with}
use Rattle.yspec.specs.linking.Augments.{may_be_augmented}
use Rattle.yspec_wide.specs.Language.{Language, is_yang_1, version_of}
use Rattle.yspec_wide.specs.Expansion.{is_closed}

-- in which language an augment is read, and whether its module is one of YANG 1
pub record Asking : Type 0 where
  pub language : Language
  pub is_old : Bool

-- that of one in the module of a number
abbrev pub asking_in : Language → Forest Source → ℕ → Asking
asking_in language modules home = record { language = language; is_old = is_yang_1 (version_of language modules home) }

-- whether a node of a keyword may take what an augment states, given whether that stands in a module of YANG 1
abbrev pub may_take : Bool → Keyword → Forest Source → Bool
may_take old k given = may_be_augmented k
    && (not (is_some (first_with (if same_keyword word.choice_word k then word.uses_word else word.case_word) given))
    && not (old && (same_keyword word.choice_word k && is_some (first_with word.choice_word given))))

abbrev pub may_hold : Asking → Source → Forest Source → Bool
may_hold asking s given = may_take asking.is_old s.keyword given && not (is_closed asking.language given s)
