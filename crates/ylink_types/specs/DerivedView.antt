-- Those of a set's identities that derive from others, as the specification's.
use Rattle.std.specs.Prelude.{◌≡◌, ◌≤◌, ◌&&◌, ⊤, ℕ, suc, ℤ, pos, Bool, List, [], ◌∷◌, ◌++◌, Option, Some, None, map, filter, option_and_then, slice_get, if◌then◌else◌}
use Rattle.std.specs.List.{list_all, filter_map}
use Rattle.std.specs.BTreeSet.{BTreeSet}
use Rattle.std.specs.declared.alloc.Global.{Global}
use Rattle.std.specs.declared.rc.Rc.{Rc}
use Rattle.yspec.specs.Forest.{Forest, end, node}
use Rattle.yspec.specs.linking.Graph.{Edge}
use Rattle.yspec.specs.linking.Keyword.{base_word, type_word}
use Rattle.yspec.specs.linking.Source.{Source, is_source_of, all_with}
use Rattle.ybase_graph.specs.Derivation.{derives}

-- each is one more than the one before it at least, and the first a number at least
abbrev pub Ascend : ℕ → List ℕ → Type 0
Ascend low [] = ⊤
Ascend low (n ∷ ns) = (low ≤ n) × Ascend (suc n) ns

-- those of some numbers that derive from all of some
abbrev pub derived_among : List Edge → List ℕ → List ℕ → List ℤ
derived_among edges numbers bases = map pos (filter (λ n. list_all (derives edges n) bases) numbers)

abbrev pub set_at : List (Option (Rc (BTreeSet ℤ) Global)) → ℕ → Option (Rc (BTreeSet ℤ) Global)
set_at sets n = option_and_then (λ s. s) (slice_get sets n)

-- what is held of a number are those that derive from it
abbrev pub AreSets : List (Option (Rc (BTreeSet ℤ) Global)) → List Edge → List ℕ → Type 0
AreSets sets edges numbers = (base : ℕ) (s : Rc (BTreeSet ℤ) Global) → set_at sets base ≡ Some s
    → s.value.keys ≡ derived_among edges numbers (base ∷ [])

-- what the `base` statements of a row name, given what the statement of each number does
abbrev pub bases_by : (ℕ → Option ℕ) → Forest Source → List ℕ
bases_by named below = filter_map (λ s. named s.number) (all_with base_word below)

abbrev option_list : Option ℕ → List ℕ
option_list None = []
option_list (Some n) = n ∷ []

-- what a statement names that stands right below a `type` statement, where it is a base
abbrev pub base_by : (ℕ → Option ℕ) → Bool → Source → List ℕ
base_by named in_type s = if in_type && is_source_of base_word s then option_list (named s.number) else []

-- what the `base` statements of types name, of a row that stands right below a `type` statement or not, and below it
unfoldable pub type_bases : (ℕ → Option ℕ) → Bool → Forest Source → List ℕ
type_bases named in_type end = []
type_bases named in_type (node s below after) =
    base_by named in_type s ++ (type_bases named (is_source_of type_word s) below ++ type_bases named in_type after)
