-- What documents rest on of a schema: facts of every schema that compiles, and of what such a one asks of configuration alone.
use Rattle.std.specs.Prelude.{◌≡◌, ◌≤◌, ℕ, suc, ◌&&◌, Bool, true, false, List, [], ◌∷◌, length, nat_le}
use Rattle.std.specs.List.{AllByRecursion}
use Rattle.yspec.specs.Forest.{Forest, end, node, levels, size}
use Rattle.yspec.specs.schema.Breaks.{level_limit, low_level_limit, node_limit}
use Rattle.yspec.specs.schema.Schema.{Schema, SchemaNode, Kind, has_anything, list, choice, case, LeafPath, Augment, augments_in}
use Rattle.yspec.specs.document.Fitting.{LeafsAreBare}
use Rattle.yspec.specs.document.Writing.{ModulesDiffer, NamesDiffer, NodesAreNamed}

-- ---- choices and cases (RFC 7950, 7.9)

abbrev pub is_choice : Kind → Bool
is_choice (choice default_case is_mandatory) = true
is_choice _ = false

abbrev pub is_case : Kind → Bool
is_case case = true
is_case _ = false

-- a case stands right below a choice; whether the row does is given
abbrev pub CasesInChoices : Bool → Forest SchemaNode → Type 0
CasesInChoices in_choice end = Unit {0}
CasesInChoices in_choice (node n below after) = (is_case n.kind ≡ true → in_choice ≡ true)
    × CasesInChoices (is_choice n.kind) below × CasesInChoices in_choice after

-- a row of cases alone
abbrev pub AreCases : Forest SchemaNode → Type 0
AreCases end = Unit {0}
AreCases (node n below after) = (is_case n.kind ≡ true) × AreCases after

abbrev pub HoldCases : Kind → Forest SchemaNode → Type 0
HoldCases (choice default_case is_mandatory) below = AreCases below
HoldCases _ below = Unit {0}

-- and right below a choice stands nothing else
abbrev pub ChoicesHoldCases : Forest SchemaNode → Type 0
ChoicesHoldCases end = Unit {0}
ChoicesHoldCases (node n below after) = HoldCases n.kind below × ChoicesHoldCases below × ChoicesHoldCases after

-- ---- paths of `unique` (RFC 7950, 7.8.3)

-- each node of a forest
abbrev pub Each : {L : Type 0} → (L → Type 0) → Forest L → Type 0
Each P end = Unit {0}
Each P (node l below after) = P l × Each P below × Each P after

-- no path has more steps than there may be at most
abbrev pub PathsWithin : ℕ → Kind → Type 0
PathsWithin most (list tuples amount) = AllByRecursion (AllByRecursion (λ (path : LeafPath). length path ≤ most)) tuples.uniques
PathsWithin most _ = Unit {0}

-- ---- augments (RFC 7950, 7.17)

-- whether numbers ascend, from a least one on
abbrev pub ascends_from : ℕ → List ℕ → Bool
ascends_from least [] = true
ascends_from least (n ∷ ns) = nat_le least n && ascends_from (suc n) ns

-- whether so do those of the nodes of each augment
abbrev pub all_ascend : List Augment → Bool
all_ascend [] = true
all_ascend (a ∷ others) = ascends_from 0 a.nodes && all_ascend others

-- ---- a schema

pub record IsFit (schema : Schema) : Type 0 where
  -- below a leaf and a leaf-list stands nothing
  pub bare : LeafsAreBare schema.nodes
  -- names of modules, of siblings as documents write them, and of nodes
  pub modules_differ : ModulesDiffer schema
  pub names_differ : NamesDiffer schema
  pub named : NodesAreNamed schema schema.nodes
  pub few : size schema.nodes ≤ node_limit
  pub within : levels schema.nodes ≤ level_limit
  -- values nest below those that are low enough
  pub low : has_anything schema.nodes ≡ true → levels schema.nodes ≤ low_level_limit
  pub cases_in_choices : CasesInChoices false schema.nodes
  pub choices_hold_cases : ChoicesHoldCases schema.nodes
  -- a path has no more steps than the schema has levels
  pub paths_within : Each (λ n. PathsWithin (levels schema.nodes) n.kind) schema.nodes
  pub augments_ascend : (m : ℕ) → all_ascend (augments_in schema m) ≡ true
