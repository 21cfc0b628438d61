-- Every schema that compiles is fit, so is what it asks of configuration alone, and what is fit has each fact.
use Rattle.std.proofs.Common.{◌≡◌, ℕ, ◌≤◌, Bool, true, false, cond, Option, Some, None, refl, sym, ◌∙◌, subst}
use mathlib.Core.Path.{path_j}
use mathlib.Core.Logic.{∥∥₁_elim}
use mathlib.Core.HLevel.{⊥_prop, ×₃_prop}
use Rattle.std.specs.Coded.{Coded-set, coded_ℕ, coded_bool, ×_prop, Π_prop, →_prop, Unit-prop, le_prop}
use Rattle.yspec.specs.Forest.{Forest, end, node, levels, size}
use Rattle.yspec.specs.text.Text.{Text}
use Rattle.yspec.specs.schema.Schema.{Schema, SchemaNode, Kind, augments_in, data_row, written_name, has_anything}
use Rattle.yspec.specs.schema.Configuration.{configuration_schema}
use Rattle.yspec.specs.schema.Breaks.{level_limit, low_level_limit, node_limit}
use Rattle.yspec.specs.document.Fitting.{IsBare, LeafsAreBare}
use Rattle.yspec.specs.document.Writing.{NodesAreNamed, ModulesDiffer, IsNew, RowDiffers, AllDiffer, NamesDiffer}
use Rattle.yspec.specs.linking.Compiling.{IsCompiled}
use Rattle.yspec.proofs.LinkingProofs.LinkedLemmas.{linked_bare, linked_few, linked_within}
use Rattle.yspec.proofs.LinkingProofs.LinkedNameLemmas.{linked_names, linked_modules, linked_nodes}
use Rattle.yspec_fit.specs.Fit.{CasesInChoices, ChoicesHoldCases, Each, PathsWithin, all_ascend, IsFit}
use Rattle.yspec_fit.proofs.AscendingLemmas.{compiled_ascend}
use Rattle.yspec_fit.proofs.ChoiceLemmas.{linked_choices, hold-prop, hold_kept}
use Rattle.yspec_fit.proofs.ConfigurationLemmas.{bare_kept, names_kept, named_kept, size_kept, levels_kept, anything_kept}
use Rattle.yspec_fit.proofs.AnythingLemmas.{linked_anything}
use Rattle.yspec_fit.proofs.PathLemmas.{linked_paths, each_within-prop, paths_kept}
use Rattle.yspec_fit.proofs.PlacedLemmas.{linked_cases, cases-prop, cases_kept}

-- ---- what compiles

pub compiled_is_fit : (s : Schema) → IsCompiled s → IsFit s
compiled_is_fit s c = record {
  bare = linked_bare c.0 s c.1;
  modules_differ = linked_modules c.0 s c.1;
  names_differ = linked_names c.0 s c.1;
  named = linked_nodes c.0 s c.1;
  few = linked_few c.0 s c.1;
  within = linked_within c.0 s c.1;
  low = λ some. let none = linked_anything c.0 s c.1 in absurd cc;
  cases_in_choices = linked_cases c.0 s c.1;
  choices_hold_cases = linked_choices c.0 s c.1;
  paths_within = linked_paths c.0 s c.1;
  augments_ascend = λ m. compiled_ascend s m c;
}

pub configuration_is_fit : (s : Schema) → IsFit s → IsFit (configuration_schema s)
configuration_is_fit s fit = record {
  bare = bare_kept s fit.bare;
  modules_differ = fit.modules_differ;
  names_differ = names_kept s fit.names_differ;
  named = named_kept s fit.named;
  few = size_kept node_limit s fit.few;
  within = levels_kept level_limit s fit.within;
  low = λ some. levels_kept low_level_limit s (fit.low (sym (anything_kept s.nodes) ∙ some));
  cases_in_choices = cases_kept false s.nodes fit.cases_in_choices;
  choices_hold_cases = hold_kept s.nodes fit.choices_hold_cases;
  paths_within = paths_kept s fit.paths_within;
  augments_ascend = fit.augments_ascend;
}

-- ---- each fact has one proof at most

-- a row without nodes is so in one way
EndsOnce : (f : Forest SchemaNode) → end ≡ f → Type 0
EndsOnce end p = p ≡ refl
EndsOnce (node n below after) p = Unit {0}

ends_once : (f : Forest SchemaNode) (p : end ≡ f) → EndsOnce f p
unfolding EndsOnce
ends_once f p = path_j EndsOnce refl p

end_prop : (f : Forest SchemaNode) → IsProp (f ≡ end)
unfolding EndsOnce
end_prop end p q = ends_once end p ∙ sym (ends_once end q)
end_prop (node n below after) p q = absurd cc

is_bare-prop : (k : Kind) (f : Forest SchemaNode) → IsProp (IsBare k f)
is_bare-prop k f = →_prop (end_prop f)

leafs_bare-prop : (f : Forest SchemaNode) → IsProp (LeafsAreBare f)
leafs_bare-prop end = Unit-prop
leafs_bare-prop (node n below after) = ×₃_prop (is_bare-prop n.kind below) (leafs_bare-prop below) (leafs_bare-prop after)

is_new-prop : (s : Schema) (parent : Option ℕ) (name : Text) (f : Forest SchemaNode) → IsProp (IsNew s parent name f)
is_new-prop s parent name end = Unit-prop
is_new-prop s parent name (node n below after) = ×_prop (→_prop ⊥_prop) (is_new-prop s parent name after)

row_differs-prop : (s : Schema) (parent : Option ℕ) (f : Forest SchemaNode) → IsProp (RowDiffers s parent f)
row_differs-prop s parent end = Unit-prop
row_differs-prop s parent (node n below after) =
    ×_prop (is_new-prop s parent (written_name s parent n) after) (row_differs-prop s parent after)

all_differ-prop : (s : Schema) (f : Forest SchemaNode) → IsProp (AllDiffer s f)
all_differ-prop s end = Unit-prop
all_differ-prop s (node n below after) =
    ×₃_prop (→_prop (row_differs-prop s (Some n.module_number) (data_row below))) (all_differ-prop s below) (all_differ-prop s after)

names_differ-prop : (s : Schema) → IsProp (NamesDiffer s)
names_differ-prop s = ×_prop (row_differs-prop s None (data_row s.nodes)) (all_differ-prop s s.nodes)

nodes_named-prop : (s : Schema) (f : Forest SchemaNode) → IsProp (NodesAreNamed s f)
nodes_named-prop s end = Unit-prop
nodes_named-prop s (node n below after) =
    ×₃_prop (×_prop (Coded-set coded_bool _ _) le_prop) (nodes_named-prop s below) (nodes_named-prop s after)

modules_differ-prop : (s : Schema) → IsProp (ModulesDiffer s)
modules_differ-prop s = Π_prop (λ i. Π_prop (λ j. →_prop (→_prop (×_prop (Coded-set coded_bool _ _) (→_prop (Coded-set coded_ℕ _ _))))))

-- ---- what is fit has each fact

pub leafs_bare_of : (s : Schema) → ∥ IsFit s ∥₁ → LeafsAreBare s.nodes
leafs_bare_of s fit = ∥∥₁_elim fit (leafs_bare-prop s.nodes) (λ f. f.bare)

pub names_differ_of : (s : Schema) → ∥ IsFit s ∥₁ → NamesDiffer s
names_differ_of s fit = ∥∥₁_elim fit (names_differ-prop s) (λ f. f.names_differ)

pub modules_differ_of : (s : Schema) → ∥ IsFit s ∥₁ → ModulesDiffer s
modules_differ_of s fit = ∥∥₁_elim fit (modules_differ-prop s) (λ f. f.modules_differ)

pub nodes_named_of : (s : Schema) → ∥ IsFit s ∥₁ → NodesAreNamed s s.nodes
nodes_named_of s fit = ∥∥₁_elim fit (nodes_named-prop s s.nodes) (λ f. f.named)

pub size_of : (s : Schema) → ∥ IsFit s ∥₁ → size s.nodes ≤ node_limit
size_of s fit = ∥∥₁_elim fit le_prop (λ f. f.few)

pub levels_of : (s : Schema) → ∥ IsFit s ∥₁ → levels s.nodes ≤ level_limit
levels_of s fit = ∥∥₁_elim fit le_prop (λ f. f.within)

pub low_of : (s : Schema) → ∥ IsFit s ∥₁ → has_anything s.nodes ≡ true → levels s.nodes ≤ low_level_limit
low_of s fit = ∥∥₁_elim fit (→_prop le_prop) (λ f. f.low)

pub cases_of : (s : Schema) → ∥ IsFit s ∥₁ → CasesInChoices false s.nodes
cases_of s fit = ∥∥₁_elim fit (cases-prop false s.nodes) (λ f. f.cases_in_choices)

pub choices_of : (s : Schema) → ∥ IsFit s ∥₁ → ChoicesHoldCases s.nodes
choices_of s fit = ∥∥₁_elim fit (hold-prop s.nodes) (λ f. f.choices_hold_cases)

pub paths_of : (s : Schema) → ∥ IsFit s ∥₁ → Each (λ n. PathsWithin (levels s.nodes) n.kind) s.nodes
paths_of s fit = ∥∥₁_elim fit (each_within-prop (levels s.nodes) s.nodes) (λ f. f.paths_within)

pub ascend_of : (s : Schema) (m : ℕ) → ∥ IsFit s ∥₁ → all_ascend (augments_in s m) ≡ true
ascend_of s m fit = ∥∥₁_elim fit (Coded-set coded_bool (all_ascend (augments_in s m)) true) (λ f. f.augments_ascend m)
