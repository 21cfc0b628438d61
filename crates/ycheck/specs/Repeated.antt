-- Which of some things come more than once, where each may be missing.
use Rattle.std.specs.Prelude.{ℕ, Bool, false, List, map, Option, Some, None, option_and_then, count_by, nat_lt}
use Rattle.std.specs.Option.{option_map_or}
use Rattle.yspec.specs.types.Types.{YangType, Val, taken}
use Rattle.yspec.specs.schema.Schema.{Schema, Tuples}
use Rattle.yspec.specs.document.Instances.{Tuple, paths_of, tuple_of_paths}
use Rattle.yinst_tree.specs.View.{view}
use Rattle.yinst_tree.specs.declared.tree.Stored.{Stored}

-- how often one is among them
abbrev pub times_among : {A : Type 0} → (A → A → Bool) → List (Option A) → A → ℕ
times_among same others x = count_by (λ o. option_map_or (same x) o false) others

-- whether it is there and comes more than once among them
abbrev pub repeats : {A : Type 0} → (A → A → Bool) → List (Option A) → Option A → Bool
repeats same others None = false
repeats same others (Some x) = nat_lt 1 (times_among same others x)

-- whether each of them does
abbrev pub marks : {A : Type 0} → (A → A → Bool) → List (Option A) → List Bool
marks same xs = map (repeats same xs) xs

-- the valid values of stored nodes, by their type
abbrev pub values_of : YangType → List Stored → List (Option Val)
values_of type ss = map (λ s. option_and_then (taken type) (view s).0.value) ss

-- the tuples of a number of stored entries, by what tells the entries of their list apart
abbrev pub tuples_of : Schema → Tuples → ℕ → List Stored → List (Option Tuple)
tuples_of schema shape number ss = map (λ s. tuple_of_paths schema (view s).1 (paths_of shape number)) ss
