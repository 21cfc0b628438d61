-- What every schema has, for those who use one.
use Rattle.std.proofs.Common.{◌≡◌, ◌≤◌, ℕ, true, None}
use Rattle.yspec.specs.Forest.{levels, size}
use Rattle.yspec.specs.schema.Breaks.{level_limit, low_level_limit, node_limit}
use Rattle.yspec.specs.document.Fitting.{IsNumbered, LeafsAreBare}
use Rattle.yspec.specs.document.Writing.{NamesDiffer}
use Rattle.yspec_fit.specs.Fit.{all_ascend}
use Rattle.yspec_fit.proofs.FitLemmas.{ascend_of, names_differ_of, leafs_bare_of, levels_of, low_of, size_of}
use Rattle.yspec.specs.schema.Schema.{augments_in, has_anything}
use Rattle.yschema_model.specs.declared.schema.Schema.{Schema}
use Rattle.yschema_model.specs.View.{view, forest_of}
use Rattle.yschema_model.proofs.ChildLemmas.{numbered_laid}

-- its nodes are numbered in preorder
pub numbered : (s : Schema) → IsNumbered 0 (view s).nodes
numbered s = numbered_laid (forest_of 0 s.slots.items) None 0 s.slots.items s.laid_out

-- no two siblings are written with one name
pub names_differ : (s : Schema) → NamesDiffer (view s)
names_differ s = names_differ_of (view s) s.fit

pub leafs_are_bare : (s : Schema) → LeafsAreBare (view s).nodes
leafs_are_bare s = leafs_bare_of (view s) s.fit

pub not_deep : (s : Schema) → levels (view s).nodes ≤ level_limit
not_deep s = levels_of (view s) s.fit

pub low_enough : (s : Schema) → has_anything (view s).nodes ≡ true → levels (view s).nodes ≤ low_level_limit
low_enough s = low_of (view s) s.fit

pub not_large : (s : Schema) → size (view s).nodes ≤ node_limit
not_large s = size_of (view s) s.fit

-- the nodes that an augment adds ascend by their numbers
pub augments_ascend : (s : Schema) (m : ℕ) → all_ascend (augments_in (view s) m) ≡ true
augments_ascend s m = ascend_of (view s) m s.fit
