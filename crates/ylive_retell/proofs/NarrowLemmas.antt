-- A way in a document that fits a schema takes no more steps, with the names in keys and uniques of its nodes, than the schema has
-- nodes and names, and no more steps than it has levels.
use Rattle.std.proofs.Common.{◌≡◌, ℕ, suc, ◌+◌, ◌≤◌, List, [], ◌∷◌, map, length, Option, Some, refl, sym, ap, arith}
use Rattle.yspec.specs.Forest.{Forest, end, node, join, levels}
use Rattle.yspec.specs.types.Types.{Raw}
use Rattle.yspec.specs.schema.Schema.{Schema, SchemaNode, data_row, child_in}
use Rattle.yspec.specs.document.Fitting.{FitsBy, next_after}
use Rattle.yspec.proofs.DocumentProofs.CheckingRowLemmas.{Has}
use Rattle.yspec_reach.specs.Sizes.{breadth}
use Rattle.ystore_tree.specs.Hanging.{Numbered, Branches, tree_of}
use Rattle.ystore_tree.specs.Ways.{Frame, Way, around}
use Rattle.ylive_retell.specs.Reads.{names_on}
use Rattle.ylive_retell.proofs.BreadthLemmas.{GoesDown, names_below, narrow_way, short_way}

abbrev numbers_on : Way → List ℕ
numbers_on [] = []
numbers_on (frame ∷ way) = frame.label.schema.0 ∷ numbers_on way

same_names : (schema : Schema) (way : Way) → names_on schema way ≡ names_below schema (numbers_on way)
same_names schema [] = refl
same_names schema (frame ∷ way) = let rest = same_names schema way in omega (arith, rest)

same_length : (way : Way) → length way ≡ length (numbers_on way)
same_length [] = refl
same_length (frame ∷ way) = ap suc (same_length way)

module _ (Held : SchemaNode → Option Raw → Type 0) where
  pub record Child (children : Forest SchemaNode) (n : Numbered) (below : Branches) : Type 0 where
    pub found : SchemaNode × Forest SchemaNode
    pub is : child_in (data_row children) n.schema.0 ≡ Some found
    pub fits : FitsBy Held found.1 0 (tree_of below)

  child_fits : (children : Forest SchemaNode) (least : ℕ) (first : Branches) (n : Numbered) (below after : Branches)
      → FitsBy Held children least (tree_of (join first (node n below after))) → Child children n below
  child_fits children least end n below after fits = record { found = fits.0; is = fits.1; fits = fits.4 }
  child_fits children least (node m under rest) n below after fits = child_fits children (next_after fits.0.0) rest n below after fits.5

  goes_down : (children : Forest SchemaNode) (way : Way) (f : Branches) → FitsBy Held children 0 (tree_of (around way f)) → GoesDown children (numbers_on way)
  goes_down children [] f fits = tt
  goes_down children (frame ∷ way) f fits =
      let child = child_fits children 0 frame.before frame.label (around way f) frame.after fits in
      (child.found, child.is, goes_down child.found.1 way f child.fits)

  pub way_breadth : (schema : Schema) (way : Way) (f : Branches) → Has schema schema.nodes → FitsBy Held schema.nodes 0 (tree_of (around way f))
      → length way + names_on schema way ≤ breadth schema
  way_breadth schema way f has fits =
      let narrow = narrow_way schema schema.nodes (numbers_on way) has (goes_down schema.nodes way f fits) in
      let names = same_names schema way in
      let long = same_length way in
      omega (arith, narrow, names, long)

  pub way_levels : (schema : Schema) (way : Way) (f : Branches) → FitsBy Held schema.nodes 0 (tree_of (around way f)) → length way ≤ levels schema.nodes
  way_levels schema way f fits =
      let short = short_way schema.nodes (numbers_on way) (goes_down schema.nodes way f fits) in
      let long = same_length way in
      omega (arith, short, long)
