-- The rows of a document that fits stand in order.
use Rattle.std.proofs.Common.{◌≡◌, ℕ, suc, ◌≤◌, Bool, true, false, cond, eqb, Option, Some, refl, sym, ap, ◌∙◌, arith}
use Rattle.std.proofs.lemmas.Bool.{eqb-true}
use Rattle.std.specs.Prelude.{unwrap_or}
use Rattle.yspec.specs.Forest.{Forest, end, node}
use Rattle.yspec.specs.types.Types.{Raw}
use Rattle.yspec.specs.schema.Schema.{Schema, SchemaNode, is_many, data_row, child_in}
use Rattle.yspec.specs.document.Document.{Tree}
use Rattle.yspec.specs.document.Fitting.{next_after, FitsBy, Fits}
use Rattle.yspec.specs.document.Sorting.{StartsAt, IsSorted}

-- a child that is found by its number has it
pub child_number : (f : Forest SchemaNode) (number : ℕ) (x : SchemaNode × Forest SchemaNode) → child_in f number ≡ Some x → x.0.number ≡ number
child_number end number x e = absurd cc
child_number (node n below after) number x e = go (eqb n.number number) refl e (λ h. child_number after number x h)
  where
    go : (b : Bool) → eqb n.number number ≡ b → cond b (Some (n, below)) (child_in after number) ≡ Some x
        → (child_in after number ≡ Some x → x.0.number ≡ number) → x.0.number ≡ number
    go true same e rest =
        sym (ap (λ (o : Option (SchemaNode × Forest SchemaNode)). (unwrap_or o x).0.number) e) ∙ eqb-true n.number number same
    go false other e rest = rest e

-- a stored node is no more than the least number that may follow it
pub not_before : (n : SchemaNode) → n.number ≤ next_after n
not_before n = go (is_many n.kind)
  where
    go : (b : Bool) → n.number ≤ cond b n.number (suc n.number)
    go true = omega arith
    go false = omega arith

module _ (Held : SchemaNode → Option Raw → Type 0) where
  -- a row that fits from a number on fits from each lower one on
  pub fits_sooner : (children : Forest SchemaNode) (t : Tree) (j k : ℕ) → j ≤ k → FitsBy Held children k t → FitsBy Held children j t
  fits_sooner children end j k lower fits = tt
  fits_sooner children (node s b a) j k lower fits = (fits.0, fits.1, omega (arith, lower, fits.2), fits.3, fits.4, fits.5)

  pub fits_sorted : (children : Forest SchemaNode) (least : ℕ) (t : Tree) → FitsBy Held children least t → IsSorted t
  fits_sorted children least end fits = tt
  fits_sorted children least (node s b a) fits = (
    behind a (next_after fits.0.0) (omega (arith, not_before fits.0.0, child_number (data_row children) s.schema_number fits.0 fits.1)) fits.5,
    fits_sorted fits.0.1 0 b fits.4,
    fits_sorted children (next_after fits.0.0) a fits.5,
  )
    where
      behind : (t : Tree) (least : ℕ) → s.schema_number ≤ least → FitsBy Held children least t → StartsAt s.schema_number t
      behind end least lower fits = tt
      behind (node r d c) least lower fits = omega (arith, lower, fits.2)

-- the rows of a document that fits
pub in_order : (schema : Schema) (tree : Tree) → Fits schema tree → IsSorted tree
in_order schema tree fits = fits_sorted (λ n value. Unit {0}) schema.nodes 0 tree fits
