-- How many cases of a choice have a stored data node, and which are in play.
use Rattle.std.specs.Prelude.{◌≡◌, ℕ, ◌==◌, Bool, false, List, [], ◌∷◌, Option, Some, None, nat_lt}
use Rattle.yspec.specs.Forest.{Forest, end, node}
use Rattle.yspec.specs.schema.Schema.{SchemaNode}
use Rattle.yspec.specs.document.Play.{stored_among, is_among}
use Rattle.ycheck.specs.declared.cases.StoredCases.{StoredCases}
use Rattle.ycheck.specs.declared.cases.StoredCases.TheVariants as count
use Rattle.ycheck.specs.declared.cases.Chosen.{Chosen}
use Rattle.ycheck.specs.declared.cases.Chosen.TheVariants as chosen

abbrev pub one_more : StoredCases → StoredCases
one_more count.Zero = count.One
one_more count.One = count.Several
one_more count.Several = count.Several

abbrev pub how_many : List ℕ → StoredCases
how_many [] = count.Zero
how_many (n ∷ []) = count.One
how_many (n ∷ m ∷ ns) = count.Several

-- whether a case of this number, with these children, is in play; `stored` counts the stored instances of a schema node
abbrev pub is_chosen : Chosen → (ℕ → ℕ) → ℕ → Forest SchemaNode → Bool
is_chosen chosen.NoCase stored number below = false
is_chosen chosen.EachStored stored number below = nat_lt 0 (stored_among stored below)
is_chosen (chosen.Only id) stored number below = id.0 == number

-- the cases in play of a choice, by its default case and how many have a stored data node
abbrev pub chosen_from : Option ℕ → StoredCases → Chosen
chosen_from None count.Zero = chosen.NoCase
chosen_from (Some number) count.Zero = chosen.Only (record { 0 = number })
chosen_from default_case _ = chosen.EachStored

-- the nodes of a row that are chosen are those of these numbers
abbrev pub Chooses : Chosen → (ℕ → ℕ) → List ℕ → Forest SchemaNode → Type 0
Chooses c stored numbers end = Unit {0}
Chooses c stored numbers (node n below after) =
    (is_among numbers n.number ≡ is_chosen c stored n.number below) × Chooses c stored numbers after
