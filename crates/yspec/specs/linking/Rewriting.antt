-- Groupings by single steps: one `uses` is replaced whose grouping holds none, until none is left (RFC 7950, 7.13).
use Rattle.std.specs.Prelude.{ℕ, zero, suc, ◌≡◌, ◌&&◌, Bool, true, false, not, List, ◌∷◌, if◌then◌else◌}
use Rattle.yspec.specs.Forest.{Forest, end, node, join}
use Rattle.yspec.specs.linking.Source.{Source}
use Rattle.yspec.specs.linking.Parts.{Part}
use Rattle.yspec.specs.linking.Expansion.{Grouping, is_uses, row_used, refined, replaced}

-- whether a row holds no `uses`
unfoldable pub is_settled : Forest Part → Bool
is_settled end = true
is_settled (node p below after) = not (is_uses p) && (is_settled below && is_settled after)

-- the nodes of a row, given to a module
abbrev pub settled : ℕ → Forest Part → Forest Part
settled owner nodes = replaced (λ u. end) owner nodes

-- One `uses` of a row, whose grouping holds none, is replaced by the nodes of the grouping, refined.
pub data Step (modules : Forest Source) (groupings : List Grouping) (owner : ℕ) : Forest Part → Forest Part → Type 0 where
  replacing : (u : Part) → (below after : Forest Part) → is_uses u ≡ true
      → is_settled (row_used modules groupings u) ≡ true
      → Step modules groupings owner (node u below after)
      (join (refined modules owner u.own (settled owner (row_used modules groupings u))) after)
  inside : (p : Part) → (below changed after : Forest Part) → is_uses p ≡ false
      → Step modules groupings owner below changed
      → Step modules groupings owner (node p below after) (node p changed after)
  behind : (p : Part) → (below after changed : Forest Part) → Step modules groupings owner after changed
      → Step modules groupings owner (node p below after) (node p below changed)

-- the same in the row of one grouping of a list
pub data GroupingStep (modules : Forest Source) (groupings : List Grouping) (owner : ℕ)
    : List Grouping → List Grouping → Type 0 where
  in_first : (g : Grouping) → (changed : Forest Part) → (others : List Grouping)
      → Step modules groupings owner g.row changed
      → GroupingStep modules groupings owner (g ∷ others) (record g { row = changed } ∷ others)
  in_others : (g : Grouping) → (others changed : List Grouping) → GroupingStep modules groupings owner others changed
      → GroupingStep modules groupings owner (g ∷ others) (g ∷ changed)

-- What comes of a row of a module and of the groupings by steps in either, one after another.
pub data Rewritten (modules : Forest Source) (owner : ℕ) : List Grouping → Forest Part → Forest Part → Type 0 where
  as_it_is : (groupings : List Grouping) → (nodes : Forest Part) → Rewritten modules owner groupings nodes nodes
  in_nodes : (groupings : List Grouping) → (nodes next last : Forest Part) → Step modules groupings owner nodes next
      → Rewritten modules owner groupings next last → Rewritten modules owner groupings nodes last
  in_groupings : (groupings changed : List Grouping) → (nodes last : Forest Part)
      → GroupingStep modules groupings owner groupings changed
      → Rewritten modules owner changed nodes last → Rewritten modules owner groupings nodes last

-- ---- no grouping leads to itself

-- whether each `uses` of a row passes a test
unfoldable pub all_uses : (Part → Bool) → Forest Part → Bool
all_uses test end = true
all_uses test (node p below after) =
    (if is_uses p then test p else all_uses test below) && all_uses test after

-- whether what a `uses` leads to leads on over fewer groupings than a number
unfoldable pub ends_within : Forest Source → List Grouping → ℕ → Part → Bool
ends_within modules groupings zero u = false
ends_within modules groupings (suc depth) u =
    all_uses (ends_within modules groupings depth) (row_used modules groupings u)

abbrev pub Ends : Forest Source → List Grouping → ℕ → Type 0
Ends modules groupings depth = (u : Part) → ends_within modules groupings depth u ≡ true
