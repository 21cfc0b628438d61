-- Nodes found by their names.
use Rattle.std.specs.Prelude.{◌≡◌, ℕ, ◌==◌, ◌&&◌, Bool, true, List, [], ◌∷◌, find, length, Option, Some, option_and_then, slice_get, unwrap_or}
use Rattle.std.specs.Cmp.Lexicographic.{slice_cmp}
use Rattle.std.specs.List.{list_all}
use Rattle.std.specs.Ordering.{is_lt, nat_cmp}
use Rattle.yspec.specs.text.Text.{Text, is_text}
use Rattle.yspec.specs.linking.Planned.{same_number}
use Rattle.ybase_index.specs.Keys.{first_at, above_in, is_looked_for}
use Rattle.ybase_index.specs.declared.keys.Among.{Among}
use Rattle.ybase_index.specs.declared.keys.FirstNodes.{FirstNodes}
use Rattle.ybase_index.specs.declared.keys.IndexedNode.{IndexedNode}
use Rattle.ybase_index.specs.declared.names.Names.{Names}

-- the first node of a module and a name, which is numbered, below one or at the top
abbrev pub found_by : (Text → Option ℕ) → FirstNodes → Among → Option ℕ → ℕ → Text → Option ℕ
found_by number_of nodes among above m name =
    option_and_then (λ number. first_at nodes among (record { above = above; «module» = m; name = number })) (number_of name)

-- whether a node of a name is looked for by this module and name, below a node or at the top
abbrev pub is_at : Among → Option ℕ → ℕ → Text → IndexedNode → Text → Bool
is_at among above m name node own = is_looked_for among node
    && (same_number above (above_in among node) && (m == node.«module» && is_text name own))

-- ---- names as the first nodes that have them

-- the number of a name among some numbers of texts
abbrev pub number_among : (ℕ → Text) → List ℕ → Text → Option ℕ
number_among text_at numbers name = find (λ number. is_text name (text_at number)) numbers

-- whether the texts of some numbers ascend
abbrev pub ascends : (ℕ → Text) → List ℕ → Bool
ascends text_at [] = true
ascends text_at (number ∷ numbers) =
    list_all (λ n. is_lt (slice_cmp nat_cmp (text_at number) (text_at n))) numbers && ascends text_at numbers

-- the text of a number; no text where there is none
abbrev pub text_in : List Text → ℕ → Text
text_in texts number = unwrap_or (slice_get texts number) []

-- The names are those of nodes that have these texts as their names, by number: each has a number, they ascend, and that
-- of each node's name is kept.
abbrev pub AreNamesOf : Names → List Text → Type 0
AreNamesOf names texts = (length names.of_nodes.items ≡ length texts)
    × (ascends (text_in texts) names.ordered.items ≡ true)
    × ((node number : ℕ) → slice_get names.of_nodes.items node ≡ Some number
    → number_among (text_in texts) names.ordered.items (text_in texts node) ≡ Some number)
