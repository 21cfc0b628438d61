-- What is kept of the identities of a set, as the specification's.
use Rattle.std.specs.Prelude.{◌≡◌, ◌++◌, ℕ, pos, Bool, List, [], ◌∷◌, filter, map, slice_get, unwrap_or, if◌then◌else◌}
use Rattle.std.specs.String.{string_bytes}
use Rattle.std.specs.declared.alloc.Global.{Global}
use Rattle.std.specs.declared.rc.Rc.{Rc}
use Rattle.std.specs.declared.string.String.{String}
use Rattle.yspec.specs.Forest.{Forest, end, node, row}
use Rattle.yspec.specs.text.Text.{Text}
use Rattle.yspec.specs.types.Identities.{identity_name}
use Rattle.yspec.specs.types.Names.{Assigned}
use Rattle.yspec.specs.linking.Circles.{definition_edges}
use Rattle.yspec.specs.linking.Identities.{assigned_identity, identities_of}
use Rattle.yspec.specs.linking.Keyword.{identity_word}
use Rattle.yspec.specs.linking.Source.{Source, is_source_of, argument_in}
use Rattle.ybase_graph.specs.Derivations.{AreStraight}
use Rattle.ybase_graph.specs.Edges.{edge_view}
use Rattle.ylink_types.specs.DerivedView.{Ascend, AreSets}
use Rattle.ylink_types.specs.declared.identities.Identity.{Identity}
use Rattle.ylink_types.specs.declared.identities.Identities.{Identities}
use Rattle.yspec_wide.specs.Types.{Keeping, keeps}

-- ---- identities, one by one

-- a statement that is an identity, by its number, that of its module, its name, and whether it is kept
abbrev pub listed : Keeping → Source → Forest Source → List (ℕ × ℕ × Text × Bool)
listed kept s below = if is_source_of identity_word s then (s.number, s.home, argument_in s, keeps kept below) ∷ [] else []

-- those of a row, and below it
unfoldable pub listed_in : Keeping → Forest Source → List (ℕ × ℕ × Text × Bool)
listed_in kept end = []
listed_in kept (node s below after) = listed kept s below ++ (listed_in kept below ++ listed_in kept after)

abbrev pub identity_view : Identity → ℕ × ℕ × Text × Bool
identity_view i = (i.number, i.home, i.name.now, i.is_kept)

abbrev pub is_kept : Identity → Bool
is_kept i = i.is_kept

abbrev pub number_of : Identity → ℕ
number_of i = i.number

-- ---- names

abbrev pub home_view : Rc (String Global) Global → Text
home_view h = string_bytes h.value

-- the name of a number among those of modules
abbrev pub name_among : List Text → ℕ → Text
name_among names n = unwrap_or (slice_get names n) []

abbrev pub assigned_by : List Text → Identity → Assigned
assigned_by names i = record { name = identity_name (name_among names i.home) i.name.now; number = pos i.number }

-- they are those of a set
pub record IsOf (kept : Keeping) (i : Identities) (modules : Forest Source) : Type 0 where
  pub names : i.names.value ≡ map (assigned_identity modules) (identities_of modules)
  pub numbers : i.numbers.items ≡ map (λ p. p.source.number) (filter (λ p. keeps kept p.below) (identities_of modules))
  pub ascend : Ascend 0 i.numbers.items
  pub homes : map home_view i.homes.items ≡ map argument_in (row modules)
  pub edges : map edge_view i.edges.items ≡ definition_edges modules
  pub straight : AreStraight (definition_edges modules)
  pub sets : AreSets i.derived.items (definition_edges modules) i.numbers.items
