-- A session as it may be kept: not the documents that can come back, but one from before them and the edits since, in groups of
-- which each is taken back as one. The edits tell the positions that turn.
use Rattle.std.specs.Prelude.{◌≡◌, ◌≤◌, ℕ, ◌+◌, ◌-◌, ◌/◌, ◌++◌, ◌&&◌, Bool, true, is_none, max, nat_le, List, [], ◌∷◌, length, take, drop, map, Option, Some, None, option_map, if◌then◌else◌, nat_lt}
use Rattle.std.specs.Option.{option_map_or}
use Rattle.std.specs.List.{flat_map}
use Rattle.yspec.specs.schema.Schema.{Schema}
use Rattle.yspec.specs.document.Document.{Tree}
use Rattle.yspec.specs.edit.EditText.{Edit}
use Rattle.yspec.specs.edit.Editing.{after, applied, tree_or}
use Rattle.yspec_session.specs.Carrying.{Turn}
use Rattle.yspec_session.specs.Session.{Begun, Session, Earlier, turns_of}

-- where edits stand or fall together: how many groups there were when they began, and how many of them could be taken back
pub record Since : Type 0 where
  pub groups : ℕ
  pub kept : ℕ

-- a later document, and how many groups lead to it
pub record Later : Type 0 where
  pub groups : ℕ
  pub tree : Tree

-- a document, the accepted edits since, how many groups of them can be taken back, the last first, and perhaps a later document
pub record Kept : Type 0 where
  pub base : Tree
  pub groups : List (List Edit)
  pub kept : ℕ
  pub begun : Option Since
  pub later : Option Later

abbrev pub kept_from : Tree → Kept
kept_from tree = record { base = tree; groups = []; kept = 0; begun = None; later = None }

-- the document behind some groups of edits
abbrev pub behind_groups : Schema → Tree → List (List Edit) → Tree
behind_groups schema tree [] = tree
behind_groups schema tree (g ∷ gs) = behind_groups schema (after schema tree g) gs

-- the turns that lead back over edits of a document, those of the last edit first
abbrev pub turns_back : Schema → Tree → List Edit → List Turn
turns_back schema tree [] = []
turns_back schema tree (e ∷ edits) = turns_back schema (tree_or (applied schema tree e) tree) edits ++ (turns_of schema tree e).back

-- what comes back before each group, the last first
abbrev pub befores : Schema → Tree → List (List Edit) → List Earlier
befores schema tree [] = []
befores schema tree (g ∷ gs) = befores schema (after schema tree g) gs ++ record { tree = tree; turns = turns_back schema tree g } ∷ []

-- ---- what changes it

-- so many are remembered at most
abbrev pub one_more : ℕ → ℕ → ℕ
one_more limit n = if nat_lt n limit then n + 1 else limit

abbrev pub with_group : ℕ → List Edit → Kept → Kept
with_group limit g k = record k { groups = k.groups ++ g ∷ []; kept = one_more limit k.kept }

-- the later document, where no more than the first groups stay
abbrev pub until : ℕ → Option Later → Option Later
until n None = None
until n (Some l) = if nat_le l.groups n then Some l else None

abbrev pub begun_here : Kept → Kept
begun_here k = record k { kept = 0; begun = Some (record { groups = length k.groups; kept = k.kept }) }

abbrev pub joined : ℕ → Since → Kept → Kept
joined limit since k = record k {
  groups = take since.groups k.groups ++ flat_map (λ g. g) (drop since.groups k.groups) ∷ [];
  kept = one_more limit since.kept;
  begun = None;
  later = until since.groups k.later;
}

abbrev pub back_to : Since → Kept → Kept
back_to since k = record k {
  groups = take since.groups k.groups;
  kept = since.kept;
  begun = None;
  later = until since.groups k.later;
}

-- ---- from where it is counted

-- the document is a later one
abbrev pub marked : Tree → Kept → Kept
marked tree k = record k { later = Some (record { groups = length k.groups; tree = tree }) }

-- whether what can be taken back, now and where edits together began, all stands behind the first groups
abbrev pub began_behind : ℕ → Option Since → Bool
began_behind n None = true
began_behind n (Some b) = nat_le (n + b.kept) b.groups

abbrev pub stands_behind : ℕ → Kept → Bool
stands_behind n k = nat_le (n + k.kept) (length k.groups) && began_behind n k.begun

abbrev pub less_groups : ℕ → Since → Since
less_groups n b = record b { groups = b.groups - n }

-- counted from the later document, and what leads to it forgotten
abbrev pub counted_from : Later → Kept → Kept
counted_from l k = record {
  base = l.tree;
  groups = drop l.groups k.groups;
  kept = k.kept;
  begun = option_map (less_groups l.groups) k.begun;
  later = None;
}

-- where that is so
abbrev pub settled_by : Option Later → Kept → Kept
settled_by None k = k
settled_by (Some l) k = if stands_behind l.groups k then counted_from l k else k

abbrev pub settled : Kept → Kept
settled k = settled_by k.later k

-- whether so many groups have come since the document from which it is counted that a later one is wanted
abbrev pub is_due : ℕ → Kept → Bool
is_due limit k = is_none k.later && nat_le (max limit 1) (length k.groups / 16)

-- the document nearest before the place behind the first groups, and the groups that lead from there
abbrev pub way_from : Tree → List (List Edit) → Option Later → Tree × List (List Edit)
way_from base led None = (base, led)
way_from base led (Some l) = (l.tree, drop l.groups led)

abbrev pub way_to : ℕ → Kept → Tree × List (List Edit)
way_to n k = way_from k.base (take n k.groups) (until n k.later)

-- ---- the session that it is

abbrev pub turns_in : List Earlier → List (List Turn)
turns_in es = map (λ (e : Earlier). e.turns) es

-- what edits together began with, and the turns since
abbrev pub begun_at : Schema → Tree → List (List Edit) → Since → Begun
begun_at schema base groups since = let there = behind_groups schema base (take since.groups groups) in record {
  tree = there;
  remembered = take since.kept (befores schema base (take since.groups groups));
  turns = turns_in (befores schema there (drop since.groups groups));
}

-- the turns that lead back over the groups behind the first ones
abbrev pub turns_behind : Schema → ℕ → Kept → List Turn
turns_behind schema n k =
    turns_back schema (behind_groups schema k.base (take n k.groups)) (flat_map (λ g. g) (drop n k.groups))

abbrev pub groups_since : Option Since → ℕ
groups_since begun = option_map_or (λ (b : Since). b.groups) begun 0

abbrev pub kept_since : Option Since → ℕ
kept_since begun = option_map_or (λ (b : Since). b.kept) begun 0

-- the first groups lead to the later document
abbrev pub Leads : Schema → Tree → List (List Edit) → Option Later → Type 0
Leads schema base groups None = Unit {0}
Leads schema base groups (Some l) = (l.groups ≤ length groups) × (l.tree ≡ behind_groups schema base (take l.groups groups))

-- the same document, the same ones to come back, and the same where edits together began
pub record Remembers (schema : Schema) (k : Kept) (s : Session) : Type 0 where
  pub tree : s.tree ≡ behind_groups schema k.base k.groups
  pub earlier : s.remembered ≡ take k.kept (befores schema k.base k.groups)
  pub begun : s.begun ≡ option_map (begun_at schema k.base k.groups) k.begun
  pub room : groups_since k.begun + k.kept ≤ length k.groups
  pub inner : kept_since k.begun ≤ groups_since k.begun
  pub later : Leads schema k.base k.groups k.later
