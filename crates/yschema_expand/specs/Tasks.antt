-- What tasks do, and how many come of them.
use Rattle.std.specs.Prelude.{◌≡◌, ◌+◌, ◌*◌, ℕ, zero, suc, Bool, true, false, List, [], ◌∷◌, is_some, if◌then◌else◌}
use Rattle.yspec.specs.Forest.{Forest, end, node, size}
use Rattle.yspec.specs.linking.Keyword.{uses_word}
use Rattle.yspec.specs.linking.Source.{Source, first_with}
use Rattle.yspec.specs.linking.Augments.{Augment}
use Rattle.yspec.specs.linking.Parts.{Part, own_of}
use Rattle.yspec.specs.linking.Expansion.{groupings_of, is_uses, laid, row_used}
use Rattle.yspec_wide.specs.Language.{Language}
use Rattle.yspec_wide.specs.Expansion.{conditioned, extended_by, inner_augments, inner_breaks, refined_in, refine_breaks_in, stands_for_in, unfit_for_in}
use Rattle.ybase_preorder.specs.Layout.{closed}
use Rattle.ybase_preorder.specs.Layout as layout
use Rattle.ybase_preorder.specs.View.{row_by, row_view}
use Rattle.ylink_grammar.specs.SourceView.{source_view}
use Rattle.yschema_expand.specs.TableView.{slots_of}
use Rattle.yschema_expand.specs.TablesHung.{IsAmong, Puts}
use Rattle.yschema_expand.specs.Turns.{Leaves}
use Rattle.yschema_expand.specs.Walk.{all_inner, breaks_for, chosen, ends_within_in, nodes_for, Adds, AddsParts, AllEnd, Changes}
use Rattle.yschema_given.specs.Keeping.{are_kept_right}
use Rattle.yschema_expand.specs.declared.expanding.Made.{Made}
use Rattle.yschema_expand.specs.declared.walking.Task.{Task}
use Rattle.yschema_expand.specs.declared.walking.Task.TheVariants.{Add, Close, Change, Extend, Bring, Hang, Guard}
use Rattle.yschema_expand.specs.declared.hanging.Hanging.{Hanging}

-- what augments do to the nodes from that of a number on
abbrev pub Extends : Language → Forest Source → ℕ → ℕ → ℕ → List Augment → Made → Made → Type 0
Extends language modules owner depth first augments old new = let meant = stands_for_in language modules (groupings_of modules) owner depth in
    (nodes : Forest Part) → Changes first nodes (extended_by language meant modules owner augments nodes)
    (inner_breaks language (unfit_for_in language modules (groupings_of modules) owner depth) meant modules owner augments nodes) old new

-- What some statements of an augment add, single nodes in the cases for which they stand, and its guards asked of each.
abbrev pub brought : Language → Forest Source → ℕ → ℕ → Bool → Forest Source → Forest Part → Forest Part
brought language modules owner depth in_choice given parts = chosen in_choice (conditioned language given (nodes_for language modules owner depth parts))

-- where the last nodes of a table, which begin at a number, stand below one of some before them, they come last below that one
abbrev pub Hangs : Hanging → Made → Made → Type 0
Hangs h old new = Puts h old.table new.table × (new.told ≡ old.told)

abbrev pub Does : Language → Forest Source → Task → Made → Made → Type 0
Does language modules (Add place in_choice statements) old new = AddsParts language modules place.parent place.owner place.depth
    (chosen in_choice (laid (row_by source_view statements))) old new
Does language modules (Close number) old new =
    (layout.laid (slots_of new.table) ≡ closed number (layout.laid (slots_of old.table))) × (new.told ≡ old.told)
Does language modules (Change owner first statements) old new = (nodes : Forest Part)
    → Changes first nodes (refined_in language modules owner (row_by source_view statements) nodes)
    (refine_breaks_in language modules owner (row_by source_view statements) nodes) old new
Does language modules (Extend place first statements) old new =
    Extends language modules place.owner place.depth first (inner_augments language (row_by source_view statements)) old new
Does language modules (Bring bringing statements) old new = let place = bringing.place in let parts = laid (row_by source_view statements) in
    Adds place.parent (brought language modules place.owner place.depth bringing.in_choice (row_by source_view bringing.given) parts)
    (breaks_for language modules place.owner place.depth parts) old new
Does language modules (Hang h) old new = Hangs h old new
Does language modules (Guard first given) old new = (nodes : Forest Part)
    → Changes first nodes (conditioned language (own_of (row_by source_view given)) nodes) [] old new

-- no `uses` of a task leads over more others than its place has, conditions are kept as such, and a target is among the nodes
abbrev pub TaskEnds : Language → Forest Source → Task → Type 0
TaskEnds language modules (Add place in_choice statements) =
    AllEnd language modules place.depth (chosen in_choice (laid (row_by source_view statements)))
    × (are_kept_right language (row_by source_view statements) ≡ true)
TaskEnds language modules (Close number) = Unit {0}
TaskEnds language modules (Change owner first statements) = are_kept_right language (row_by source_view statements) ≡ true
TaskEnds language modules (Extend place first statements) =
    (all_inner (ends_within_in language modules (groupings_of modules) place.depth) (inner_augments language (row_by source_view statements)) ≡ true)
    × (are_kept_right language (row_by source_view statements) ≡ true)
TaskEnds language modules (Bring bringing statements) = AllEnd language modules bringing.place.depth (laid (row_by source_view statements))
    × ((are_kept_right language (row_by source_view statements) ≡ true) × (are_kept_right language (row_by source_view bringing.given) ≡ true))
    × (bringing.in_choice ≡ true → is_some (first_with uses_word (row_by source_view statements)) ≡ false)
TaskEnds language modules (Hang h) = IsAmong h
TaskEnds language modules (Guard first given) = are_kept_right language (row_by source_view given) ≡ true

-- ---- how many tasks come of one

-- of some parts, given how many come of each `uses`
unfoldable pub tolls : (Part → ℕ) → Forest Part → ℕ
tolls meant end = 0
tolls meant (node p below after) = (if is_uses p then meant p else 2 + tolls meant below) + tolls meant after

-- of one augment: its nodes put in place, and of each of its statements a step, the case, and its guards asked
abbrev pub toll_of_augment : (Part → ℕ) → Augment → ℕ
toll_of_augment meant a = 2 + (3 * size a.given + tolls meant (laid a.given))

-- and of some
unfoldable pub inner_tolls : (Part → ℕ) → List Augment → ℕ
inner_tolls meant [] = 0
inner_tolls meant (a ∷ others) = toll_of_augment meant a + inner_tolls meant others

unfoldable pub toll_for : Language → Forest Source → ℕ → Part → ℕ
toll_for language modules zero u = 0
toll_for language modules (suc depth) u = 4 + (size modules + (tolls (toll_for language modules depth) (row_used modules (groupings_of modules) u)
    + (size u.own + inner_tolls (toll_for language modules depth) (inner_augments language u.own))))

abbrev pub one_toll : Language → Forest Source → ℕ → Augment → ℕ
one_toll language modules depth a = toll_of_augment (toll_for language modules depth) a

-- of a row of so many statements, which lays out these parts
abbrev pub toll_of : Language → Forest Source → ℕ → ℕ → Forest Part → ℕ
toll_of language modules depth count parts = count + tolls (toll_for language modules depth) parts

abbrev pub toll : Language → Forest Source → Task → ℕ
toll language modules (Add place in_choice statements) =
    toll_of language modules place.depth (size (row_view statements)) (chosen in_choice (laid (row_by source_view statements)))
toll language modules (Close number) = 0
toll language modules (Change owner first statements) = 0
toll language modules (Extend place first statements) = size (row_view statements)
    + inner_tolls (toll_for language modules place.depth) (inner_augments language (row_by source_view statements))
toll language modules (Bring bringing statements) = 3 * size (row_view statements)
    + tolls (toll_for language modules bringing.place.depth) (laid (row_by source_view statements))
toll language modules (Hang h) = 0
toll language modules (Guard first given) = 0

-- what a step leaves behind
abbrev pub Leads : Language → Forest Source → (Made → Made → Type 0) → ℕ → List Task → List Task → Made → Made → Type 0
Leads language modules = Leaves (Does language modules) (toll language modules) (TaskEnds language modules)
