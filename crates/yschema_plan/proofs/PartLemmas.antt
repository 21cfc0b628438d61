-- Nodes, one after another, as they come into the table.
use Rattle.std.proofs.Common.{◌≡◌, ℕ, suc, ◌+◌, Bool, List, [], ◌∷◌, ◌++◌, length, Option, Some, None, refl, sym, ap, ap₂, ◌∙◌, append_assoc, arith, length-append}
use Rattle.std.proofs.lemmas.List.{append-nil}
use Rattle.yspec.specs.Forest.{Forest, node, end, size, join}
use Rattle.yspec.specs.linking.Parts.{Part}
use Rattle.yspec.specs.linking.Planned as plan
use Rattle.yspec.specs.linking.Planned.{Around, around_below, at_top, planned_node, planned}
use Rattle.ybase_preorder.specs.Layout.{IsLaidOut, Place, places, laid, opened, closed, forest_of, numbered_by, Shows}
use Rattle.ybase_preorder.specs.View.{slots_in}
use Rattle.ybase_preorder.specs.declared.table.Table.{Table}
use Rattle.ybase_preorder.proofs.LayoutLemmas.{length-places, places-join, length-laid, length-seen, grown, shown}
use Rattle.yschema_expand.specs.NodeView.{numbered_part}
use Rattle.yschema_expand.specs.TableView.{nodes_in, parts_in, slots_of}
use Rattle.yschema_expand.specs.declared.table.NodeTable.{NodeTable}
use Rattle.yschema_plan.specs.declared.planned.Planned.{Planned}
use Rattle.yschema_plan.specs.PlannedView.{planned_view, seen_rows, listed}

-- a planned node, by whether it is configuration
abbrev pub planned_so : ℕ → Option ℕ → Option ℕ → Part → Bool → plan.Planned
planned_so number parent scope p config = record { number = number; parent = parent; scope = scope; config = config; part = p }

pub size-planned : (k : ℕ) (a : Around) (f : Forest Part) → size (planned k a f) ≡ size f
unfolding planned
size-planned k a end = refl
size-planned k a (node p below after) =
    ap₂ (λ m n. suc (m + n)) (size-planned (k + 1) (around_below k a p) below) (size-planned (k + suc (size below)) a after)

pub planned-join : (k : ℕ) (a : Around) (f g : Forest Part) → planned k a (join f g) ≡ join (planned k a f) (planned (k + size f) a g)
unfolding planned
planned-join k a end g = ap (λ n. planned n a g) (omega arith)
planned-join k a (node p below after) g =
    let here : k + suc (size below) + size after ≡ k + suc (size below + size after) = omega arith in
    ap (λ rest. node (planned_node k a p) (planned (k + 1) (around_below k a p) below) rest)
    (planned-join (k + suc (size below)) a after g ∙ ap (λ n. join (planned (k + suc (size below)) a after) (planned n a g)) here)

pub listed-join : (k : ℕ) (a : Around) (f g : Forest Part) → listed k a (join f g) ≡ listed k a f ++ listed (k + size f) a g
listed-join k a f g =
    ap (places a.parent k) (planned-join k a f g) ∙ (places-join a.parent k (planned k a f) (planned (k + size f) a g)
    ∙ ap (λ n. listed k a f ++ places a.parent (k + n) (planned (k + size f) a g)) (size-planned k a f))

pub listed-one : (k : ℕ) (a : Around) (x : Part) (below : Forest Part)
    → listed k a (node x below end)
    ≡ record { parent = a.parent; label = planned_node k a x; below = size below } ∷ listed (k + 1) (around_below k a x) below
unfolding planned
listed-one k a x below =
    ap (λ n. record { parent = a.parent; label = planned_node k a x; below = n } ∷ (listed (k + 1) (around_below k a x) below ++ [])) (size-planned (k + 1) (around_below k a x) below)
    ∙ ap (λ rest. record { parent = a.parent; label = planned_node k a x; below = size below } ∷ rest) (append-nil (listed (k + 1) (around_below k a x) below))

pub listed-none : (k : ℕ) (a : Around) → listed k a end ≡ []
unfolding planned
listed-none k a = refl

pub length_added : (old new : Table Planned) (more : List (Place plan.Planned)) → seen_rows new ≡ seen_rows old ++ more
    → length (slots_in new) ≡ length (slots_in old) + length more
length_added old new more added =
    let whole = ap length added ∙ length-append (seen_rows old) more in
    omega (arith, whole, length-seen planned_view 0 (laid (slots_in new)), length-laid (slots_in new), length-seen planned_view 0 (laid (slots_in old)), length-laid (slots_in old))

-- some are added, and others follow
pub then_others : (old new : Table Planned) (a : Around) (f g : Forest Part) (whole : List (Place plan.Planned))
    → seen_rows new ≡ seen_rows old ++ listed (length (slots_in old)) a f
    → seen_rows old ++ listed (length (slots_in old)) a (join f g) ≡ whole
    → seen_rows new ++ listed (length (slots_in new)) a g ≡ whole
then_others old new a f g whole added so =
    let k = length (slots_in old) in
    let count : length (slots_in new) ≡ k + size f = length_added old new (listed k a f) added
    ∙ ap (λ n. k + n) (length-places a.parent k (planned k a f) ∙ size-planned k a f) in
    ap₂ (λ ps n. ps ++ listed n a g) added count
    ∙ (append_assoc (seen_rows old) (listed k a f) (listed (k + size f) a g)
    ∙ (ap (λ rest. seen_rows old ++ rest) (sym (listed-join k a f g)) ∙ so))

pub nothing_added : (old : Table Planned) (a : Around) (f : Forest Part) → f ≡ end
    → seen_rows old ≡ seen_rows old ++ listed (length (slots_in old)) a f
nothing_added old a f none =
    sym (ap (λ g. seen_rows old ++ listed (length (slots_in old)) a g) none
    ∙ (ap (λ ps. seen_rows old ++ ps) (listed-none (length (slots_in old)) a) ∙ append-nil (seen_rows old)))

-- a node is opened, all below it is added, and it is closed
pub added : (old mid full new : Table Planned) (l : Planned) (n : ℕ) (a inside : Around) (x : Part) (f : Forest Part)
    → laid (slots_in mid) ≡ laid (slots_in old) ++ opened a.parent l ∷ [] → n ≡ length (slots_in old)
    → inside ≡ around_below n a x
    → seen_rows full ≡ seen_rows mid ++ listed (length (slots_in mid)) inside f
    → laid (slots_in new) ≡ closed n (laid (slots_in full))
    → planned_view (length (slots_in old)) l ≡ planned_node (length (slots_in old)) a x
    → seen_rows new ≡ seen_rows old ++ listed (length (slots_in old)) a (node x f end)
added old mid full new l n a inside x f mid_is n_is inside_is full_is new_is label_is =
    let k = length (slots_in old) in
    let next : length (slots_in mid) ≡ k + 1 = sym (length-laid (slots_in mid)) ∙ (ap length mid_is ∙ (length-append (laid (slots_in old)) (opened a.parent l ∷ []) ∙ omega (arith, length-laid (slots_in old)))) in
    let m = length (slots_in mid) in
    grown planned_view (slots_in old) (slots_in mid) (slots_in full) (slots_in new) a.parent l n (planned m (around_below n a x) f) mid_is n_is
    (full_is ∙ ap (λ b. seen_rows mid ++ listed m b f) inside_is) new_is
    ∙ ap (λ ps. seen_rows old ++ ps)
    (ap₂ (λ y i. record { parent = a.parent; label = y; below = i } ∷ places (Some n) (n + 1) (planned m (around_below n a x) f)) label_is (size-planned m (around_below n a x) f)
    ∙ (ap₂ (λ i j. record { parent = a.parent; label = planned_node k a x; below = size f } ∷ places (Some i) (i + 1) (planned j (around_below i a x) f)) n_is next
    ∙ sym (listed-one k a x f)))

-- one more node of a row
pub next_node : (old new : Table Planned) (a : Around) (p : Part) (below after row : Forest Part) (whole : List (Place plan.Planned))
    → row ≡ node p below after
    → seen_rows new ≡ seen_rows old ++ listed (length (slots_in old)) a (node p below end)
    → seen_rows old ++ listed (length (slots_in old)) a row ≡ whole
    → seen_rows new ++ listed (length (slots_in new)) a after ≡ whole
next_node old new a p below after row whole is added so =
    then_others old new a (node p below end) after whole added
    (ap (λ f. seen_rows old ++ listed (length (slots_in old)) a f) (sym is) ∙ so)

-- the nodes of a table in which some parts lie
pub all_planned : (rows : Table Planned) (nodes : NodeTable) (roots parts : Forest Part) → seen_rows rows ≡ listed 0 at_top roots
    → roots ≡ nodes_in nodes → parts_in nodes ≡ places None 0 parts
    → (numbered_by planned_view 0 (forest_of (slots_in rows)) ≡ planned 0 at_top parts) × IsLaidOut (slots_in rows)
    × Shows planned_view (slots_in rows) (planned 0 at_top parts)
all_planned rows nodes roots parts listed_are roots_are parts_are =
    let shows = listed_are ∙ ap (listed 0 at_top) (roots_are ∙ (shown numbered_part parts (slots_of nodes) parts_are).0) in
    let both = shown planned_view (planned 0 at_top parts) (slots_in rows) shows in
    (both.0, both.1, shows)
