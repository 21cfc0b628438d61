-- What nodes hold and give is entered in an account, one after another.
use Rattle.std.proofs.Common.{◌≡◌, ℕ, suc, ◌+◌, ◌*◌, ◌≤◌, Bool, true, false, List, [], ◌∷◌, ◌++◌, length, map, drop, Option, Some, option_map, refl, sym, ap, ap₂, ◌∙◌, arith, subst, append_assoc}
use Rattle.std.specs.List.{flat_map}
use Rattle.std.proofs.lemmas.Bool.{false≢true}
use Rattle.std.proofs.lemmas.List.{flat_map_more, length-append, map-append}
use Rattle.yspec.specs.Forest.{end, node, join, size}
use Rattle.yspec.specs.schema.Schema.{Schema}
use Rattle.yschema_model.specs.declared.node.SchemaId.{SchemaId}
use Rattle.yschema_model.specs.Layout.{number_of}
use Rattle.ystore.specs.Held.{Label}
use Rattle.ystore.specs.Store.{label_at}
use Rattle.ystore_rows.specs.declared.row.NodeId.{NodeId}
use Rattle.ystore_rows.specs.declared.row.Row.{Row}
use Rattle.ystore_rows.specs.declared.row.Row.TheVariants.{Top, Below}
use Rattle.ystore.specs.declared.nodes.Nodes.{Nodes}
use Rattle.ystore_tree.specs.Hanging.{Numbered, Branches, stored_of, tree_of, Stands, Hangs}
use Rattle.ystore_tree.specs.Copies.{ids_of}
use Rattle.ystore_tree.specs.Parts.{OnlyReads}
use Rattle.ystore_tree.specs.Ways.{Frame, Way, around, end_of}
use Rattle.ystore_tree.proofs.HangingLemmas.{weigh_join, size_weigh, listed_below, at_end, stands_second}
use Rattle.ystore_tree.proofs.FoundLemmas.{end_more}
use Rattle.ystore_tree.proofs.PartLemmas.{label_is, stands_read, children_read}
use Rattle.ystore_tree.proofs.GrowLemmas.{ids_node}
use Rattle.yspec_play.specs.Absences.{Absent, Default}
use Rattle.yspec_reach.specs.Sizes.{levels}
use Rattle.ylive_facts.specs.Given.{referred, own_values}
use Rattle.ylive_facts.specs.Keys.{Holding, held_with, held_by}
use Rattle.ylive_facts.specs.Judging.{Judged, value_judged}
use Rattle.ylive_retell.specs.Accounts.{Enters, StandsThere, News, news_view, news_of}
use Rattle.ylive_retell.specs.declared.account.News as rust
use Rattle.ylive_facts.specs.Reads.{names_of}
use Rattle.ylive_retell.specs.Reads.{way_reads}
use Rattle.ylive_retell.specs.Standing.{Standing, Every, standing, keys_held, values_given, absences_in_row, absences_there, defaults_in_row, on_the_way, way_held}
use Rattle.ylive_retell.specs.declared.account.Account.{Account}
use Rattle.ylive_retell.proofs.EachLemmas.{every_second, every_join}

-- ---- a node

pub parent_is : (nodes : Nodes) (id : NodeId) (s : Standing) → StandsThere nodes id s → option_map (λ (l : Label). l.parent) (label_at nodes id) ≡ Some s.row
parent_is nodes id s there = ap (option_map (λ (l : Label). l.parent)) (label_is nodes s.row s.label s.below id there.is_id there.stands)

pub schema_is : (nodes : Nodes) (id : NodeId) (s : Standing) → StandsThere nodes id s → option_map (λ (l : Label). l.schema) (label_at nodes id) ≡ Some s.label.schema
schema_is nodes id s there = ap (option_map (λ (l : Label). l.schema)) (label_is nodes s.row s.label s.below id there.is_id there.stands)

pub there_read : (before after : Nodes) (id : NodeId) (s : Standing) → OnlyReads before after → StandsThere before id s → StandsThere after id s
there_read before after id s only there = record { is_id = there.is_id; stands = stands_read before after s.row (node s.label s.below end) only there.stands }

pub hangs_below : (nodes : Nodes) (id : NodeId) (s : Standing) → StandsThere nodes id s → Hangs nodes (Below id) s.below
hangs_below nodes id s there =
    subst (λ (i : NodeId). Hangs nodes (Below i) s.below) there.is_id
    (record { listed = listed_below nodes s.row s.label s.below there.stands.0; stands = there.stands.1 })

pub hangs_read : (before after : Nodes) (above : Row) (f : Branches) → OnlyReads before after → Hangs before above f → Hangs after above f
hangs_read before after above f only hangs =
    record { listed = children_read before after above only ∙ hangs.listed; stands = stands_read before after above f only hangs.stands }

pub keys_are : (schema : Schema) (nodes : Nodes) (above : Row) (id : NodeId) (s : Standing) (was now : List Holding) → StandsThere nodes id s → above ≡ s.row
    → ((n : Numbered) (below : Branches) → n.id ≡ id → Stands nodes above (node n below end) → now ≡ was ++ held_with id (held_by schema above (stored_of n) (tree_of below)))
    → now ≡ was ++ keys_held schema s
keys_are schema nodes above id s was now there row entered =
    entered s.label s.below there.is_id (subst (λ (r : Row). Stands nodes r (node s.label s.below end)) (sym row) there.stands)
    ∙ ap₂ (λ (i : NodeId) (r : Row). was ++ held_with i (held_by schema r (stored_of s.label) (tree_of s.below))) (sym there.is_id) row

-- ---- values

pub values_are : (schema : Schema) (s : Standing) (of : Option SchemaId) (was own now : List Default) → of ≡ Some s.label.schema
    → own ≡ was ++ referred schema (own_values schema (stored_of s.label)) → now ≡ own ++ defaults_in_row schema (number_of of) (tree_of s.below)
    → now ≡ was ++ values_given schema s
values_are schema s of was own now is first second =
    second
    ∙ (ap₂ (λ (xs : List Default) (o : Option SchemaId). xs ++ defaults_in_row schema (number_of o) (tree_of s.below)) first is
    ∙ append_assoc was (referred schema (own_values schema (stored_of s.label))) (defaults_in_row schema (Some s.label.schema.0) (tree_of s.below)))

pub absences_are : (schema : Schema) (s : Standing) (of : Option SchemaId) → of ≡ Some s.label.schema
    → absences_in_row schema (number_of of) (tree_of s.below) ≡ absences_there schema s
absences_are schema s of is = ap (λ (o : Option SchemaId). absences_in_row schema (number_of o) (tree_of s.below)) is

-- ---- all that stand

pub ids_standing : (above : Row) (f : Branches) → map (λ (s : Standing). s.label.id) (standing above f) ≡ ids_of f
ids_standing above end = refl
ids_standing above (node n below after) =
    ap (λ is. n.id ∷ is)
    (map_join (standing (Below n.id) below) (standing above after)
    ∙ ap₂ (λ (xs ys : List NodeId). xs ++ ys) (ids_standing (Below n.id) below) (ids_standing above after))
    ∙ sym (ids_node n below after)
  where
    map_join : (xs ys : List Standing) → map (λ (s : Standing). s.label.id) (xs ++ ys) ≡ map (λ (s : Standing). s.label.id) xs ++ map (λ (s : Standing). s.label.id) ys
    map_join [] ys = refl
    map_join (x ∷ xs) ys = ap (λ is. x.label.id ∷ is) (map_join xs ys)

abbrev pub StandsIn : Nodes → Standing → Type 0
StandsIn nodes s = Stands nodes s.row (node s.label s.below end)

pub all_stand : (nodes : Nodes) (above : Row) (f : Branches) → Stands nodes above f → Every (StandsIn nodes) (standing above f)
all_stand nodes above end stands = tt
all_stand nodes above (node n below after) stands = (
  (stands.0, stands.1, tt),
  every_join (StandsIn nodes) (standing (Below n.id) below) (standing above after) (all_stand nodes (Below n.id) below stands.1) (all_stand nodes above after stands.2),
)

-- those that are entered, and those that are left
pub record Parted (numbers : List NodeId) (i : ℕ) (all : List Standing) : Type 0 where
  pub done : List Standing
  pub rest : List Standing
  pub whole : all ≡ done ++ rest
  pub left : map (λ (s : Standing). s.label.id) rest ≡ drop i numbers

pub record Next (numbers : List NodeId) (i : ℕ) (all : List Standing) (id : NodeId) (p : Parted numbers i all) : Type 0 where
  pub here : Standing
  pub more : List Standing
  pub is_rest : p.rest ≡ here ∷ more
  pub is_id : here.label.id ≡ id
  pub then : Parted numbers (i + 1) all
  pub is_done : then.done ≡ p.done ++ here ∷ []

first_or : NodeId → List NodeId → NodeId
first_or d [] = d
first_or d (x ∷ xs) = x

others_of : List NodeId → List NodeId
others_of [] = []
others_of (x ∷ xs) = xs

heads : (a b : NodeId) (xs ys : List NodeId) → a ∷ xs ≡ b ∷ ys → (a ≡ b) × (xs ≡ ys)
unfolding first_or others_of
heads a b xs ys e = (ap (first_or a) e, ap others_of e)

pub next : (numbers : List NodeId) (i : ℕ) (all : List Standing) (id : NodeId) (p : Parted numbers i all) → drop i numbers ≡ id ∷ drop (i + 1) numbers → Next numbers i all id p
next numbers i all id p drops = by p.rest refl
  where
    by : (rest : List Standing) → p.rest ≡ rest → Next numbers i all id p
    by [] e = let none = ap length (sym (ap (map (λ (s : Standing). s.label.id)) e) ∙ (p.left ∙ drops)) in absurd (omega (arith, none))
    by (s ∷ ss) e =
        let same = heads s.label.id id (map (λ (s : Standing). s.label.id) ss) (drop (i + 1) numbers) (sym (ap (map (λ (s : Standing). s.label.id)) e) ∙ (p.left ∙ drops)) in
        record {
          here = s;
          more = ss;
          is_rest = e;
          is_id = same.0;
          then = record { done = p.done ++ s ∷ []; rest = ss; whole = p.whole ∙ (ap (λ r. p.done ++ r) e ∙ sym (append_assoc p.done (s ∷ []) ss)); left = same.1 };
          is_done = refl;
        }

-- at the end all are entered
pub all_done : (numbers : List NodeId) (i : ℕ) (all : List Standing) (p : Parted numbers i all) → drop i numbers ≡ [] → p.done ≡ all
all_done numbers i all p drops = by p.rest refl
  where
    append_none : (xs : List Standing) → xs ++ [] ≡ xs
    append_none [] = refl
    append_none (x ∷ xs) = ap (λ ys. x ∷ ys) (append_none xs)

    by : (rest : List Standing) → p.rest ≡ rest → p.done ≡ all
    by [] e = sym (append_none p.done) ∙ (ap (λ r. p.done ++ r) (sym e) ∙ sym p.whole)
    by (s ∷ ss) e = let some = ap length (sym (ap (map (λ (s : Standing). s.label.id)) e) ∙ (p.left ∙ drops)) in absurd (omega (arith, some))

-- the next one stands in the store
pub next_stands : (nodes : Nodes) (numbers : List NodeId) (i : ℕ) (above : Row) (f : Branches) (id : NodeId) (p : Parted numbers i (standing above f))
    (n : Next numbers i (standing above f) id p) → Stands nodes above f → StandsThere nodes id n.here
next_stands nodes numbers i above f id p n stands =
    record {
      is_id = n.is_id;
      stands = (subst (Every (StandsIn nodes)) n.is_rest (every_second (StandsIn nodes) p.done p.rest (subst (Every (StandsIn nodes)) p.whole (all_stand nodes above f stands)))).0;
    }

abbrev pub none_yet : (numbers : List NodeId) (above : Row) (f : Branches) → ids_of f ≡ numbers → Parted numbers 0 (standing above f)
none_yet numbers above f are = record { done = []; rest = standing above f; whole = refl; left = ids_standing above f ∙ are }

pub enters_none : (schema : Schema) (a : Account) → Enters a a (flat_map (keys_held schema) []) (flat_map (values_given schema) [])
enters_none schema a = record { keys_behind = sym (nothing _); values_behind = sym (nothing _) }
  where
    nothing : {A : Type 0} (xs : List A) → xs ++ [] ≡ xs
    nothing [] = refl
    nothing (x ∷ xs) = ap (λ ys. x ∷ ys) (nothing xs)

pub enters_more : (schema : Schema) (a b c : Account) (done : List Standing) (s : Standing)
    → Enters a b (flat_map (keys_held schema) done) (flat_map (values_given schema) done) → Enters b c (keys_held schema s) (values_given schema s)
    → Enters a c (flat_map (keys_held schema) (done ++ s ∷ [])) (flat_map (values_given schema) (done ++ s ∷ []))
enters_more schema a b c done s first second =
    record {
      keys_behind = second.keys_behind ∙ (ap (λ hs. hs ++ keys_held schema s) first.keys_behind ∙ flat_map_more (keys_held schema) _ done s);
      values_behind = second.values_behind ∙ (ap (λ vs. vs ++ values_given schema s) first.values_behind ∙ flat_map_more (values_given schema) _ done s);
    }

pub enters_same : (schema : Schema) (a b : Account) (done all : List Standing) → done ≡ all
    → Enters a b (flat_map (keys_held schema) done) (flat_map (values_given schema) done) → Enters a b (flat_map (keys_held schema) all) (flat_map (values_given schema) all)
enters_same schema a b done all is = subst (λ (ss : List Standing). Enters a b (flat_map (keys_held schema) ss) (flat_map (values_given schema) ss)) is

-- ---- a way

way_more : (schema : Schema) (frame : Frame) (way : Way)
    → way_reads schema (frame ∷ way) ≡ way_reads schema way + (4 + (levels schema + 4) * names_of schema frame.label.schema.0)
way_more schema frame way = let l : length (frame ∷ way) ≡ suc (length way) = refl in omega (arith, l)

way_within : (schema : Schema) (way up down : Way) → way ≡ up ++ down → way_reads schema down ≤ way_reads schema way
way_within schema way up down is = let e = ap (way_reads schema) is in let less = longer up in omega (arith, e, less)
  where
    longer : (up : Way) → way_reads schema down ≤ way_reads schema (up ++ down)
    longer [] = omega arith
    longer (frame ∷ up) = let rest = longer up in let one = way_more schema frame (up ++ down) in omega (arith, rest, one)

-- a row on a way, the way to it, and the way on from it
pub record Halfway (way : Way) (here : Row) (left : ℕ) : Type 0 where
  pub up : Way
  pub down : Way
  pub whole : way ≡ up ++ down
  pub is_here : end_of Top up ≡ here
  pub few : length up ≤ left

around_append : (up down : Way) (f : Branches) → around (up ++ down) f ≡ around up (around down f)
around_append [] down f = refl
around_append (frame ∷ up) down f = ap (λ b. join frame.before (node frame.label b frame.after)) (around_append up down f)

end_append : (above : Row) (up down : Way) → end_of above (up ++ down) ≡ end_of (end_of above up) down
end_append above [] down = refl
end_append above (frame ∷ up) down = end_append (Below frame.label.id) up down

-- the last frame of a way that isn't empty
pub record Last (up : Way) : Type 0 where
  pub first : Way
  pub frame : Frame
  pub is : up ≡ first ++ frame ∷ []

pub last_of : (frame : Frame) (way : Way) → Last (frame ∷ way)
last_of frame [] = record { first = []; frame = frame; is = refl }
last_of frame (next ∷ way) = let rest = last_of next way in record { first = frame ∷ rest.first; frame = rest.frame; is = ap (λ w. frame ∷ w) rest.is }

is_top : Row → Bool
is_top Top = true
is_top (Below id) = false

pub top_not : (id : NodeId) → Below id ≡ Top → ⊥
unfolding is_top
top_not id e = false≢true (ap is_top e)

id_of : NodeId → Row → NodeId
id_of d Top = d
id_of d (Below id) = id

pub below_same : (a b : NodeId) → Below a ≡ Below b → a ≡ b
unfolding id_of
below_same a b e = ap (id_of a) e

module _ (schema : Schema) (nodes : Nodes) (way : Way) (f : Branches) (hangs : Hangs nodes Top (around way f)) where
  -- at the top no node of the way is left
  none_up : (left : ℕ) (h : Halfway way Top left) → h.up ≡ []
  none_up left h = by h.up refl
    where
      by : (up : Way) → h.up ≡ up → h.up ≡ []
      by [] e = e
      by (frame ∷ up) e =
          let l = last_of frame up in
          absurd (top_not l.frame.label.id (sym (end_more Top l.first l.frame) ∙ (ap (end_of Top) (sym l.is ∙ sym e) ∙ h.is_here)))

  pub all_up : (left : ℕ) (h : Halfway way Top left) (was now : List Holding) → now ≡ was ++ way_held schema (end_of Top h.up) h.down f → now ≡ was ++ way_held schema Top way f
  all_up left h was now is =
      let none = none_up left h in
      is ∙ ap₂ (λ (r : Row) (w : Way). was ++ way_held schema r w f) (ap (end_of Top) none) (sym (h.whole ∙ ap (λ u. u ++ h.down) none))

  empty : (up : Way) (left : ℕ) → length up ≤ left → left ≡ 0 → up ≡ []
  empty [] left less none = refl
  empty (frame ∷ up) left less none = absurd (omega (arith, less, none))

  pub all_ended : (here : Row) (left : ℕ) (h : Halfway way here left) (was now : List Holding) → left ≡ 0
      → now ≡ was ++ way_held schema (end_of Top h.up) h.down f → now ≡ was ++ way_held schema Top way f
  all_ended here left h was now over is =
      let none = empty h.up left h.few over in
      is ∙ ap₂ (λ (r : Row) (w : Way). was ++ way_held schema r w f) (ap (end_of Top) none) (sym (h.whole ∙ ap (λ u. u ++ h.down) none))

  abbrev pub begun : (row : Row) (levels : ℕ) → end_of Top way ≡ row → size (around way f) ≤ levels → Halfway way row levels
  begun row levels at within = record { up = way; down = []; whole = sym (nothing way); is_here = at; few = let long = longer way in omega (arith, long, within) }
    where
      nothing : (w : Way) → w ++ [] ≡ w
      nothing [] = refl
      nothing (frame ∷ w) = ap (λ v. frame ∷ v) (nothing w)

      longer : (w : Way) → length w ≤ size (around w f)
      longer [] = omega arith
      longer (frame ∷ w) =
          let rest = longer w in
          let whole = weigh_join (λ _. 1) frame.before (node frame.label (around w f) frame.after) in
          let a = size_weigh (around (frame ∷ w) f) in
          let b = size_weigh (around w f) in
          omega (arith, rest, whole, a, b)

  -- a step up
  module _ (id : NodeId) (left : ℕ) (h : Halfway way (Below id) (suc left)) where
    pub record Up : Type 0 where
      pub standing_there : Standing
      pub there : StandsThere nodes id standing_there
      pub then : Halfway way standing_there.row left
      pub cost : way_reads schema then.down ≡ way_reads schema h.down + (4 + (levels schema + 4) * names_of schema standing_there.label.schema.0)
      pub held : (was now mid : List Holding) → mid ≡ was ++ way_held schema (end_of Top h.up) h.down f → now ≡ mid ++ keys_held schema standing_there
          → now ≡ was ++ way_held schema (end_of Top then.up) then.down f

    pub step_up : Up
    step_up = by h.up refl
      where
        by : (up : Way) → h.up ≡ up → Up
        by [] e = absurd (top_not id (sym h.is_here ∙ ap (end_of Top) e))
        by (first ∷ up) e = on (last_of first up)
          where
            on : Last (first ∷ up) → Up
            on l = record {
              standing_there = s;
              there = record { is_id = same_id; stands = stands_there };
              then = record { up = l.first; down = l.frame ∷ h.down; whole = split; is_here = refl; few = shorter };
              cost = way_more schema l.frame h.down;
              held = λ was now mid before after.
                  after
                  ∙ (ap (λ hs. hs ++ keys_held schema s) (before ∙ ap (λ (r : Row). was ++ way_held schema r h.down f) (here ∙ ap Below (sym same_id)))
                  ∙ flat_map_more (keys_held schema) was (on_the_way (Below l.frame.label.id) h.down f) s);
            }
              where
                is_up : h.up ≡ l.first ++ l.frame ∷ []
                is_up = e ∙ l.is

                here : end_of Top h.up ≡ Below id
                here = h.is_here

                same_id : l.frame.label.id ≡ id
                same_id = below_same l.frame.label.id id (sym (end_more Top l.first l.frame) ∙ (ap (end_of Top) (sym is_up) ∙ here))

                split : way ≡ l.first ++ l.frame ∷ h.down
                split = h.whole ∙ (ap (λ u. u ++ h.down) is_up ∙ append_assoc l.first (l.frame ∷ []) h.down)

                s : Standing
                s = record { row = end_of Top l.first; label = l.frame.label; below = around h.down f }

                stands_there : Stands nodes (end_of Top l.first) (node l.frame.label (around h.down f) end)
                stands_there =
                    let row = at_end nodes Top l.first (around (l.frame ∷ h.down) f)
                    (subst (λ (g : Branches). Hangs nodes Top g) (ap (λ w. around w f) split ∙ around_append l.first (l.frame ∷ h.down) f) hangs) in
                    let second = stands_second nodes (end_of Top l.first) l.frame.before (node l.frame.label (around h.down f) l.frame.after) row.stands in
                    (second.0, second.1, tt)

                shorter : length l.first ≤ left
                shorter =
                    let few = h.few in
                    let long = ap length is_up in
                    let one = length-append l.first (l.frame ∷ []) in
                    omega (arith, few, long, one)

-- and what the node there holds is entered
pub moved_on : (schema : Schema) (nodes now : Nodes) (way : Way) (f : Branches) (hangs : Hangs nodes Top (around way f)) (id : NodeId) (here : Row) (left less : ℕ) → left ≡ suc less
    → here ≡ Below id → OnlyReads nodes now → (above : Row) (was mid after : List Holding) (h : Halfway way here left) → mid ≡ was ++ way_held schema (end_of Top h.up) h.down f
    → ((s : Standing) → StandsThere now id s → above ≡ s.row) → ((s : Standing) → StandsThere now id s → after ≡ mid ++ keys_held schema s)
    → (first count next : ℕ) → count ≤ first + way_reads schema h.down
    → ((s : Standing) → StandsThere now id s → next ≤ count + (4 + (levels schema + 4) * names_of schema s.label.schema.0))
    → (h : Halfway way above less) × (after ≡ was ++ way_held schema (end_of Top h.up) h.down f) × (next ≤ first + way_reads schema h.down)
moved_on schema nodes now way f hangs id here left less fewer is reads above was mid after h so row held first count next so_far more =
    let half : Halfway way (Below id) (suc less) =
    record { up = h.up; down = h.down; whole = h.whole; is_here = h.is_here ∙ is; few = let few = h.few in omega (arith, few, fewer) } in
    let up = step_up schema nodes way f hangs id less half in
    let there = there_read nodes now id up.standing_there reads up.there in (
      record { up = up.then.up; down = up.then.down; whole = up.then.whole; is_here = up.then.is_here ∙ sym (row up.standing_there there); few = up.then.few },
      up.held was after mid so (held up.standing_there there),
      let cost = up.cost in let one = more up.standing_there there in omega (arith, cost, one, so_far),
    )

-- what is read is no more than for the whole way, also where the node there is the last
pub read_so_far : (schema : Schema) (way : Way) (here : Row) (left : ℕ) (h : Halfway way here left) (first count : ℕ) → count ≤ first + way_reads schema h.down
    → count ≤ first + way_reads schema way
read_so_far schema way here left h first count so_far = let all = way_within schema way h.up h.down h.whole in omega (arith, all, so_far)

pub read_once_more : (schema : Schema) (nodes now : Nodes) (way : Way) (f : Branches) (hangs : Hangs nodes Top (around way f)) (id : NodeId) (here : Row) (left less : ℕ) → left ≡ suc less
    → here ≡ Below id → OnlyReads nodes now → (h : Halfway way here left) → (first count next : ℕ) → count ≤ first + way_reads schema h.down
    → ((s : Standing) → StandsThere now id s → next ≤ count + (4 + (levels schema + 4) * names_of schema s.label.schema.0))
    → next ≤ first + way_reads schema way
read_once_more schema nodes now way f hangs id here left less fewer is reads h first count next so_far more =
    let half : Halfway way (Below id) (suc less) =
    record { up = h.up; down = h.down; whole = h.whole; is_here = h.is_here ∙ is; few = let few = h.few in omega (arith, few, fewer) } in
    let up = step_up schema nodes way f hangs id less half in
    let cost = up.cost in
    let one = more up.standing_there (there_read nodes now id up.standing_there reads up.there) in
    let all = way_within schema way up.then.up up.then.down up.then.whole in
    omega (arith, cost, one, so_far, all)

-- ---- what is to be told of new nodes

pub news_are : (schema : Schema) (id : NodeId) (s : Standing) (judged : Judged) (absences : List Absent) → s.label.id ≡ id
    → judged ≡ value_judged schema (stored_of s.label) → absences ≡ absences_there schema s
    → record { id = id; judged = judged; absences = absences } ≡ news_of schema s
news_are schema id s judged absences same j a =
    ap (λ i. record { id = i; judged = judged; absences = absences }) (sym same)
    ∙ (ap (λ k. record { id = s.label.id; judged = k; absences = absences }) j
    ∙ ap (λ as_told. record { id = s.label.id; judged = value_judged schema (stored_of s.label); absences = as_told }) a)

pub news_more : (schema : Schema) (so_far now : List rust.News) (n : rust.News) (done all : List Standing) (s : Standing) → all ≡ done ++ s ∷ []
    → now ≡ so_far ++ n ∷ [] → map news_view so_far ≡ map (news_of schema) done → news_view n ≡ news_of schema s
    → map news_view now ≡ map (news_of schema) all
news_more schema so_far now n done all s is pushed before here =
    ap (map news_view) pushed
    ∙ (map-append news_view so_far (n ∷ [])
    ∙ (ap₂ (λ (xs ys : List News). xs ++ ys) before (ap (λ m. m ∷ []) here)
    ∙ (sym (map-append (news_of schema) done (s ∷ []))
    ∙ sym (ap (map (news_of schema)) is))))
