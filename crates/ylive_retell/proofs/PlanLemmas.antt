-- A change of a row, prepared and planned.
use Rattle.std.proofs.Common.{◌≡◌, ℕ, ◌<◌, ◌≤◌, ◌++◌, List, [], ◌∷◌, length, Option, Some, None, drop, option_map, refl, sym, ap, ap₂, ◌∙◌, arith, subst, append-nil}
use Rattle.std.specs.Prelude.{IfSome}
use Rattle.yspec.specs.Forest.{node, join, size}
use Rattle.yspec.specs.types.Types.{Val}
use Rattle.yschema_model.specs.Layout.{number_of}
use Rattle.ystore.specs.Held.{Label}
use Rattle.ystore.specs.Store.{label_at, node_count}
use Rattle.ystore_rows.specs.declared.row.NodeId.{NodeId}
use Rattle.ystore_rows.specs.declared.row.Row.{Row}
use Rattle.ystore_rows.specs.declared.row.Row.TheVariants.{Top, Below}
use Rattle.ystore.specs.declared.nodes.Nodes.{Nodes}
use Rattle.ystore_tree.specs.Hanging.{Branches, Stands, Hangs, Keeps}
use Rattle.ystore_tree.specs.Parts.{OnlyReads}
use Rattle.ystore_tree.specs.Ways.{Frame, Way, around, end_of}
use Rattle.ystore_tree.specs.declared.swapping.Swap.{Swap}
use Rattle.ystore_tree.proofs.HangingLemmas.{at_end, stands_second}
use Rattle.ystore_tree.proofs.FoundLemmas.{end_more, around_more}
use Rattle.ystore_tree.proofs.PartLemmas.{label_is, stands_read}
use Rattle.yspec_play.specs.Absences.{Default}
use Rattle.ylive_facts.specs.Keys.{Holding, holdings}
use Rattle.ylive_retell.specs.Accounts.{Enters}
use Rattle.ylive_retell.specs.Plans.{IsReady, row_schema}
use Rattle.ylive_retell.specs.declared.account.Account.{Account}
use Rattle.ystore_tree.specs.Swaps.{Swaps}
use Rattle.ystore_tree.specs.declared.swapping.Change.{Change}
use Rattle.ystore_tree.specs.declared.swapping.Change.TheVariants.{Add, Put, Take, Move}
use Rattle.yschema_model.specs.declared.node.SchemaId.{SchemaId}
use Rattle.ylive_facts.specs.Given.{given_view}
use Rattle.ylive_retell.proofs.StayingLemmas.{holdings_append}
use Rattle.ylive_retell.proofs.AccountLemmas.{Last, last_of, top_not, below_same, hangs_read}

-- ---- the schema node above a row

row_more : (above : Option ℕ) (way : Way) (frame : Frame) → row_schema above (way ++ frame ∷ []) ≡ Some frame.label.schema.0
row_more above [] frame = refl
row_more above (first ∷ way) frame = row_more (Some first.label.schema.0) way frame

pub none_above : (way : Way) (row : Row) → row ≡ Top → end_of Top way ≡ row → None ≡ row_schema None way
none_above [] row is at = refl
none_above (frame ∷ way) row is at =
    let l = last_of frame way in
    absurd (top_not l.frame.label.id (sym (end_more Top l.first l.frame) ∙ (ap (end_of Top) (sym l.is) ∙ (at ∙ is))))

pub schema_above_is : (nodes : Nodes) (way : Way) (f : Branches) (row : Row) (id : NodeId) → row ≡ Below id → end_of Top way ≡ row → Hangs nodes Top (around way f)
    → number_of (option_map (λ (l : Label). l.schema) (label_at nodes id)) ≡ row_schema None way
schema_above_is nodes [] f row id is at hangs = absurd (top_not id (sym (at ∙ is)))
schema_above_is nodes (first ∷ way) f row id is at hangs = on (last_of first way)
  where
    on : Last (first ∷ way) → number_of (option_map (λ (l : Label). l.schema) (label_at nodes id)) ≡ row_schema None (first ∷ way)
    on l =
        let row = at_end nodes Top l.first (join l.frame.before (node l.frame.label f l.frame.after))
        (subst (λ (g : Branches). Hangs nodes Top g) (ap (λ w. around w f) l.is ∙ around_more l.first l.frame f) hangs) in
        let second = stands_second nodes (end_of Top l.first) l.frame.before (node l.frame.label f l.frame.after) row.stands in
        let same = below_same l.frame.label.id id (sym (end_more Top l.first l.frame) ∙ (ap (end_of Top) (sym l.is) ∙ (at ∙ is))) in
        ap (λ (o : Option Label). number_of (option_map (λ (l : Label). l.schema) o)) (label_is nodes (end_of Top l.first) l.frame.label f id same (second.0, second.1, tt))
        ∙ (sym (row_more None l.first l.frame) ∙ ap (row_schema None) (sym l.is))

-- ---- a store that is read

pub keeps_read : (before after : Nodes) (tree : Branches) (above : Row) (loose : Branches) → OnlyReads before after → Keeps before tree above loose → Keeps after tree above loose
keeps_read before after tree above loose only keeps =
    record {
      hangs = hangs_read before after Top tree only keeps.hangs;
      stands = stands_read before after above loose only keeps.stands;
      once = keeps.once;
      all = only.node_count ∙ keeps.all;
    }

abbrev pub ready_read : (swap : Swap) (before after : Nodes) → OnlyReads before after → IsReady swap before → IsReady swap after
ready_read swap before after only r =
    record {
      way = r.way;
      f = r.f;
      loose = r.loose;
      g = r.g;
      left = r.left;
      at = r.at;
      swaps = r.swaps;
      sorted = r.sorted;
      keeps = keeps_read before after (around r.way r.f) swap.above r.loose only r.keeps;
      room = subst (λ o. IfSome o (λ held. length held.shape.children < held.room)) (sym (only.held swap.above)) r.room;
    }

-- all nodes of a document are in its store
pub within : (nodes : Nodes) (tree : Branches) (above : Row) (loose : Branches) → Keeps nodes tree above loose → size tree ≤ node_count nodes
within nodes tree above loose keeps = let all = keeps.all in omega (arith, all)

-- what hangs on the row at the end of a way
pub hangs_there : (nodes : Nodes) (way : Way) (f : Branches) (row : Row) → end_of Top way ≡ row → Hangs nodes Top (around way f) → Hangs nodes row f
hangs_there nodes way f row at hangs = subst (λ (r : Row). Hangs nodes r f) at (at_end nodes Top way f hangs)

-- ---- accounts

-- defaults of a row, and then keys
pub place_is : (a b : Account) (keys : List Holding) (now : List Holding) (values : List Default) → Enters a b [] values → now ≡ holdings b.keys.items ++ keys
    → now ≡ holdings a.keys.items ++ keys
place_is a b keys now values first second = second ∙ ap (λ hs. hs ++ keys) (first.keys_behind ∙ append-nil (holdings a.keys.items))

-- what is entered where nothing was
pub entered_first : (a b : Account) (keys : List Holding) (values : List Default) → holdings a.keys.items ≡ [] → given_view a.values.items ≡ [] → Enters a b keys values
    → (holdings b.keys.items ≡ keys) × (given_view b.values.items ≡ values)
entered_first a b keys values no_keys no_values entered = (
  entered.keys_behind ∙ ap (λ hs. hs ++ keys) no_keys,
  entered.values_behind ∙ ap (λ vs. vs ++ values) no_values,
)

-- and what is added to it then, but for so many keys
pub added_keys : (a b c : Account) (n : ℕ) (keys : List Holding) → holdings a.keys.items ≡ keys → c.keys.items ≡ a.keys.items ++ drop n b.keys.items
    → holdings c.keys.items ≡ keys ++ holdings (drop n b.keys.items)
added_keys a b c n keys are added =
    ap holdings added ∙ (holdings_append a.keys.items (drop n b.keys.items) ∙ ap (λ hs. hs ++ holdings (drop n b.keys.items)) are)

pub added_values : (a b c : Account) (values more : List Default) → given_view a.values.items ≡ values → given_view b.values.items ≡ more
    → c.values.items ≡ a.values.items ++ b.values.items → given_view c.values.items ≡ values ++ more
added_values a b c values more are also added =
    ap given_view added ∙ (given_append a.values.items b.values.items ∙ ap₂ (λ (vs ws : List Default). vs ++ ws) are also)
  where
    given_append : (xs ys : List (SchemaId × Val)) → given_view (xs ++ ys) ≡ given_view xs ++ given_view ys
    given_append [] ys = refl
    given_append (x ∷ xs) ys = ap (λ vs. (x.0.0, x.1) ∷ vs) (given_append xs ys)

-- ---- what goes

pub left_stands : (nodes : Nodes) (above : Row) (f loose g left : Branches) (schema : SchemaId) (change : Change) → Swaps schema change f loose g left → Stands nodes above f
    → Stands nodes above left
left_stands nodes above f loose g left schema (Add id) a stands = subst (λ (h : Branches). Stands nodes above h) (sym a.none) tt
left_stands nodes above f loose g left schema (Put old id) p stands =
    let second = stands_second nodes above p.before (node p.from p.under p.after) (subst (λ (h : Branches). Stands nodes above h) p.was stands) in
    subst (λ (h : Branches). Stands nodes above h) (sym p.goes) (second.0, second.1, tt)
left_stands nodes above f loose g left schema (Take old place) t stands =
    let second = stands_second nodes above t.before (node t.from t.under t.after) (subst (λ (h : Branches). Stands nodes above h) t.was stands) in
    subst (λ (h : Branches). Stands nodes above h) (sym t.goes) (second.0, second.1, tt)
left_stands nodes above f loose g left schema (Move id from to) m stands = subst (λ (h : Branches). Stands nodes above h) (sym m.none_left) tt
