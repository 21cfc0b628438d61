use Rattle.std.proofs.Common.{◌≡◌, ℕ, Option, [], take}
use Rattle.yspec.specs.text.Text.{Text}
use Rattle.yspec.specs.schema.Schema.{is_called}
use Rattle.ybase_index.specs.Names.{found_by, number_among, text_in}
use Rattle.ybase_index.specs.declared.keys.Among.TheVariants.{Children, DataNodes}
use Rattle.yschema_model.specs.Layout.{laid}
use Rattle.yschema_model.specs.Lookup.{first_below, is_data_called, names_in}
use Rattle.yschema_model.proofs.NearestLemmas.{nearest_of, handed}
use Rattle.yschema_model.proofs.index.index_of.Given as goal

abbrev pub invariant-loop-number : goal.invariant-loop-number
invariant-loop-number l =
    let done = laid 0 (take l.number l.slots) in
    let places = handed [] done in
    let numbers = number_among (text_in (names_in l.slots)) l.ordered.items in
    record {
      children : (parent : Option ℕ) (m : ℕ) (t : Text) → found_by numbers l.nodes Children parent m t ≡ first_below parent (is_called m t) done;
      data_nodes : (above : Option ℕ) (m : ℕ) (t : Text) → found_by numbers l.nodes DataNodes above m t ≡ first_below above (is_data_called m t) places;
      nearest : l.nearest.items ≡ nearest_of places;
    }
