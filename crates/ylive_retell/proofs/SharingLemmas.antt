-- The nodes that are judged where values come and go refer to values that are shared, and those of a part that holds no keys aren't
-- among them.
use Rattle.std.proofs.Common.{◌≡◌, ℕ, ◌+◌, ◌≤◌, Bool, true, false, List, [], ◌∷◌, Option, Some, None, option_map, refl, sym, ap, ◌∙◌, arith}
use Rattle.std.specs.Option.{option_map_or}
use Rattle.yspec.specs.Forest.{weigh}
use Rattle.yspec.specs.types.Types.{Val}
use Rattle.yspec.specs.schema.Schema.{Schema}
use Rattle.yspec.specs.document.Document.{Stored, Tree}
use Rattle.yspec_reach.specs.Referring.{Reference, reference_of}
use Rattle.yschema_model.specs.declared.node.SchemaId.{SchemaId}
use Rattle.ystore.specs.Store.{same_key}
use Rattle.ystore.specs.declared.key.Key as rust
use Rattle.ystore.specs.declared.key.Key.TheVariants.{Value}
use Rattle.ystore_rows.specs.declared.row.Row.{Row}
use Rattle.ystore_rows.specs.declared.row.Row.TheVariants.{Top}
use Rattle.ystore_tree.specs.Hanging.{Numbered, Branches, stored_of, tree_of, times}
use Rattle.ylive_facts.specs.Given.{given_view, is_referred}
use Rattle.ylive_facts.specs.Keys.{key_view, value_key}
use Rattle.ylive_facts.proofs.SameLemmas.{same_keys}
use Rattle.ylive_marks.specs.Keys.{Keys}
use Rattle.ylive_retell.specs.Each.{Each}
use Rattle.ylive_retell.specs.Growing.{times_valued}
use Rattle.ylive_retell.specs.Keyed.{HasKeys}
use Rattle.ylive_retell.specs.Reads.{holding}
use Rattle.ylive_retell.specs.Standing.{Every}
use Rattle.ylive_retell.proofs.EachLemmas.{each_other}
use Rattle.ylive_retell.proofs.HolderLemmas.{judged_at, judged_nodes, none_at, once_at}
use Rattle.ylive_retell.proofs.OnceLemmas.{worth, Passes, IsOnce, judged, valued_first}
use Rattle.ylive_retell.proofs.PartLemmas.{IsPaid, paid_beside, weigh_tree}
use Rattle.ylive_retell.proofs.ReferenceLemmas.{key_refers}
use Rattle.ylive_retell.proofs.TransferLemmas.{viewed}

-- how many leafs and items refer to a value that is shared
abbrev pub sharing : Schema → (Reference → Bool) → Tree → ℕ
sharing schema shares t = weigh (λ s. worth (option_map_or shares (reference_of schema s) false)) t

-- a key of a value to whose schema node leafrefs refer
pub record IsValue (schema : Schema) (key : rust.Key) : Type 0 where
  pub number : ℕ
  pub value : Val
  pub sees : key_view key ≡ value_key number value
  pub refers : is_referred schema number ≡ true

abbrev pub AllReferred : Schema → List (SchemaId × Val) → Type 0
AllReferred schema ps = Every (λ d. is_referred schema d.0 ≡ true) (given_view ps)

value_among : (schema : Schema) (key : rust.Key) (ps : List (SchemaId × Val)) → AllReferred schema ps → 1 ≤ times_valued key ps → IsValue schema key
value_among schema key [] each some = absurd (omega (arith, some))
value_among schema key (p ∷ ps) each some = by (same_key (Value p.0 p.1) key) refl (λ more. value_among schema key ps each.1 more)
  where
    by : (b : Bool) → same_key (Value p.0 p.1) key ≡ b → (1 ≤ times_valued key ps → IsValue schema key) → IsValue schema key
    by true e rest = record { number = p.0.0; value = p.1; sees = sym ((same_keys (Value p.0 p.1) key).0 e); refers = each.0 }
    by false e rest = let step = valued_first key p ps in let none = ap worth e in rest (omega (arith, some, step, none))

module _ (schema : Schema) (had now : Keys) (f part : Branches) (keyed : Each (HasKeys schema (viewed had)) Top f)
    (still : (number slot : ℕ) (key : rust.Key) → now number slot ≡ Some key → had number slot ≡ Some key)
    (gone : (number : ℕ) → 1 ≤ times number part → now number 0 ≡ None) (within : (w : Numbered → ℕ) → weigh w part ≤ weigh w f)
    (shares : Reference → Bool) where
  abbrev may : Numbered → ℕ
  may n = worth (option_map_or shares (reference_of schema (stored_of n)) false)

  -- a node that holds the key of a shared value refers to that
  refers_to : (row : Row) (n : Numbered) (below : Branches) → HasKeys schema (viewed had) row n below
      → (key : rust.Key) → now n.id.0 0 ≡ Some key → (v : IsValue schema key) → shares (v.number, v.value) ≡ true → 1 ≤ may n
  refers_to row n below has key holds v shared =
      let held = ap (option_map key_view) (still n.id.0 0 key holds) ∙ ap Some v.sees in
      let refers = key_refers schema row (stored_of n) (tree_of below) v.number v.value (sym (has 0) ∙ held) in
      let one = ap (λ (o : Option Reference). worth (option_map_or shares o false)) refers ∙ ap worth shared in
      omega (arith, one)

  -- so they are no more than the nodes outside the part that refer to one
  pub judged_paid : (test : rust.Key → ℕ → Bool) → IsOnce test → (ps : List (SchemaId × Val)) → AllReferred schema ps
      → ((key : rust.Key) (v : IsValue schema key) → Passes (test key) (times_valued key ps) → shares (v.number, v.value) ≡ true)
      → judged test (holding now f) ps + sharing schema shares (tree_of part) ≤ sharing schema shares (tree_of f)
  judged_paid test once ps each so =
      let nodes = judged_nodes test now f ps in
      let paid = paid_beside part (judged_at test now ps) may Top f within
      (each_other _ (IsPaid part (judged_at test now ps) may) Top f (λ row n below more has. (
        λ here. none_at test now n ps (gone n.id.0 here),
        once_at test now n ps once (may n) (λ key holds passes.
            let v = value_among schema key ps each (let least = passes.least in let most = passes.most in omega (arith, least, most)) in
            refers_to row n below has key holds v (so key v passes)),
      )) keyed) in
      let of_part = weigh_tree (λ s. worth (option_map_or shares (reference_of schema s) false)) part in
      let of_all = weigh_tree (λ s. worth (option_map_or shares (reference_of schema s) false)) f in
      omega (arith, nodes, paid, of_part, of_all)
