-- By which keys paths find entries.
use Rattle.std.proofs.Common.{◌≡◌, ℕ, ◌+◌, ◌<◌, Bool, true, false, cond, eqb, ◌&&◌, List, [], ◌∷◌, ◌++◌, length, map, Option, Some, None, refl, sym, ap, ap₂, ◌∙◌, arith}
use Rattle.std.specs.Prelude.{option_map, option_and_then, bytes_eq}
use Rattle.std.specs.Cmp.Lexicographic.{pointwise}
use Rattle.std.specs.Option.{option_map_or}
use Rattle.std.proofs.lemmas.Bool.{eqb-true, eq-eqb}
use Rattle.std.proofs.lemmas.Bool.Decides.{nat_tests}
use Rattle.yspec.specs.Forest.{end, node}
use Rattle.yspec.specs.text.Text.{Text}
use Rattle.yspec.specs.types.Types.{Val}
use Rattle.yspec.specs.schema.Schema.{Schema, SchemaNode, Kind, container, leaf, leaf_list, list, choice, case, keys_in, node_at}
use Rattle.yspec.specs.document.Document.{Stored, Tree, stored_in}
use Rattle.yspec.specs.document.Instances.{value_of}
use Rattle.yspec.specs.edit.EditText.{Key}
use Rattle.yspec.specs.edit.Editing.{text_of, is_the_text, key_text, fits_keys, positions_where}
use Rattle.ystore.specs.Store.{same_row}
use Rattle.ystore_rows.specs.declared.row.Row.{Row}
use Rattle.ylive_facts.specs.Keys as words
use Rattle.ylive_facts.specs.Keys.{value_key, texts_key, is_held, times_held, texts_in, entry_key, first_key, kind_reference, key_at}
use Rattle.ylive_facts.proofs.ReferringLemmas.{refers_as}
use Rattle.ylive_facts.proofs.SameLemmas.{row_itself}

neither : (b : Bool) → (b && false) ≡ false
neither true = refl
neither false = refl

-- the texts that are said of leafs are those that they have
texts_fit : (schema : Schema) (keys : List Key) (below : Tree) (numbers : List ℕ)
    → fits_keys schema numbers keys below ≡ option_map_or (pointwise bytes_eq (map (key_text keys schema) numbers)) (texts_in schema numbers below) false
texts_fit schema keys below [] = refl
texts_fit schema keys below (number ∷ numbers) =
    let text = option_and_then (text_of schema) (stored_in number below) in
    ap (λ b. is_the_text said text && b) (texts_fit schema keys below numbers) ∙ by text (texts_in schema numbers below)
  where
    said : Text
    said = key_text keys schema number

    others : List Text
    others = map (key_text keys schema) numbers

    by : (text : Option Text) (texts : Option (List Text)) → (is_the_text said text && option_map_or (pointwise bytes_eq others) texts false)
        ≡ option_map_or (pointwise bytes_eq (said ∷ others)) (option_and_then (λ t. option_map (λ ts. t ∷ ts) texts) text) false
    by None texts = refl
    by (Some t) None = neither (bytes_eq said t)
    by (Some t) (Some ts) = refl

module _ (schema : Schema) (above : Row) (number : ℕ) (said : List Text) where
  abbrev key : words.Key
  key = texts_key above number said

  -- an entry of the list
  held_texts : (o : Option (List Text)) → option_map_or (pointwise bytes_eq said) o false ≡ is_held key (option_map (texts_key above number) o)
  held_texts None = refl
  held_texts (Some texts) =
      let same = pointwise bytes_eq said texts in
      sym (ap₂ (λ a b. a && (b && same)) (row_itself above) (eq-eqb number number refl))

  -- and another node
  module _ (s : Stored) (below : Tree) (other : eqb s.schema_number number ≡ false) where
    not_same : eqb number s.schema_number ≡ false
    not_same = grind (arith, nat_tests, other)

    no_texts : (o : Option (List Text)) → is_held key (option_map (texts_key above s.schema_number) o) ≡ false
    no_texts None = refl
    no_texts (Some texts) = ap (λ b. same_row above above && (b && pointwise bytes_eq said texts)) not_same ∙ neither (same_row above above)

    no_entry : (numbers : List ℕ) → is_held key (entry_key schema numbers above s below) ≡ false
    no_entry [] = refl
    no_entry (n ∷ ns) = no_texts (texts_in schema (n ∷ ns) below)

    no_value : (kind : Kind) → is_held key (kind_reference schema kind s) ≡ false
    no_value kind = refers_as (λ held. is_held key held ≡ false) refl (λ target v. refl) schema kind s

    no_first : (kind : Kind) → is_held key (first_key schema kind above s below) ≡ false
    no_first (container presence) = no_value (container presence)
    no_first (leaf type absence) = no_value (leaf type absence)
    no_first (leaf_list type defaults amount) = no_value (leaf_list type defaults amount)
    no_first (list tuples amount) = no_entry tuples.keys
    no_first (choice default_case is_mandatory) = no_value (choice default_case is_mandatory)
    no_first case = no_value case

    no_node : (n : Option SchemaNode) → is_held key (option_and_then (λ (m : SchemaNode). first_key schema m.kind above s below) n) ≡ false
    no_node None = refl
    no_node (Some n) = no_first n.kind

    pub not_held : is_held key (key_at schema above s below 0) ≡ false
    not_held = no_node (node_at schema s.schema_number)

module _ (schema : Schema) (above : Row) (keys : List Key) where
  -- an entry of a list that has a key
  entry_fits : (s : Stored) (below : Tree) (numbers : List ℕ) → 0 < length numbers
      → fits_keys schema numbers keys below ≡ is_held (texts_key above s.schema_number (map (key_text keys schema) numbers)) (entry_key schema numbers above s below)
  entry_fits s below [] some = absurd (omega (arith, some))
  entry_fits s below (number ∷ numbers) some =
      texts_fit schema keys below (number ∷ numbers)
      ∙ held_texts schema above s.schema_number (map (key_text keys schema) (number ∷ numbers)) (texts_in schema (number ∷ numbers) below)

  kind_fits : (s : Stored) (below : Tree) (kind : Kind) → 0 < length (keys_in kind)
      → fits_keys schema (keys_in kind) keys below ≡ is_held (texts_key above s.schema_number (map (key_text keys schema) (keys_in kind))) (first_key schema kind above s below)
  kind_fits s below (container presence) some = absurd (omega (arith, some))
  kind_fits s below (leaf type absence) some = absurd (omega (arith, some))
  kind_fits s below (leaf_list type defaults amount) some = absurd (omega (arith, some))
  kind_fits s below (list tuples amount) some = entry_fits s below tuples.keys some
  kind_fits s below (choice default_case is_mandatory) some = absurd (omega (arith, some))
  kind_fits s below case some = absurd (omega (arith, some))

  pub found_by : (s : Stored) (below : Tree) (n : SchemaNode) → node_at schema s.schema_number ≡ Some n → 0 < length (keys_in n.kind)
      → fits_keys schema (keys_in n.kind) keys below
      ≡ is_held (texts_key above s.schema_number (map (key_text keys schema) (keys_in n.kind))) (key_at schema above s below 0)
  found_by s below n is some =
      kind_fits s below n.kind some
      ∙ sym (ap (λ o. is_held (texts_key above s.schema_number (map (key_text keys schema) (keys_in n.kind))) (option_and_then (λ (m : SchemaNode). first_key schema m.kind above s below) o)) is)

  module _ (number : ℕ) (n : SchemaNode) (is : node_at schema number ≡ Some n) (some : 0 < length (keys_in n.kind)) where
    abbrev fits : Tree → Bool
    fits = fits_keys schema (keys_in n.kind) keys

    abbrev said_key : words.Key
    said_key = texts_key above number (map (key_text keys schema) (keys_in n.kind))

    pub found_in : (t : Tree) (position : ℕ) → length (positions_where number fits position t) ≡ times_held schema above t 0 said_key
    found_in end position = refl
    found_in (node s below after) position = by (eqb s.schema_number number) refl (λ p. found_in after p)
      where
        one : (b : Bool) (rest : List ℕ) → length (cond b (position ∷ []) [] ++ rest) ≡ cond b 1 0 + length rest
        one true rest = omega arith
        one false rest = omega arith

        none : (k : ℕ) → k ≡ 0 + k
        none k = omega arith

        by : (b : Bool) → eqb s.schema_number number ≡ b → ((p : ℕ) → length (positions_where number fits p after) ≡ times_held schema above after 0 said_key)
            → length (cond b (cond (fits below) (position ∷ []) [] ++ positions_where number fits (position + 1) after) (positions_where number fits position after))
            ≡ cond (is_held said_key (key_at schema above s below 0)) 1 0 + times_held schema above after 0 said_key
        by true e more =
            let same = eqb-true s.schema_number number e in
            one (fits below) (positions_where number fits (position + 1) after)
            ∙ ap₂ (λ b k. cond b 1 0 + k)
            (found_by s below n (ap (node_at schema) same ∙ is) some ∙ ap (λ k. is_held (texts_key above k (map (key_text keys schema) (keys_in n.kind))) (key_at schema above s below 0)) same)
            (more (position + 1))
        by false e more =
            more position
            ∙ (none (times_held schema above after 0 said_key)
            ∙ ap (λ b. cond b 1 0 + times_held schema above after 0 said_key)
            (sym (not_held schema above number (map (key_text keys schema) (keys_in n.kind)) s below e)))
