-- Texts of leafs, leaf by leaf.
use Rattle.std.proofs.Common.{◌≡◌, ℕ, ◌+◌, ◌<◌, ◌≤◌, List, [], ◌∷◌, ◌++◌, length, drop, map, get_or, Option, Some, None, refl, sym, ap, ◌∙◌, append_assoc, String, Global}
use Rattle.std.specs.Prelude.{option_map, option_and_then, string_bytes}
use Rattle.std.proofs.lemmas.List.{append-nil, at_drop_all, at_drop_more, map-append}
use Rattle.yspec.specs.text.Text.{Text}
use Rattle.yspec.specs.schema.Schema.{Schema}
use Rattle.yspec.specs.document.Document.{Tree, stored_in}
use Rattle.yspec.specs.edit.Editing.{text_of}
use Rattle.yschema_model.specs.declared.node.SchemaId.{SchemaId}
use Rattle.yschema_model.specs.Layout.{numbers_of}
use Rattle.ylive_facts.specs.Keys.{texts_in}

module _ (s : Schema) (t : Tree) (ids : List SchemaId) where
  -- the texts so far, as bytes, with those of the leafs from a place on
  abbrev pub with_texts : List (String Global) → Option (List Text) → Option (List Text)
  with_texts done rest = option_map (λ ts. map string_bytes done ++ ts) rest

  abbrev pub from : ℕ → Option (List Text)
  from place = texts_in s (numbers_of (drop place ids)) t

  abbrev pub text_at : SchemaId → Option Text
  text_at id = option_and_then (text_of s) (stored_in id.0 t)

  abbrev with_first : Option Text → Option (List Text) → Option (List Text)
  with_first text rest = option_and_then (λ x. option_map (λ ts. x ∷ ts) rest) text

  abbrev pub SoFar : List (String Global) → ℕ → Type 0
  SoFar done place = with_texts done (from place) ≡ texts_in s (numbers_of ids) t

  left : (i : ℕ) (d : SchemaId) → i < length ids → from i ≡ with_first (text_at (get_or ids i d)) (from (i + 1))
  left i d less = at_drop_more (λ (xs : List SchemaId). texts_in s (numbers_of xs) t) ids i d less

  longer : (done : List (String Global)) (text : String Global) (rest : Option (List Text))
      → with_texts (done ++ text ∷ []) rest ≡ with_texts done (option_map (λ ts. string_bytes text ∷ ts) rest)
  longer done text None = refl
  longer done text (Some ts) =
      ap (λ xs. Some (xs ++ ts)) (map-append string_bytes done (text ∷ []))
      ∙ ap Some (append_assoc (map string_bytes done) (string_bytes text ∷ []) ts)

  -- one more text
  pub text_more : (i : ℕ) (d : SchemaId) (done next : List (String Global)) (text : String Global) → i < length ids → Some (string_bytes text) ≡ text_at (get_or ids i d)
      → next ≡ done ++ text ∷ [] → SoFar done i → SoFar next (i + 1)
  text_more i d done next text less is pushed so =
      ap (λ ts. with_texts ts (from (i + 1))) pushed
      ∙ (longer done text (from (i + 1))
      ∙ (ap (λ o. with_texts done (with_first o (from (i + 1)))) is
      ∙ (sym (ap (with_texts done) (left i d less)) ∙ so)))

  -- one that is missing
  pub text_missing : (i : ℕ) (d : SchemaId) (done : List (String Global)) → i < length ids → None ≡ text_at (get_or ids i d)
      → SoFar done i → None ≡ texts_in s (numbers_of ids) t
  text_missing i d done less is so =
      ap (λ o. with_texts done (with_first o (from (i + 1)))) is
      ∙ (sym (ap (with_texts done) (left i d less)) ∙ so)

  -- all of them
  pub texts_all : (i : ℕ) (done : List (String Global)) → length ids ≤ i → SoFar done i → Some (map string_bytes done) ≡ texts_in s (numbers_of ids) t
  texts_all i done over so =
      sym (ap Some (append-nil (map string_bytes done)))
      ∙ (sym (at_drop_all (λ (xs : List SchemaId). with_texts done (texts_in s (numbers_of xs) t)) ids i over) ∙ so)
