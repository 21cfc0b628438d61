-- Tuples, value by value.
use Rattle.std.proofs.Common.{◌≡◌, ℕ, ◌+◌, ◌*◌, ◌<◌, List, [], ◌∷◌, ◌++◌, Vec, map, length, drop, get_or, Option, Some, None, refl, sym, ap, ◌∙◌, append_assoc, arith}
use Rattle.std.specs.Prelude.{option_map, option_and_then}
use Rattle.std.proofs.lemmas.List.{at_drop_more, length-map}
use Rattle.std.proofs.lemmas.List.Sums.{sum_by-cons}
use Rattle.std.specs.Global.{Global}
use Rattle.yspec.specs.types.Types.{Val}
use Rattle.yspec.specs.schema.Schema.{Schema, LeafPath}
use Rattle.yspec.specs.document.Document.{Tree}
use Rattle.yspec.specs.document.Instances.{Tuple, value_at, tuple_at, tuple_of_paths, paths_of}
use Rattle.yschema_model.specs.declared.node.SchemaId.{SchemaId}
use Rattle.yschema_model.specs.declared.node.Tuples as rust
use Rattle.yschema_model.specs.Layout.{numbers_of, tuples_view}
use Rattle.ycheck.proofs.ValueLemmas.{with_front}
use Rattle.ylive_facts.specs.Reads.{path_reads}
use Rattle.ylive_facts.proofs.ReadLemmas.{own_reads}

-- the leafs of a tuple by what names them
module _ {X : Type 0} (path : X → LeafPath) (paths : List X → List LeafPath) (first : (x : X) (xs : List X) → paths (x ∷ xs) ≡ path x ∷ paths xs) (s : Schema) (t : Tree) where
  abbrev whole : List X → Option Tuple
  whole xs = tuple_at s t (paths xs)

  abbrev with_first : Option Val → Option Tuple → Option Tuple
  with_first value rest = option_and_then (λ v. option_map (λ vs. v ∷ vs) rest) value

  left : (xs : List X) (i : ℕ) (x d : X) → i < length xs → x ≡ get_or xs i d → whole (drop i xs) ≡ with_first (value_at s t (path x)) (whole (drop (i + 1) xs))
  left xs i x d less is =
      at_drop_more whole xs i d less
      ∙ (sym (ap (λ y. whole (y ∷ drop (i + 1) xs)) is) ∙ ap (tuple_at s t) (first x (drop (i + 1) xs)))

  longer : (done : Tuple) (v : Val) (rest : Option Tuple) → with_front (done ++ v ∷ []) rest ≡ with_front done (option_map (λ vs. v ∷ vs) rest)
  longer done v None = refl
  longer done v (Some vs) = ap Some (append_assoc done (v ∷ []) vs)

  -- one more value
  pub value_more : (xs : List X) (i : ℕ) (x d : X) (done next : Tuple) (v : Val) → i < length xs → x ≡ get_or xs i d → Some v ≡ value_at s t (path x) → next ≡ done ++ v ∷ []
      → with_front done (whole (drop i xs)) ≡ whole xs → with_front next (whole (drop (i + 1) xs)) ≡ whole xs
  value_more xs i x d done next v less is value pushed so =
      ap (λ vs. with_front vs (whole (drop (i + 1) xs))) pushed
      ∙ (longer done v (whole (drop (i + 1) xs))
      ∙ (ap (λ o. with_front done (with_first o (whole (drop (i + 1) xs)))) value
      ∙ (sym (ap (with_front done) (left xs i x d less is)) ∙ so)))

  -- one that is missing
  pub value_missing : (xs : List X) (i : ℕ) (x d : X) (done : Tuple) → i < length xs → x ≡ get_or xs i d → None ≡ value_at s t (path x)
      → with_front done (whole (drop i xs)) ≡ whole xs → None ≡ tuple_of_paths s t (paths xs)
  value_missing [] i x d done less is value so = absurd (omega (arith, less))
  value_missing (y ∷ ys) i x d done less is value so =
      ap (λ o. with_front done (with_first o (whole (drop (i + 1) (y ∷ ys))))) value
      ∙ (sym (ap (with_front done) (left (y ∷ ys) i x d less is)) ∙ (so
      ∙ (ap (tuple_at s t) (first y ys) ∙ sym (ap (tuple_of_paths s t) (first y ys)))))

-- the paths that are left, and what is read of the first of them
pub next_path : (xs : List (Vec SchemaId Global)) (i : ℕ) (x d : Vec SchemaId Global) → i < length xs → x ≡ get_or xs i d
    → path_reads (map (λ path. numbers_of path.items) (drop i xs)) ≡ (length x.items + 1) + path_reads (map (λ path. numbers_of path.items) (drop (i + 1) xs))
next_path xs i x d less is =
    let rest = drop (i + 1) xs in
    let numbers : Vec SchemaId Global → LeafPath = λ path. numbers_of path.items in
    at_drop_more (λ ys. path_reads (map numbers ys)) xs i d less
    ∙ (sym (ap (λ y. path_reads (map numbers (y ∷ rest))) is)
    ∙ (sum_by-cons (λ (path : LeafPath). length path + 1) (numbers x) (map numbers rest)
    ∙ ap (λ n. (n + 1) + path_reads (map numbers rest)) (length-map x.items (λ id. id.0))))

-- what is read of a key
pub key_read : (t : rust.Tuples) (number : ℕ) (keys : List SchemaId) → number ≡ 0 → keys ≡ t.keys.items → path_reads (paths_of (tuples_view t) number) ≡ 2 * length keys
key_read t number keys none is =
    ap (λ n. path_reads (paths_of (tuples_view t) n)) none
    ∙ (own_reads (numbers_of t.keys.items)
    ∙ (ap (λ n. 2 * n) (length-map t.keys.items (λ id. id.0)) ∙ sym (ap (λ (ids : List SchemaId). 2 * length ids) is)))
