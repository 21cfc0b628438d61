-- The nodes that are judged where values come and go, one by one.
use Rattle.std.proofs.Common.{◌≡◌, ℕ, ◌+◌, ◌≤◌, Bool, true, false, cond, List, [], ◌∷◌, Option, Some, None, refl, sym, ap, ap₂, ◌∙◌, arith}
use Rattle.std.specs.Option.{option_map_or}
use Rattle.yspec.specs.Forest.{weigh}
use Rattle.yspec.specs.types.Types.{Val}
use Rattle.yschema_model.specs.declared.node.SchemaId.{SchemaId}
use Rattle.ystore.specs.Store.{same_key}
use Rattle.ystore.specs.declared.key.Key as rust
use Rattle.ystore.specs.declared.key.Key.TheVariants.{Value}
use Rattle.ystore_tree.specs.Hanging.{Numbered, Branches}
use Rattle.ylive_marks.specs.Keys.{Keys, has_key}
use Rattle.ylive_retell.specs.Growing.{times_valued}
use Rattle.ylive_retell.specs.Reads.{holding}
use Rattle.ylive_retell.proofs.OnceLemmas.{worth, Passes, IsOnce, judged, none_judged, judged_most}
use Rattle.ylive_retell.proofs.PartLemmas.{weigh_none, weigh_both, weigh_if}

module _ (test : rust.Key → ℕ → Bool) (held : Keys) where
  -- whether a node holds a key
  abbrev held_by : ℕ → rust.Key → ℕ
  held_by number key = worth (has_key held number key)

  abbrev pub judged_at : List (SchemaId × Val) → Numbered → ℕ
  judged_at ps n = judged test (held_by n.id.0) ps

  pub judged_nodes : (f : Branches) (ps : List (SchemaId × Val)) → judged test (holding held f) ps ≡ weigh (judged_at ps) f
  judged_nodes f [] = sym (weigh_none f)
  judged_nodes f (p ∷ ps) =
      let key = Value p.0 p.1 in
      let passes = test key (times_valued key (p ∷ ps)) in
      ap₂ (λ (m n : ℕ). m + n) (weigh_if passes (λ n. held_by n.id.0 key) f) (judged_nodes f ps)
      ∙ weigh_both (λ n. cond passes (held_by n.id.0 key) 0) (judged_at ps) f

  module _ (n : Numbered) (ps : List (SchemaId × Val)) where
    held_so : (o : Option rust.Key) → held n.id.0 0 ≡ o → (p : SchemaId × Val)
        → held_by n.id.0 (Value p.0 p.1) ≡ worth (option_map_or (same_key (Value p.0 p.1)) o false)
    held_so o is p = ap (λ (k : Option rust.Key). worth (option_map_or (same_key (Value p.0 p.1)) k false)) is

    -- a node that holds no key of a value isn't judged
    pub none_at : held n.id.0 0 ≡ None → judged_at ps n ≡ 0
    none_at is = none_judged test (held_by n.id.0) (held_so None is) ps

    -- one that does is judged once
    pub once_at : IsOnce test → (c : ℕ) → ((key : rust.Key) → held n.id.0 0 ≡ Some key → Passes (test key) (times_valued key ps) → 1 ≤ c) → judged_at ps n ≤ c
    once_at once c so = by (held n.id.0 0) refl
      where
        by : (o : Option rust.Key) → held n.id.0 0 ≡ o → judged_at ps n ≤ c
        by None is = let none = none_at is in omega (arith, none)
        by (Some key) is = judged_most test once (held_by n.id.0) key (held_so (Some key) is) ps c (so key is)
