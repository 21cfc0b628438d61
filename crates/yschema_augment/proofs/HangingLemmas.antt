-- Hanging one row more is putting it behind all that stands there.
use Rattle.std.proofs.Common.{◌≡◌, ◌++◌, ◌==◌, Bool, true, false, cond, List, [], ◌∷◌, refl, sym, ap, ap₂, ◌∙◌}
use Rattle.yspec.specs.Forest.{Forest, end, node, join}
use Rattle.yspec.proofs.ForestLemmas.{join_end, join_assoc}
use Rattle.yschema_augment.specs.Hanging.{Hung, given_by, hung_at, hung, put}
use Rattle.yschema_expand.specs.NumberedView.{Numbered}

abbrev pub Nodes : Type 0 → Type 0
Nodes L = Forest (Numbered L)

module _ {L : Type 0} where
  put_join : (h : Hung L) (f g : Nodes L) → put h (join f g) ≡ join (put h f) (put h g)
  put_join h end g = refl
  put_join h (node l below after) g =
      ap (node l (cond (h.target == l.number) (join (put h below) (h.row l)) (put h below))) (put_join h after g)

  -- what stands below a node with what it is given, once a row is put into both
  put_both : (h : Hung L) (b : Bool) (r f g more below : Nodes L) → below ≡ put h f → more ≡ cond b (join (put h g) r) (put h g)
      → join below more ≡ cond b (join (put h (join f g)) r) (put h (join f g))
  put_both h true r f g more below e d = ap₂ join e d
      ∙ (sym (join_assoc (put h f) (put h g) r) ∙ ap (λ k. join k r) (sym (put_join h f g)))
  put_both h false r f g more below e d = ap₂ join e d ∙ sym (put_join h f g)

  -- what a node is given is put into as well
  abbrev Puts : Hung L → (Numbered L → Nodes L) → (Numbered L → Nodes L) → Type 0
  Puts h give more = (l : Numbered L) → more l ≡ cond (h.target == l.number) (join (put h (give l)) (h.row l)) (put h (give l))

  put_given : (h : Hung L) (give more : Numbered L → Nodes L) → Puts h give more → (f : Nodes L) → given_by more f ≡ put h (given_by give f)
  put_given h give more puts end = refl
  put_given h give more puts (node l below after) = ap₂ (node l)
      (put_both h (h.target == l.number) (h.row l) (given_by give below) (give l) (more l) (given_by more below) (put_given h give more puts below) (puts l))
      (put_given h give more puts after)

  given_none : (f : Nodes L) → given_by (λ l. end) f ≡ f
  given_none end = refl
  given_none (node l below after) = ap₂ (node l) (join_end (given_by (λ l. end) below) ∙ given_none below) (given_none after)

  puts_last : (h : Hung L) (all : List (Hung L)) → Puts h (hung_at all) (hung_at (all ++ h ∷ []))
  puts_last h [] l = by (h.target == l.number)
    where
      by : (b : Bool) → cond b (join (given_by (hung_at []) (h.row l)) end) end ≡ cond b (join end (h.row l)) end
      by true = join_end (given_by (hung_at []) (h.row l)) ∙ given_none (h.row l)
      by false = refl
  puts_last h (k ∷ later) l = by (k.target == l.number) (put_given h (hung_at later) (hung_at (later ++ h ∷ [])) (puts_last h later) (k.row l)) (puts_last h later l)
    where
      inner : Nodes L
      inner = given_by (hung_at later) (k.row l)

      given : Bool → Nodes L
      given b = cond b (join inner (hung_at later l)) (hung_at later l)

      by : (b : Bool) → given_by (hung_at (later ++ h ∷ [])) (k.row l) ≡ put h inner
          → hung_at (later ++ h ∷ []) l ≡ cond (h.target == l.number) (join (put h (hung_at later l)) (h.row l)) (put h (hung_at later l))
          → cond b (join (given_by (hung_at (later ++ h ∷ [])) (k.row l)) (hung_at (later ++ h ∷ []) l)) (hung_at (later ++ h ∷ []) l)
          ≡ cond (h.target == l.number) (join (put h (given b)) (h.row l)) (put h (given b))
      by false one is = is
      by true one is = put_both h (h.target == l.number) (h.row l) inner (hung_at later l) (hung_at (later ++ h ∷ []) l) (given_by (hung_at (later ++ h ∷ [])) (k.row l)) one is

  -- Hanging one row more, behind all others, is putting it there.
  pub hung_more : (h : Hung L) (all : List (Hung L)) (f : Nodes L) → hung (all ++ h ∷ []) f ≡ put h (hung all f)
  hung_more h all f = put_given h (hung_at all) (hung_at (all ++ h ∷ [])) (puts_last h all) f

  pub hung_none : (f : Nodes L) → hung [] f ≡ f
  hung_none f = given_none f
