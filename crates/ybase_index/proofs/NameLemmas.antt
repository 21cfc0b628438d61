-- What an index holds, once a node is added.
use Rattle.std.proofs.Common.{◌≡◌, ◌≢◌, ℕ, Bool, true, false, cond, ◌&&◌, List, [], ◌∷◌, Option, Some, None, refl, sym, ap, ap₂, ◌∙◌, arith}
use Rattle.std.specs.Prelude.{◌==◌, option_and_then, unwrap_or}
use Rattle.std.proofs.lemmas.Bool.{eq-eqb, ne_eqb}
use Rattle.std.proofs.lemmas.Bool.Decides.{nat_tests}
use Rattle.std.proofs.lemmas.Slice.Eq.{bytes_eq-Decides}
use Rattle.yspec.specs.Forest.{first_of}
use Rattle.yspec.specs.text.Text.{Text, is_text}
use Rattle.yspec.specs.linking.Planned.{same_number}
use Rattle.yspec.proofs.BasicLemmas.{texts_differ}
use Rattle.ybase_index.specs.Keys.{above_in, first_at, is_key, is_looked_for}
use Rattle.ybase_index.specs.Names.{found_by, is_at, number_among}
use Rattle.ybase_index.specs.declared.keys.Among.{Among}
use Rattle.ybase_index.specs.declared.keys.FirstNodes.{FirstNodes}
use Rattle.ybase_index.specs.declared.keys.IndexedNode.{IndexedNode}
use Rattle.ybase_index.specs.declared.keys.Key.{Key}

-- the numbers of names
abbrev pub Numbers : Type 0
Numbers = Text → Option ℕ

abbrev pub AreApart : Numbers → Type 0
AreApart names = (a b : Text) (number : ℕ) → names a ≡ Some number → names b ≡ Some number → a ≡ b

some_is : {X : Type 0} → (x y : X) → Some x ≡ Some y → x ≡ y
some_is x y e = ap (λ o. unwrap_or o x) e

-- ---- what is found

and_false : (b : Bool) → (b && false) ≡ false
and_false true = refl
and_false false = refl

turned : (m n : ℕ) → (m == n) ≡ (n == m)
turned m n = grind (arith, nat_tests)

turned_number : (a b : Option ℕ) → same_number a b ≡ same_number b a
turned_number None None = refl
turned_number None (Some n) = refl
turned_number (Some m) None = refl
turned_number (Some m) (Some n) = turned m n

module _ (node : IndexedNode) (name : Text) (among : Among) (above : Option ℕ) (m : ℕ) where
  abbrev key_at : ℕ → Key
  key_at number = record { above = above; «module» = m; name = number }

  abbrev find_at : FirstNodes → Option ℕ → Option ℕ
  find_at nodes = option_and_then (λ number. first_at nodes among (key_at number))

  -- a node is at the key of its own name where it is at its name
  own_key : (number : ℕ) (t : Text) → is_text t name ≡ true → is_key among node number (key_at number) ≡ is_at among above m t node name
  own_key number t same =
      ap₂ (λ (a : Bool) (b : Bool). is_looked_for among node && (a && b)) (turned_number (above_in among node) above)
      (ap₂ (λ (a : Bool) (b : Bool). a && b) (turned node.«module» m) (eq-eqb number number refl ∙ sym same))

  other_key : (given number : ℕ) → given ≢ number → is_key among node given (key_at number) ≡ false
  other_key given number other =
      ap (λ (b : Bool). is_looked_for among node && (same_number (above_in among node) above && (node.«module» == m && b))) (ne_eqb given number other)
      ∙ (ap (λ (b : Bool). is_looked_for among node && (same_number (above_in among node) above && b)) (and_false (node.«module» == m))
      ∙ (ap (λ (b : Bool). is_looked_for among node && b) (and_false (same_number (above_in among node) above)) ∙ and_false (is_looked_for among node)))

  other_text_at : (t : Text) → is_text t name ≡ false → is_at among above m t node name ≡ false
  other_text_at t other =
      ap (λ (b : Bool). is_looked_for among node && (same_number above (above_in among node) && (m == node.«module» && b))) other
      ∙ (ap (λ (b : Bool). is_looked_for among node && (same_number above (above_in among node) && b)) (and_false (m == node.«module»))
      ∙ (ap (λ (b : Bool). is_looked_for among node && b) (and_false (same_number above (above_in among node))) ∙ and_false (is_looked_for among node)))

  -- once a node is added whose name has a number
  pub found_after : (names : Numbers) (given : ℕ) (before after : FirstNodes) → AreApart names → names name ≡ Some given
      → ((key : Key) → first_at after among key ≡ first_of (first_at before among key) (cond (is_key among node given key) (Some node.number) None))
      → (t : Text) → found_by names after among above m t ≡ first_of (found_by names before among above m t) (cond (is_at among above m t node name) (Some node.number) None)
  found_after names given before after apart is added t = by (is_text t name) refl (names t) refl
    where
      by : (b : Bool) → is_text t name ≡ b → (o : Option ℕ) → names t ≡ o
          → find_at after (names t) ≡ first_of (find_at before (names t)) (cond (is_at among above m t node name) (Some node.number) None)
      by true e o f =
          let own : names t ≡ Some given = ap names ((bytes_eq-Decides t name).0 e) ∙ is in
          ap (find_at after) own
          ∙ (added (key_at given)
          ∙ ap₂ (λ (a : Option ℕ) (b : Bool). first_of a (cond b (Some node.number) None)) (sym (ap (find_at before) own)) (own_key given t e))
      by false e (Some x) f =
          let other : given ≢ x = λ (h : given ≡ x). texts_differ t name e (apart t name x f (is ∙ ap Some h)) in
          ap (find_at after) f
          ∙ (added (key_at x)
          ∙ ap₂ (λ (a : Option ℕ) (b : Bool). first_of a (cond b (Some node.number) None))
          (sym (ap (find_at before) f)) (other_key given x other ∙ sym (other_text_at t e)))
      by false e None f =
          ap (find_at after) f
          ∙ sym (ap₂ (λ (a : Option ℕ) (b : Bool). first_of (find_at before a) (cond b (Some node.number) None)) f (other_text_at t e))

pub none_found : (names : Numbers) (nodes : FirstNodes) (among : Among) (above : Option ℕ) (m : ℕ) (t : Text)
    → ((key : Key) → first_at nodes among key ≡ None) → found_by names nodes among above m t ≡ None
none_found names nodes among above m t none = by (names t)
  where
    by : (o : Option ℕ) → option_and_then (λ number. first_at nodes among (record { above = above; «module» = m; name = number })) o ≡ None
    by None = refl
    by (Some number) = none (record { above = above; «module» = m; name = number })

-- ---- names by their numbers

named_text : (text_at : ℕ → Text) (numbers : List ℕ) (t : Text) (n : ℕ) → number_among text_at numbers t ≡ Some n → t ≡ text_at n
named_text text_at [] t n e = absurd cc
named_text text_at (m ∷ numbers) t n e = by (is_text t (text_at m)) refl e (named_text text_at numbers t n)
  where
    by : (b : Bool) → is_text t (text_at m) ≡ b → cond b (Some m) (number_among text_at numbers t) ≡ Some n
        → (number_among text_at numbers t ≡ Some n → t ≡ text_at n) → t ≡ text_at n
    by true is f rest = (bytes_eq-Decides t (text_at m)).0 is ∙ ap text_at (some_is m n f)
    by false is f rest = rest f

-- no two texts have one number
pub apart_among : (text_at : ℕ → Text) (numbers : List ℕ) → AreApart (number_among text_at numbers)
apart_among text_at numbers a b n first second = named_text text_at numbers a n first ∙ sym (named_text text_at numbers b n second)
