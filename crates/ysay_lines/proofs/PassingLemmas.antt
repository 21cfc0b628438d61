-- What is left of the places behind values.
use Rattle.std.proofs.Common.{◌≡◌, ℕ, suc, ◌+◌, ◌≤◌, ◌<◌, Bool, true, false, ◌++◌, List, [], ◌∷◌, drop, length, get_or, refl, sym, ap, ◌∙◌, arith, rules}
use Rattle.std.specs.Prelude.{Vec}
use Rattle.std.specs.declared.alloc.Global.{Global}
use Rattle.std.specs.Borrow.{Bor}
use Rattle.std.proofs.lemmas.List.{at_drop_more, at_drop_all, drop-drop, length-append}
use Rattle.json.specs.Json.{Json, null, boolean, number, string, array, object}
use Rattle.json.specs.Token.{Token}
use Rattle.json.specs.Tree.{json_tokens, items_tokens, members_tokens}
use Rattle.json.specs.Value.{items_view, members_view, value_view}
use Rattle.json.specs.declared.value.Value.{Value, Array, Object, the_lemmas}
use Rattle.json.proofs.Trees.{view-Array, view-Object}
use Rattle.yspec.specs.text.Text.{Text}
use Rattle.ysay_lines.specs.Lines.{past}
use Rattle.ysay_lines.specs.declared.place.Place.{Place}

-- ---- one value

abbrev pub is_single : Json → Bool
is_single (array js) = false
is_single (object ms) = false
is_single _ = true

pub single : (v : Value Global) → ((x : _) → v ≡ Array x → ⊥) → ((x : _) → v ≡ Object x → ⊥) → is_single (value_view v) ≡ true
single v no_array no_object = search (rules, the_lemmas)

pub behind_one : (n : ℕ) (places : List Place) → drop n (drop 1 places) ≡ drop (suc n) places
behind_one n places = drop-drop n 1 places ∙ (let one : 1 + n ≡ suc n = omega arith in ap (λ k. drop k places) one)

pub single_passed : (j : Json) (places : List Place) → is_single j ≡ true → drop 1 places ≡ past j places
single_passed null places h = refl
single_passed (boolean b) places h = refl
single_passed (number n) places h = refl
single_passed (string s) places h = refl
single_passed (array js) places h = cc
single_passed (object ms) places h = cc

pub array_passed : (j : Json) (v : Vec (Value Global) Global) (vs : List (Value Global)) (places inside left : List Place) → j ≡ value_view (Array v) → vs ≡ v.items
    → inside ≡ drop 1 places → left ≡ drop (length (items_tokens (items_view vs))) inside → left ≡ past j places
array_passed j v vs places inside left is items behind passed =
    passed ∙ (ap (drop (length (items_tokens (items_view vs)))) behind ∙ (behind_one (length (items_tokens (items_view vs))) places
    ∙ (ap (λ us. past (array (items_view us)) places) items ∙ sym (ap (λ k. past k places) (is ∙ view-Array v)))))

pub object_passed : (j : Json) (v : Vec (Bor Text × Value Global) Global) (ms : List (Bor Text × Value Global)) (places inside left : List Place) → j ≡ value_view (Object v) → ms ≡ v.items
    → inside ≡ drop 1 places → left ≡ drop (length (members_tokens (members_view ms))) inside → left ≡ past j places
object_passed j v ms places inside left is items behind passed =
    passed ∙ (ap (drop (length (members_tokens (members_view ms)))) behind ∙ (behind_one (length (members_tokens (members_view ms))) places
    ∙ (ap (λ us. past (object (members_view us)) places) items ∙ sym (ap (λ k. past k places) (is ∙ view-Object v)))))

-- ---- one after another

two_passed : (a b : List Token) (places : List Place) → drop (length b) (drop (length a) places) ≡ drop (length (a ++ b)) places
two_passed a b places = drop-drop (length b) (length a) places ∙ sym (ap (λ n. drop n places) (length-append a b))

pub item_passed : (vs : List (Value Global)) (i : ℕ) (v : Value Global) (left rest all : List Place) → i < length vs → v ≡ get_or vs i v → rest ≡ past (value_view v) left
    → drop (length (items_tokens (items_view (drop i vs)))) left ≡ all → drop (length (items_tokens (items_view (drop (i + 1) vs)))) rest ≡ all
item_passed vs i v left rest all within is passed so =
    let others = items_tokens (items_view (drop (i + 1) vs)) in
    ap (drop (length others)) passed ∙ (two_passed (json_tokens (value_view v)) others left
    ∙ (ap (λ (w : Value Global). drop (length (items_tokens (items_view (w ∷ drop (i + 1) vs)))) left) is
    ∙ (sym (at_drop_more (λ ws. drop (length (items_tokens (items_view ws))) left) vs i v within) ∙ so)))

pub items_passed : (vs : List (Value Global)) (i : ℕ) (left rest all : List Place) → length vs ≤ i → rest ≡ drop 1 left
    → drop (length (items_tokens (items_view (drop i vs)))) left ≡ all → rest ≡ all
items_passed vs i left rest all end behind so = behind ∙ (sym (at_drop_all (λ ws. drop (length (items_tokens (items_view ws))) left) vs i end) ∙ so)

pub member_passed : (ms : List (Bor Text × Value Global)) (i : ℕ) (m : Bor Text × Value Global) (left inside rest all : List Place) → i < length ms → m ≡ get_or ms i m → inside ≡ drop 1 left
    → rest ≡ past (value_view m.1) inside → drop (length (members_tokens (members_view (drop i ms)))) left ≡ all → drop (length (members_tokens (members_view (drop (i + 1) ms)))) rest ≡ all
member_passed ms i m left inside rest all within is behind passed so =
    let others = members_tokens (members_view (drop (i + 1) ms)) in
    ap (drop (length others)) (passed ∙ ap (past (value_view m.1)) behind) ∙ (two_passed (json_tokens (value_view m.1)) others (drop 1 left)
    ∙ (behind_one (length (json_tokens (value_view m.1) ++ others)) left
    ∙ (ap (λ (w : Bor Text × Value Global). drop (length (members_tokens (members_view (w ∷ drop (i + 1) ms)))) left) is
    ∙ (sym (at_drop_more (λ ws. drop (length (members_tokens (members_view ws))) left) ms i m within) ∙ so))))

pub members_passed : (ms : List (Bor Text × Value Global)) (i : ℕ) (left rest all : List Place) → length ms ≤ i → rest ≡ drop 1 left
    → drop (length (members_tokens (members_view (drop i ms)))) left ≡ all → rest ≡ all
members_passed ms i left rest all end behind so = behind ∙ (sym (at_drop_all (λ ws. drop (length (members_tokens (members_view ws))) left) ms i end) ∙ so)
