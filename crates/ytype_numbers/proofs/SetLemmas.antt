-- One word more in a set.
use Rattle.std.proofs.Common.{◌≡◌, Bool, true, false, not, cond, Bor, ◌||◌, List, [], ◌∷◌, refl, sym, ap, ◌∙◌}
use Rattle.std.specs.List.{list_any}
use Rattle.std.specs.Ordering.{is_eq, nat_cmp}
use Rattle.std.specs.Cmp.Lexicographic.{slice_cmp}
use Rattle.std.specs.BTreeSet.{BTreeSet, Updates}
use Rattle.std.specs.BTreeMap.{is_at}
use Rattle.std.proofs.lemmas.Map.Text.{is_eq-slice_cmp}
use Rattle.yspec.specs.text.Text.{Text, is_text}
use Rattle.yspec.specs.types.Names.{is_among, has_twice}
use Rattle.ytype_numbers.specs.Sets.{holds_word}
use Rattle.ytype_numbers.proofs.TableLemmas.{one_or_other, text_turned}

-- what a set has, and a word more
abbrev Adds : (Text → Bool) → Text → (Text → Bool) → Type 0
Adds before w after = (t : Text) → after t ≡ (is_text w t || before t)

or_cond : (b c : Bool) → cond b true c ≡ (b || c)
or_cond true c = refl
or_cond false c = refl

pub word_added : (before after : BTreeSet (Bor Text)) (w : Bor Text) → Updates (λ x y. slice_cmp nat_cmp x.now y.now) before after w true → Adds (holds_word before) w.now (holds_word after)
word_added before after w updates t =
    updates.0 (record { ref_ptr = (0, 0); now = t }) ∙ or_cond (is_eq (slice_cmp nat_cmp w.now t)) (holds_word before t)
    ∙ ap (λ b. b || holds_word before t) (is_eq-slice_cmp w.now t)

any_same : (f g : Text → Bool) (ws : List Text) → ((t : Text) → f t ≡ g t) → list_any f ws ≡ list_any g ws
any_same f g [] same = refl
any_same f g (w ∷ ws) same = ap (λ b. b || list_any f ws) (same w) ∙ ap (λ b. g w || b) (any_same f g ws same)

turned : (a b c : Bool) → ((a || b) || c) ≡ (b || (a || c))
turned true true c = refl
turned true false c = refl
turned false true c = refl
turned false false c = refl

-- whether a word comes twice, where it is not among those so far
pub twice_more : (f g : Text → Bool) (w : Text) (ws : List Text) → Adds f w g → f w ≡ false
    → (list_any g ws || has_twice ws) ≡ (list_any f (w ∷ ws) || has_twice (w ∷ ws))
twice_more f g w ws adds new =
    ap (λ b. b || has_twice ws) (any_same g (λ t. is_text w t || f t) ws adds ∙ sym (one_or_other (is_text w) f ws))
    ∙ turned (is_among ws w) (list_any f ws) (has_twice ws)
    ∙ ap (λ b. (b || list_any f ws) || (is_among ws w || has_twice ws)) (sym new)

pub twice_found : (f : Text → Bool) (w : Text) (ws : List Text) → f w ≡ true → (list_any f (w ∷ ws) || has_twice (w ∷ ws)) ≡ true
twice_found f w ws there = ap (λ b. (b || list_any f ws) || has_twice (w ∷ ws)) there

pub among_more : (f g : Text → Bool) (w : Text) (ws : List Text) → Adds f w g → (t : Text) → (g t || is_among ws t) ≡ (f t || is_among (w ∷ ws) t)
among_more f g w ws adds t =
    ap (λ b. b || is_among ws t) (adds t ∙ ap (λ b. b || f t) (text_turned w t)) ∙ turned (is_text t w) (f t) (is_among ws t)

pub was_not : (b : Bool) → true ≡ not b → b ≡ false
was_not false e = refl
was_not true e = cc

none_held : (set : BTreeSet (Bor Text)) → set.keys ≡ [] → (t : Text) → holds_word set t ≡ false
none_held set empty t = ap (list_any (is_at (λ (k : Bor Text). slice_cmp nat_cmp t k.now))) empty

any_none : (f : Text → Bool) (ws : List Text) → ((t : Text) → f t ≡ false) → list_any f ws ≡ false
any_none f [] none = refl
any_none f (w ∷ ws) none = ap (λ b. b || list_any f ws) (none w) ∙ any_none f ws none

pub twice_first : (set : BTreeSet (Bor Text)) (ws : List Text) → set.keys ≡ [] → (list_any (holds_word set) ws || has_twice ws) ≡ has_twice ws
twice_first set ws empty = ap (λ b. b || has_twice ws) (any_none (holds_word set) ws (none_held set empty))

pub among_first : (set : BTreeSet (Bor Text)) (ws : List Text) → set.keys ≡ [] → (t : Text) → (holds_word set t || is_among ws t) ≡ is_among ws t
among_first set ws empty t = ap (λ b. b || is_among ws t) (none_held set empty t)
