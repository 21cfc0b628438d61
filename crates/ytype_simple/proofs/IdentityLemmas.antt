-- Of identities, and of types without any.
use Rattle.std.proofs.Common.{◌≡◌, ℕ, ℤ, ◌+◌, ◌<◌, Bool, true, false, cond, ◌||◌, List, [], ◌∷◌, map, length, drop, Some, refl, sym, ap, ap₂, ◌∙◌}
use Rattle.std.specs.Prelude.{find, option_map, slice_index_or}
use Rattle.std.specs.List.{list_any}
use Rattle.std.specs.Borrow.{Bor}
use Rattle.std.specs.Cmp.{int_eq_equiv}
use Rattle.std.specs.Ordering.{int_cmp, int_eq}
use Rattle.std.specs.BTreeMap.{is_at}
use Rattle.std.proofs.lemmas.Bool.{or_parts}
use Rattle.std.proofs.lemmas.List.{at_drop_more}
use Rattle.yspec.specs.text.Text.{Text, is_text}
use Rattle.yspec.specs.types.Types.{Base, integer_base, decimal_base, string_base, boolean_base, empty_base, enumeration_base, bits_base, identity_base, binary_base, SimpleType, base_in, simple_in, is_numbered}
use Rattle.ytype_simple.specs.Identities.{beside, is_identity, pair_view}

pub held_numbered : (z : ℤ) (ps : List ℤ) → list_any (is_at (int_cmp z)) ps ≡ is_numbered ps z
held_numbered z [] = refl
held_numbered z (p ∷ ps) = ap (λ b. b || list_any (is_at (int_cmp z)) ps) (int_eq_equiv.symm z p) ∙ ap (λ b. int_eq p z || b) (held_numbered z ps)

pub base_kept : (home : Text) (b : Base) → is_identity b ≡ false → base_in home b ≡ b
base_kept home (integer_base i) none = refl
base_kept home (decimal_base digits) none = refl
base_kept home string_base none = refl
base_kept home boolean_base none = refl
base_kept home empty_base none = refl
base_kept home (enumeration_base names) none = refl
base_kept home (bits_base names) none = refl
base_kept home (identity_base other identities numbers) none = absurd cc
base_kept home binary_base none = refl

pub simple_kept : (home : Text) (s : SimpleType) → is_identity s.base ≡ false → s ≡ simple_in home s
simple_kept home s none = ap (λ b. record s { base = b }) (sym (base_kept home s.base none))

pub members_kept : (home : Text) (ms : List SimpleType) → list_any (λ (s : SimpleType). is_identity s.base) ms ≡ false → ms ≡ map (simple_in home) ms
members_kept home [] none = refl
members_kept home (s ∷ ms) none =
    let parts = or_parts (is_identity s.base) (list_any (λ (s : SimpleType). is_identity s.base) ms) none in
    ap₂ (λ (x : SimpleType) xs. x ∷ xs) (simple_kept home s parts.0) (members_kept home ms parts.1)

module _ (entries : List (Bor Text × Bor Text)) (text : Text) (i : ℕ) (d : Bor Text × Bor Text) (low : i < length entries) where
  first_by : (e : Bor Text × Bor Text) (rest : List (Bor Text × Bor Text)) (b : Bool) → is_text text e.0.now ≡ b
      → beside (e ∷ rest) text ≡ cond b (Some e.1.now) (beside rest text)
  first_by e rest true h = ap (λ b. option_map (λ (x : Text × Text). x.1) (cond b (Some (pair_view e)) (find (λ (x : Text × Text). is_text text x.0) (map pair_view rest)))) h
  first_by e rest false h = ap (λ b. option_map (λ (x : Text × Text). x.1) (cond b (Some (pair_view e)) (find (λ (x : Text × Text). is_text text x.0) (map pair_view rest)))) h

  pub beside_at : (b : Bool) → is_text text (slice_index_or entries i d).0.now ≡ b
      → beside (drop i entries) text ≡ cond b (Some (slice_index_or entries i d).1.now) (beside (drop (i + 1) entries) text)
  beside_at b h = at_drop_more (λ es. beside es text) entries i d low ∙ first_by (slice_index_or entries i d) (drop (i + 1) entries) b h
