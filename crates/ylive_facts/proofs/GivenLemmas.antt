-- The value of an instance, where its schema node is referred to.
use Rattle.std.proofs.Common.{◌≡◌, ℕ, ◌+◌, Bool, true, false, cond, eqb, List, [], ◌∷◌, map, Option, Some, None, refl, sym, ap, ◌∙◌, ◌&&◌, arith}
use Rattle.std.specs.Prelude.{option_to_list, count_by}
use Rattle.std.proofs.lemmas.Bool.{eqb-true, false≢true}
use Rattle.std.proofs.lemmas.List.Sums.{sum_by-cons}
use Rattle.yspec.specs.types.Types.{Val}
use Rattle.yspec.specs.types.Order.{same_value}
use Rattle.yspec.specs.schema.Schema.{Schema}
use Rattle.yspec.specs.document.Document.{Stored}
use Rattle.yspec.specs.document.Instances.{value_of, is_value}
use Rattle.yspec_play.specs.Absences.{Default, is_default}
use Rattle.ylive_facts.specs.Given.{is_referred, referred, own_values}

-- ---- one value

pub one_referred : (s : Schema) (number : ℕ) (v : Val) (b : Bool) → is_referred s number ≡ b → referred s ((number, v) ∷ []) ≡ cond b ((number, v) ∷ []) []
one_referred s number v true e = ap (λ b. cond b ((number, v) ∷ []) []) e
one_referred s number v false e = ap (λ b. cond b ((number, v) ∷ []) []) e

own_by : (s : Schema) (number : ℕ) (o : Option Val) (b : Bool) → is_referred s number ≡ b
    → referred s (map (λ v. (number, v)) (option_to_list o)) ≡ cond b (map (λ v. (number, v)) (option_to_list o)) []
own_by s number None true e = refl
own_by s number None false e = refl
own_by s number (Some v) b e = one_referred s number v b e

pub own_unreferred : (s : Schema) (st : Stored) → is_referred s st.schema_number ≡ false → referred s (own_values s st) ≡ []
own_unreferred s st e = own_by s st.schema_number (value_of s st) false e

pub own_referred : (s : Schema) (st : Stored) (o : Option Val) → is_referred s st.schema_number ≡ true → o ≡ value_of s st
    → referred s (own_values s st) ≡ map (λ v. (st.schema_number, v)) (option_to_list o)
own_referred s st o e is = own_by s st.schema_number (value_of s st) true e ∙ ap (λ p. map (λ v. (st.schema_number, v)) (option_to_list p)) (sym is)

-- ---- how often

abbrev worth : Bool → ℕ
worth b = cond b 1 0

counted_one : (number : ℕ) (v : Val) (d : Default) (ds : List Default) → count_by (is_default number v) (d ∷ ds) ≡ cond (is_default number v d) 1 0 + count_by (is_default number v) ds
counted_one number v d ds = sum_by-cons (λ (x : Default). cond (is_default number v x) 1 0) d ds

pub counted_referred : (s : Schema) (number : ℕ) (v : Val) (ds : List Default) → is_referred s number ≡ true → count_by (is_default number v) (referred s ds) ≡ count_by (is_default number v) ds
counted_referred s number v [] e = refl
counted_referred s number v (d ∷ ds) e = by (is_referred s d.0) refl (counted_referred s number v ds e) ∙ sym (counted_one number v d ds)
  where
    alone : (k : ℕ) → 0 + k ≡ k
    alone k = omega arith

    none : (b : Bool) → eqb d.0 number ≡ b → is_referred s d.0 ≡ false → worth (b && same_value v d.1) ≡ 0
    none true same other = absurd (false≢true (sym other ∙ (ap (is_referred s) (eqb-true d.0 number same) ∙ e)))
    none false same other = refl

    by : (b : Bool) → is_referred s d.0 ≡ b → count_by (is_default number v) (referred s ds) ≡ count_by (is_default number v) ds
        → count_by (is_default number v) (cond b (d ∷ referred s ds) (referred s ds)) ≡ cond (is_default number v d) 1 0 + count_by (is_default number v) ds
    by true here rest = counted_one number v d (referred s ds) ∙ ap (λ k. cond (is_default number v d) 1 0 + k) rest
    by false other rest = rest ∙ (sym (alone (count_by (is_default number v) ds)) ∙ ap (λ k. k + count_by (is_default number v) ds) (sym (none (eqb d.0 number) refl other)))

pub counted_own : (s : Schema) (number : ℕ) (v : Val) (st : Stored) → is_referred s number ≡ true
    → count_by (is_default number v) (referred s (own_values s st)) ≡ cond (eqb st.schema_number number) (cond (is_value v (value_of s st)) 1 0) 0
counted_own s number v st e = counted_referred s number v (own_values s st) e ∙ by (value_of s st)
  where
    parts : (b c : Bool) → worth (b && c) ≡ cond b (worth c) 0
    parts true c = refl
    parts false c = refl

    alone : (k : ℕ) → k + 0 ≡ k
    alone k = omega arith

    nothing : (b : Bool) → worth false ≡ cond b 0 0
    nothing true = refl
    nothing false = refl

    by : (o : Option Val) → count_by (is_default number v) (map (λ w. (st.schema_number, w)) (option_to_list o)) ≡ cond (eqb st.schema_number number) (cond (is_value v o) 1 0) 0
    by None = nothing (eqb st.schema_number number)
    by (Some w) = counted_one number v (st.schema_number, w) [] ∙ (alone (cond (is_default number v (st.schema_number, w)) 1 0) ∙ parts (eqb st.schema_number number) (same_value v w))
