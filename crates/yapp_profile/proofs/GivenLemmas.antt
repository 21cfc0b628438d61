-- What an argument of a command is given, as clap answers it.
use Rattle.std.proofs.Common.{◌≡◌, List, [], Option, Some, None, Bor, map, refl, ap, ◌∙◌}
use Rattle.std.specs.Prelude.{option_map, unwrap_or}
use Rattle.clap.specs.Words.{Text, all_of, first_of, first_value, matched_of, raw_values, rows_of}
use Rattle.clap.specs.declared.parser.matches.Found.{Found}
use Rattle.clap.proofs.WalkLemmas.{first_value-rows, raw_values-rows}

pub now_or : {X : Type 0} → (o : Option (Bor X)) (d : Bor X) → (unwrap_or o d).now ≡ unwrap_or (option_map (λ b. b.now) o) d.now
now_or None d = refl
now_or (Some b) d = refl

pub names_or : (o : Option (Bor (List (Bor Text)))) (d : Bor (List (Bor Text)))
    → map (λ name. name.now) (unwrap_or o d).now ≡ unwrap_or (option_map (λ s. map (λ name. name.now) s.now) o) (map (λ name. name.now) d.now)
names_or None d = refl
names_or (Some b) d = refl

-- the texts of an argument, or none
pub given_all : (found : Found) (name : Text) (o : Option (Bor (List (Bor Text)))) (d b : Bor (List (Bor Text)))
    → option_map (λ s. map (λ word. word.now) s.now) o ≡ option_map raw_values (matched_of found name)
    → b ≡ unwrap_or o d → map (λ word. word.now) d.now ≡ [] → map (λ word. word.now) b.now ≡ unwrap_or (all_of name (rows_of found)) []
given_all found name o d b is taken none = ap (λ (x : Bor (List (Bor Text))). map (λ (word : Bor Text). word.now) x.now) taken
    ∙ (names_or o d ∙ (ap (unwrap_or (option_map (λ (s : Bor (List (Bor Text))). map (λ (word : Bor Text). word.now) s.now) o)) none
    ∙ ap (λ (x : Option (List Text)). unwrap_or x []) (is ∙ raw_values-rows found name)))

-- the text of an option, if it is given
pub given_first : (found : Found) (name : Text) (o : Option (Bor Text)) → option_map (λ s. s.now) o ≡ first_value found name
    → option_map (λ s. s.now) o ≡ first_of name (rows_of found)
given_first found name o is = is ∙ first_value-rows found name

pub given_or : (found : Found) (name : Text) (o : Option (Bor Text)) (d b : Bor Text) → option_map (λ s. s.now) o ≡ first_value found name
    → b ≡ unwrap_or o d → b.now ≡ unwrap_or (first_of name (rows_of found)) d.now
given_or found name o d b is taken = ap (λ (x : Bor Text). x.now) taken ∙ (now_or o d ∙ ap (λ (x : Option Text). unwrap_or x d.now) (given_first found name o is))
