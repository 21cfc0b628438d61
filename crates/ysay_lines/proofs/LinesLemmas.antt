-- What is told of a text.
use Rattle.std.proofs.Common.{◌≡◌, ℕ, List, Option, Some, None, Result, Ok, Err, IfOk, sym, ap, ◌∙◌}
use Rattle.std.specs.Option.{option_map_or}
use Rattle.json.specs.Json.{Json}
use Rattle.yspec.specs.schema.Schema.{Schema}
use Rattle.yspec.specs.document.Document.{Step}
use Rattle.ysay_repeated.specs.Repeated.{json_in}
use Rattle.ysay_lines.specs.Found.{Tells, answer, found_in}
use Rattle.ysay_lines.specs.Lines.{at_line, found, place_in, token_places}
use Rattle.ysay_lines.specs.declared.lines.Lines.{Lines}
use Rattle.ysay_lines.specs.declared.located.Located.{Located}
use Rattle.ysay_lines.specs.declared.place.Place.{Place}

pub top_told : (s : Schema) (top : Located) (j : Json) (places : List Place) (bytes : List ℕ) → places ≡ token_places bytes → Tells s None top j places
    → (place : List Step) → answer top None place ≡ found s None place j (token_places bytes)
top_told s top j places bytes is told place = told None place ∙ ap (λ ps. found s None place j ps) is

pub told_of_json : (s : Schema) (bytes : List ℕ) (j : Json) (place : List Step) → json_in bytes ≡ Some j → found s None place j (token_places bytes) ≡ place_in s bytes place
unfolding place_in
told_of_json s bytes j place is = sym (ap (λ (o : Option Json). option_map_or (λ i. found s None place i (token_places bytes)) o (at_line 1 1)) is)

pub told_of_none : (s : Schema) (bytes : List ℕ) (place : List Step) → json_in bytes ≡ None → at_line 1 1 ≡ place_in s bytes place
unfolding place_in
told_of_none s bytes place is = sym (ap (λ (o : Option Json). option_map_or (λ i. found s None place i (token_places bytes)) o (at_line 1 1)) is)

pub lines_told : {E : Type 0} (r : Result Lines E) (s : Schema) (bytes : List ℕ) (j : Json) → json_in bytes ≡ Some j
    → IfOk r (λ lines. (place : List Step) → found_in lines place ≡ found s None place j (token_places bytes))
    → IfOk r (λ lines. (place : List Step) → found_in lines place ≡ place_in s bytes place)
lines_told (Ok lines) s bytes j is told = λ place. told place ∙ told_of_json s bytes j place is
lines_told (Err e) s bytes j is told = tt
