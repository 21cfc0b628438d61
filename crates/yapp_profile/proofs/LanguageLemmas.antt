-- Words of a command line, as texts.
use Rattle.std.proofs.Common.{◌≡◌, ◌≢◌, suc, not, List, [], ◌∷◌, length, map, Bor, Option, Some, None, refl, ap, arith}
use Rattle.std.specs.Prelude.{◌==◌, is_some, option_map}
use Rattle.std.proofs.lemmas.Bool.{ne_eqb}
use Rattle.clap.specs.Words.{Text}
use Rattle.yapp_profile.specs.Languages.{is_some_word}

abbrev pub texts_of : List (Bor Text) → List Text
texts_of words = map (λ (w : Bor Text). w.now) words

pub some_words : (words : List (Bor Text)) → not (length words == 0) ≡ is_some_word (texts_of words)
some_words [] = refl
some_words (w ∷ ws) = let other : suc (length ws) ≢ 0 = omega arith in ap not (ne_eqb (suc (length ws)) 0 other)

pub some_text : (o : Option (Bor Text)) → is_some o ≡ is_some (option_map (λ (w : Bor Text). w.now) o)
some_text None = refl
some_text (Some w) = refl
