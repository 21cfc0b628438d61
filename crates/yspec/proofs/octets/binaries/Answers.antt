use Rattle.std.specs.Prelude.{refl}
use Rattle.yspec.proofs.LiteralLemmas.{yspec_on_literals}
use Rattle.yspec.proofs.octets.binaries.Goals as goal

pub returns : goal.returns
unfolding yspec_on_literals
returns c = record { vectors = refl; last_symbols = refl; of_urls = refl; less_padding = refl; more_padding = refl; padding_inside = refl; other_characters = refl; bits_behind = refl; no_text = refl; canonical = refl; default = refl; wrong_default = refl; three_octets = refl; two_octets = refl; four_octets = refl; five_octets = refl; no_base64 = refl; no_pattern = refl; no_range = refl; in_a_union = refl; behind_it_in_a_union = refl; no_text_of_its_octets = refl }
