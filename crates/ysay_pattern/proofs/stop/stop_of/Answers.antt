use Rattle.std.proofs.Common.{List, ℕ, ◌∷◌, ◌+◌, drop, ap, sym, ◌∙◌, option_map, arith}
use Rattle.std.proofs.lemmas.List.{at_drop_more}
use Rattle.ysay_pattern.specs.Stop.{Reading, stop_from}
use Rattle.ysay_pattern.specs.ReaderView.{reader_view}
use Rattle.ysay_pattern.proofs.StopLemmas.{at_end, none_read, one_read, stopped}
use Rattle.ysay_pattern.proofs.stop.stop_of.Goals as goal

pub loop-place-init : goal.loop-place-init
loop-place-init c = none_read c.args.characters.now _ ∙ ap (λ (s : Reading). stop_from c.args.characters.now s) c.nothing_read-reader.ensures

pub returns-in-None : goal.returns-in-None
returns-in-None c = let cs : List ℕ = c.args.characters.now in
    stopped cs c.loop-place.place c.index-characters-place.result (reader_view c.loop-place.reader)
    (at_drop_more (λ (ds : List ℕ). ds) cs c.loop-place.place c.index-characters-place.result c.loop-place-test.true
    ∙ ap (λ (x : ℕ). x ∷ drop (c.loop-place.place + 1) cs) (sym c.index-characters-place.is))
    (ap (option_map reader_view) (sym c.in-None.is) ∙ c.in_ok-with_character.ensures) c.loop-place.invariant

pub loop-place-preserved : goal.loop-place-preserved
loop-place-preserved c = let cs : List ℕ = c.args.characters.now in
    one_read cs c.loop-place.place c.index-characters-place.result (reader_view c.loop-place.reader) (reader_view c.in-Some.read)
    (at_drop_more (λ (ds : List ℕ). ds) cs c.loop-place.place c.index-characters-place.result c.loop-place-test.true
    ∙ ap (λ (x : ℕ). x ∷ drop (c.loop-place.place + 1) cs) (sym c.index-characters-place.is))
    (ap (option_map reader_view) (sym c.in-Some.is) ∙ c.in_ok-with_character.ensures) c.loop-place.invariant

pub returns : goal.returns
returns c = c.ended.ensures ∙ at_end c.args.characters.now c.loop-place.place (reader_view c.loop-place.reader) (omega (arith, c.loop-place-test.false)) c.loop-place.invariant
