use Rattle.std.proofs.Common.{◌+◌, ◌||◌, Bor, List, [], get_or, drop, sym, ◌∙◌}
use Rattle.std.specs.List.{list_any}
use Rattle.std.proofs.lemmas.List.{at_drop_more}
use Rattle.yspec.specs.text.Text.{Text}
use Rattle.yspec.specs.types.Names.{is_among, has_twice}
use Rattle.ytype_numbers.specs.Words.{words_in}
use Rattle.ytype_numbers.specs.Sets.{holds_word}
use Rattle.ytype_numbers.proofs.SetLemmas.{word_added, twice_more, among_more, twice_first, among_first, was_not}
use Rattle.ytype_numbers.proofs.bits.set_of.Goals as goal

pub words-init : goal.words-init
words-init c = record {
  twice = twice_first c.new-set.result (words_in c.args.words.now) c.new-set.ensures.empty;
  among = among_first c.new-set.result (words_in c.args.words.now) c.new-set.ensures.empty;
}

pub words-preserved : goal.words-preserved
words-preserved c =
    let before = holds_word c.words.set in
    let after = holds_word c.insert.new.self in
    let words = c.args.words.now in
    let i = c.words.word-index in
    let w : Bor Text = get_or words i (record { ref_ptr = (0, 0); now = [] }) in
    let adds = word_added c.words.set c.insert.new.self w c.in_ok-insert.ensures.updates in
    record {
      twice = twice_more before after w.now (words_in (drop (i + 1) words)) adds (was_not (before w.now) (sym c.if-not-branch.false ∙ c.in_ok-insert.ensures.added))
          ∙ sym (at_drop_more (λ (ws : List (Bor Text)). list_any before (words_in ws) || has_twice (words_in ws)) words i _ c.words-test.true) ∙ c.words.invariant.twice;
      among = λ t. among_more before after w.now (words_in (drop (i + 1) words)) adds t
          ∙ sym (at_drop_more (λ (ws : List (Bor Text)). before t || is_among (words_in ws) t) words i _ c.words-test.true) ∙ c.words.invariant.among t;
    }
