use Rattle.std.proofs.Common.{[], ◌∷◌, ◌+◌, drop, get_or, subst}
use Rattle.std.specs.Prelude.{option_map}
use Rattle.std.proofs.lemmas.List.{at_drop_all, at_drop_more}
use Rattle.yapp_search.specs.Reading.{WereAsked, store}
use Rattle.yapp_search.proofs.ReadingLemmas.{ReadSoFar, all_read, names_in, no_name, one_unread, texts_in}
use Rattle.yapp_search.proofs.asking.read_all.Goals as goal

pub returns-in-None : goal.returns-in-None
returns-in-None g c =
    let seen = store g.F.Files.contents g.F.Files.reads g.F.Files.failures in
    let names = names_in c.args.names.now in
    let texts = texts_in c.loop-name.texts.items in
    let name = (get_or c.args.names.now c.loop-name.name-index no_name).now in
    let start = seen c.args.files.now in
    let now = seen c.loop-name.files in
    let after = seen c.ask.new.files in
    one_unread start now after names (names_in (drop (c.loop-name.name-index + 1) c.args.names.now)) texts name
    (subst (λ ns. ReadSoFar start now names ns texts) (at_drop_more names_in c.args.names.now c.loop-name.name-index no_name c.loop-name-test.true) c.loop-name.invariant)
    (subst (λ o. WereAsked now after (name ∷ []) (option_map (λ t. t.items) o ∷ [])) c.in-None.is c.in_ok-bytes.ensures)

pub returns : goal.returns
returns g c =
    let seen = store g.F.Files.contents g.F.Files.reads g.F.Files.failures in
    let names = names_in c.args.names.now in
    let texts = texts_in c.loop-name.texts.items in
    let start = seen c.args.files.now in
    let now = seen c.loop-name.files in
    all_read start now names texts
    (subst (λ ns. ReadSoFar start now names ns texts) (at_drop_all names_in c.args.names.now c.loop-name.name-index c.loop-name-test.false) c.loop-name.invariant)
