use Rattle.std.proofs.Common.{ℕ, Global, Vec, [], ◌∷◌, ◌+◌, ◌∙◌, ap, arith, drop, get_or, length, refl, subst, sym}
use Rattle.std.proofs.lemmas.List.{at_drop_all, at_drop_more, length-append, length-map, map-append}
use Rattle.yapp.specs.Files.{store}
use Rattle.yapp_report.specs.Unread.{IsTold}
use Rattle.yapp.proofs.ContentsLemmas.{ReadSoFar, cut_short, memory_reads, names_in, no_name, none_read, one_read, reading_fails, texts_in, were_read}
use Rattle.yapp.proofs.contents.read_files.Goals as goal

pub loop-name-init : goal.loop-name-init
loop-name-init g c =
    let contents = g.F.Files.contents c.args.files.now in
    let names = names_in c.args.names.now in
    record {
      so_far = subst (λ xs. ReadSoFar contents names names (texts_in xs)) (sym c.new-contents.ensures.items) (none_read contents names);
      kept = λ other. refl;
      reads = omega (arith, ap length c.new-contents.ensures.items);
      counted = refl;
    }

pub loop-name-preserved : goal.loop-name-preserved
loop-name-preserved g c =
    let contents = g.F.Files.contents c.args.files.now in
    let names = names_in c.args.names.now in
    let left = names_in (drop (c.loop-name.name-index + 1) c.args.names.now) in
    let before = c.loop-name.invariant in
    let read = c.in-Ok.ensures in
    record {
      so_far = subst (ReadSoFar contents names left)
          (sym (ap texts_in c.in_ok-push-in-Ok.ensures.items ∙ map-append (λ t. t.items) c.loop-name.contents.items (c.in-Ok.bytes ∷ [])))
          (one_read contents names left (texts_in c.loop-name.contents.items) (get_or c.args.names.now c.loop-name.name-index no_name).now c.in-Ok.bytes.items
          (subst (λ told. IsTold told c.in-Ok.bytes.items) (before.kept _) read.ok)
          (subst (λ ns. ReadSoFar contents names ns (texts_in c.loop-name.contents.items))
          (at_drop_more names_in c.args.names.now c.loop-name.name-index no_name c.loop-name-test.true) before.so_far));
      kept = λ other. read.kept other ∙ before.kept other;
      reads = omega (
        arith,
        read.one_more,
        before.reads,
        ap length c.in_ok-push-in-Ok.ensures.items,
        length-append c.loop-name.contents.items (c.in-Ok.bytes ∷ []),
      );
      counted = omega (arith, read.counted, before.counted);
    }

pub returns : goal.returns
returns g c =
    let contents = g.F.Files.contents c.args.files.now in
    let names = names_in c.args.names.now in
    let before = c.loop-name.invariant in
    were_read _ _ names (texts_in c.loop-name.contents.items)
    (subst (λ ns. ReadSoFar contents names ns (texts_in c.loop-name.contents.items))
    (at_drop_all names_in c.args.names.now c.loop-name.name-index c.loop-name-test.false) before.so_far)
    (omega (arith, before.reads, length-map c.loop-name.contents.items (λ (t : Vec ℕ Global). t.items))) before.counted

pub returns-in-Err : goal.returns-in-Err
returns-in-Err g c =
    let contents = g.F.Files.contents c.args.files.now in
    let names = names_in c.args.names.now in
    let before = c.loop-name.invariant in
    reading_fails (Vec ℕ Global) _ (store g.F.Files.contents g.F.Files.reads g.F.Files.failures c.loop-name.files) _
    names (names_in (drop (c.loop-name.name-index + 1) c.args.names.now)) (texts_in c.loop-name.contents.items)
    (get_or c.args.names.now c.loop-name.name-index no_name).now c.in-Err.fault c.of_file.result
    (subst (λ ns. ReadSoFar contents names ns (texts_in c.loop-name.contents.items))
    (at_drop_more names_in c.args.names.now c.loop-name.name-index no_name c.loop-name-test.true) before.so_far)
    (omega (arith, before.reads, length-map c.loop-name.contents.items (λ (t : Vec ℕ Global). t.items)))
    before.counted c.in-Err.ensures.one_more c.in-Err.ensures.counted c.of_file.ensures

pub returns-in_err-push-in-Ok : goal.returns-in_err-push-in-Ok
returns-in_err-push-in-Ok g c =
    let before = c.loop-name.invariant in
    let read = c.in-Ok.ensures in
    let contents = g.F.Files.contents c.args.files.now in
    let names = names_in c.args.names.now in
    memory_reads _ _ _ _ c.from_residual.result c.from_residual.ensures.1 (cut_short _ _ names
    (names_in (drop (c.loop-name.name-index + 1) c.args.names.now)) (texts_in c.loop-name.contents.items)
    (get_or c.args.names.now c.loop-name.name-index no_name).now
    (subst (λ ns. ReadSoFar contents names ns (texts_in c.loop-name.contents.items))
    (at_drop_more names_in c.args.names.now c.loop-name.name-index no_name c.loop-name-test.true) before.so_far)
    (omega (arith, read.one_more, before.reads, length-map c.loop-name.contents.items (λ (t : Vec ℕ Global). t.items)))
    (omega (arith, read.counted, before.counted)))
