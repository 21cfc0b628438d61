use Rattle.std.proofs.Common.{inl, inr, refl}
use Rattle.std.proofs.lemmas.List.{append-nil}
use Rattle.ybase_output.proofs.WritingLemmas.{broke_same, wrote_same}
use Rattle.yapp_talk.proofs.TalkingLemmas.{held_behind}
use Rattle.yapp_talk.proofs.talking.begin.Goals as goal

pub hold-requires : goal.hold-requires
hold-requires g c = c.requires

pub returns-in-Ok : goal.returns-in-Ok
returns-in-Ok g c = inr (held_behind c.args.watched c.args.note.now c.args.with_reasons _ _ _ _ _ _
    (wrote_same _ _ _ _ (append-nil c.args.note.now) c.in-Ok.ensures) c.hold.ensures)

pub returns-in-Err : goal.returns-in-Err
returns-in-Err g c = inl (refl, broke_same _ _ _ _ (append-nil c.args.note.now) c.in-Err.ensures, refl)
