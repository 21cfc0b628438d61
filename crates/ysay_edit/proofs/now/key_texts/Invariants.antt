use Rattle.std.proofs.Common.{◌≡◌, ◌++◌, drop, map}
use Rattle.yinst_tree.specs.View.{row_view}
use Rattle.ysay_edit.specs.Now.{key_texts}
use Rattle.ysay_edit.proofs.now.key_texts.Given as goal

-- the texts so far, and those of the entries that are left
abbrev pub invariant-loop-stored : goal.invariant-loop-stored
invariant-loop-stored l = map (λ t. t.now) l.texts.items ++ key_texts l.id.0 l.key.0 (row_view (drop l.stored-index l.row))
    ≡ key_texts l.id.0 l.key.0 (row_view l.row)
