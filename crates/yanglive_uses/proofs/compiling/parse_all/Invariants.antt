use Rattle.std.proofs.Common.{◌≡◌, drop, map}
use Rattle.std.specs.Vec.{vec_len}
use Rattle.yspec.specs.Forest.{end}
use Rattle.ytext.specs.View.{modules_view}
use Rattle.yanglive_uses.specs.Compiling.{read_behind}
use Rattle.yanglive_uses.proofs.compiling.parse_all.Given as goal

abbrev pub invariant-loop-text : goal.invariant-loop-text
invariant-loop-text l = record {
  left : read_behind end 0 (map (λ t. t.now) l.texts)
      ≡ read_behind (modules_view l.modules.items) l.text-index (map (λ t. t.now) (drop l.text-index l.texts));
  counted : vec_len l.modules ≡ l.text-index;
}
