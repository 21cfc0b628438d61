use Rattle.std.proofs.Common.{map, ap}
use Rattle.yspec.specs.Forest.{end}
use Rattle.yspec.specs.linking.Compiling.{compiled}
use Rattle.ytext.specs.View.{modules_view}
use Rattle.yanglive_uses.specs.Compiling.{of_set, read_behind, told_by}
use Rattle.yanglive_uses.proofs.CompilingLemmas.{set_refused, still_refused}
use Rattle.yanglive_uses.proofs.compiling.compile_texts.Goals as goal

pub returns-in-Ok : goal.returns-in-Ok
returns-in-Ok c = set_refused (map (λ t. t.now) c.args.texts.now) _ _ c.in-Err-compile.fault c.in-Ok.ensures (ap modules_view c.deref.ensures.value)
    c.in-Err-compile.ensures.exact

pub returns : goal.returns
returns c = still_refused (told_by c.in-Err.fault) (read_behind end 0 (map (λ t. t.now) c.args.texts.now)) (λ modules. of_set (compiled modules)) c.in-Err.ensures
