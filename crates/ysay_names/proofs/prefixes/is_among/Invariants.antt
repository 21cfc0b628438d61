use Rattle.std.proofs.Common.{◌≡◌, drop, map}
use Rattle.ysay_names.specs.Prefixes.{is_among}
use Rattle.ysay_names.proofs.prefixes.is_among.Given as goal

abbrev pub invariant-loop-name : goal.invariant-loop-name
invariant-loop-name l = is_among (map (λ n. n.now) (drop l.name-index l.names)) l.text ≡ is_among (map (λ n. n.now) l.names) l.text
