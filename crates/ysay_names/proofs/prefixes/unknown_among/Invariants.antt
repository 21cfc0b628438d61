use Rattle.std.proofs.Common.{◌≡◌, drop, map}
use Rattle.ysay_names.specs.Prefixes.{prefixes_among, unknown_among}
use Rattle.ysay_names.proofs.prefixes.unknown_among.Given as goal

abbrev pub invariant-loop-name : goal.invariant-loop-name
invariant-loop-name l = unknown_among (map (λ n. n.now) l.declared) (prefixes_among (map (λ n. n.now) (drop l.name-index l.names)))
    ≡ unknown_among (map (λ n. n.now) l.declared) (prefixes_among (map (λ n. n.now) l.names))
