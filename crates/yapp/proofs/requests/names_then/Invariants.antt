use Rattle.std.proofs.Common.{◌≡◌, ◌++◌, length, map, string_bytes}
use Rattle.yapp.proofs.requests.names_then.Given as goal

abbrev pub invariant-loop-name : goal.invariant-loop-name
invariant-loop-name l = map (λ n. n.now) l.all.items ++ map string_bytes l.rest ≡ map (λ n. n.now) l.fn.names.items ++ map string_bytes l.fn.more

abbrev pub decreases-loop-name : goal.decreases-loop-name
decreases-loop-name l = length l.rest
