use Rattle.std.proofs.Common.{◌≡◌, ℕ, ◌+◌, ◌<◌, get_or, drop, None}
use Rattle.forcing.specs.Shown.{byte}
use Rattle.forcing.proofs.pick.write_bytes.Given as goal

abbrev pub invariant-loop-k : goal.invariant-loop-k
invariant-loop-k l =
    ((i : ℕ) → i < l.k → get_or l.buffer i 0 ≡ byte (get_or l.values (i + 1) None))
    × (drop l.k l.buffer ≡ drop l.k l.initial.buffer)
