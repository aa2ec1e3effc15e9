-- Where a meter stops.
use Rattle.std.specs.Prelude.{ℕ, ◌+◌}
use Rattle.refusals.specs.Limits.{most_held}

-- one more than any cap: a meter that stands here has counted more than any holder takes
abbrev pub top : ℕ
top = most_held + 1
