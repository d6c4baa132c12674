-- One bit of a number.
use Rattle.std.specs.Prelude.{ℕ, ◌+◌, ◌*◌, ◌/◌, ◌%◌, ◌^◌, Bool, cond}

-- w with bit k cleared: the bits above it, and those below
abbrev pub others : ℕ → ℕ → ℕ
others w k = (w / 2 ^ (k + 1)) * 2 ^ (k + 1) + w % 2 ^ k

-- w with bit k as b says
abbrev pub put_bit : ℕ → ℕ → Bool → ℕ
put_bit w k b = others w k + cond b (2 ^ k) 0
