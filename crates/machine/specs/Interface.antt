-- What every machine owes of its model.
use Rattle.std.specs.Prelude.{ℕ, ◌^◌, ◌<◌, ◌≤◌}
use Rattle.ctl.specs.Model.{Model, IsTotal}

-- successors everywhere, nothing said of what is no state, at most 1,024 states, and atoms 0 to 31
pub record IsSoundMachine (m : Model) : Type 0 where
  pub total : IsTotal m
  pub bounded : m.count ≤ 1024
  pub fits : (s : ℕ) → m.atoms s < 2 ^ 32
