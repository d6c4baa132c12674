-- What the service keeps from line to line: a register, and the machine of the sheet that was read last.
use Rattle.std.specs.Prelude.{None, Option}
use Rattle.ctl.specs.Model.{Model}
use Rattle.protocol.specs.State.{State, made_state}

pub record Kept : Type 0 where
  pub register : State
  pub sheet : Option Model

-- as it is made
abbrev pub new_kept : Kept
new_kept = record { register = made_state; sheet = None }

-- with another register, or another sheet
abbrev pub with_register : Kept → State → Kept
with_register k s = record { register = s; sheet = k.sheet }

abbrev pub with_sheet : Kept → Option Model → Kept
with_sheet k sheet = record { register = k.register; sheet = sheet }
