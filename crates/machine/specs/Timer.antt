-- The timer: a line of states with one atom at its end.
use Rattle.std.specs.Prelude.{ℕ, ◌+◌, ◌^◌, if◌then◌else◌, ◌&&◌, Some, None, Option, ◌==◌, nat_le, nat_lt}
use Rattle.ctl.specs.Model.{Model}
use Rattle.forms.specs.declared.refusal.Refusal.{Refusal}
use Rattle.forms.specs.declared.refusal.Refusal.TheVariants.{TimerShape}

-- state k leads to k + 1 alone, the last to itself alone; only atom b holds at the last, elsewhere nothing
abbrev pub timer : (m b : ℕ) → Model
timer m b = record {
  count = m;
  atoms = λ s. if s + 1 == m then 2 ^ b else 0;
  leads = λ s t. nat_lt s m && (t == (if s + 1 == m then s else s + 1));
}

-- why no timer has m states and atom b, if so
abbrev pub timer_refusal : (m b : ℕ) → Option Refusal
timer_refusal m b = if nat_le 1 m && (nat_le m 1024 && nat_le b 31) then None else Some TimerShape
