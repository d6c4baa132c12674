-- What the calls of the register answer, by case.
use Rattle.std.specs.Prelude.{ℕ, [], ◌∷◌, Some, None, Ok, Err, Option, Result, ⊤}
use Rattle.forms.specs.declared.refusal.Refusal.{Refusal}
use Rattle.forms.specs.Forms.{Table}
use Rattle.protocol.specs.declared.line.Standing.{Standing}
use Rattle.protocol.specs.declared.line.Standing.TheVariants.{Impossible, Possible}
use Rattle.protocol.specs.Calls.{Answer, ok, refused}
use Rattle.protocol.specs.Promises.{HoldsNowhere, HoldsSomewhere}

-- the answer that a result of one number is
abbrev pub number_answer : Result ℕ Refusal → Answer
number_answer (Ok n) = ok (n ∷ [])
number_answer (Err why) = refused why 0

-- how a set stands is so
abbrev pub StandsTruly : Table → ℕ → Option Standing → Type 0
StandsTruly T set None = ⊤
StandsTruly T set (Some Impossible) = HoldsNowhere T set
StandsTruly T set (Some Possible) = ∥ HoldsSomewhere T set ∥₁
