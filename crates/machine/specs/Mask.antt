-- A machine of which only some atoms show.
use Rattle.std.specs.Prelude.{ℕ, bit_and}
use Rattle.ctl.specs.Model.{Model}

-- m with only its atoms in the mask
abbrev pub masked_model : Model → ℕ → Model
masked_model m mask = record {
  count = m.count;
  atoms = λ s. bit_and (m.atoms s) mask;
  leads = m.leads;
}
