-- The places of a table's array.
use Rattle.std.specs.Prelude.{◌≡◌, ℕ, ◌-◌, ◌≤◌, List, ◌++◌, length, take, replicate}
use Rattle.std.proofs.Common.{ap, arith}
use Rattle.std.proofs.lemmas.List.{length-append, length-replicate, length-take}
use Rattle.forms.specs.declared.form.Form.{Form}
use Rattle.forms.specs.declared.form.Form.TheVariants.{Truth}

-- the forms, and `Truth` at each place that is free
abbrev pub with_free_places : List Form → List Form
with_free_places T = T ++ replicate (64 - length T) Truth

-- so many places are taken
pub taken_places : (n : ℕ) (places : List Form) → n ≤ 64 → places ≡ with_free_places (take n places) → length (take n places) ≡ n
taken_places n places few filled =
    omega (arith, ap length filled, length-append (take n places) (replicate (64 - length (take n places)) Truth), length-replicate (64 - length (take n places)) Truth, length-take n places)
