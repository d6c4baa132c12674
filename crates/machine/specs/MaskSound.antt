-- A mask keeps the successors, and its atoms stay in bounds.
use Rattle.std.specs.Prelude.{ℕ, refl}
use Rattle.std.proofs.Common.{arith}
use Rattle.std.proofs.lemmas.Nat.{and_le_l}
use Rattle.ctl.specs.Model.{Model}
use Rattle.machine.specs.Interface.{IsSoundMachine}
use Rattle.machine.specs.Mask.{masked_model}

pub IsSoundMachine-masked_model : (m : Model) (mask : ℕ) → IsSoundMachine m → IsSoundMachine (masked_model m mask)
IsSoundMachine-masked_model m mask below = let serial = below.total.serial in record {
  total = record {
    serial = record { inhabited = serial.inhabited; successor = serial.successor; within = serial.within };
    blank = λ s h. rw (below.total.blank s h) refl;
  };
  bounded = below.bounded;
  fits = λ s. omega (arith, and_le_l (m.atoms s) mask, below.fits s);
}
