-- CTL in negation normal form.
use Rattle.std.specs.Prelude.{ℕ}

pub data Formula : Type 0 where
  verum : Formula
  falsum : Formula
  atom : ℕ → Formula
  absent : ℕ → Formula
  both : Formula → Formula → Formula
  either : Formula → Formula → Formula
  EX : Formula → Formula
  AX : Formula → Formula
  EU : Formula → Formula → Formula
  AU : Formula → Formula → Formula
  ER : Formula → Formula → Formula
  AR : Formula → Formula → Formula
