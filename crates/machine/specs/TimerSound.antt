-- The timer's model has successors everywhere and stays in bounds.
use Rattle.std.specs.Prelude.{◌≡◌, ℕ, ◌+◌, ◌^◌, ◌<◌, ◌≤◌, cond, None, ◌==◌}
use Rattle.std.proofs.Common.{arith}
use Rattle.std.proofs.lemmas.Nat.{pow_below, pow_pos}
use Rattle.std.proofs.lemmas.Bool.{cond_both}
use Rattle.std.proofs.lemmas.Bool.Decides.{nat_tests}
use Rattle.machine.specs.Interface.{IsSoundMachine}
use Rattle.machine.specs.Timer.{timer, timer_refusal}

pub IsSoundMachine-timer : (m b : ℕ) → 1 ≤ m → m ≤ 1024 → b < 32 → IsSoundMachine (timer m b)
IsSoundMachine-timer m b low high atom = record {
  total = record {
    serial = record {
      inhabited = low;
      successor = λ s h. (cond (s + 1 == m) s (s + 1), (grind (arith, nat_tests), grind (arith, nat_tests)));
      within = λ s t e. grind (arith, nat_tests);
    };
    blank = λ s h. grind (arith, nat_tests);
  };
  bounded = high;
  fits = λ s. cond_both (s + 1 == m) (2 ^ b) 0 (λ x. x < 2 ^ 32) (λ _. pow_below b 32 atom) (λ _. pow_pos 32);
}

-- the same of a timer that is not refused
pub IsSoundMachine-shaped_timer : (m b : ℕ) → timer_refusal m b ≡ None → IsSoundMachine (timer m b)
IsSoundMachine-shaped_timer m b shape = IsSoundMachine-timer m b (grind (arith, nat_tests)) (grind (arith, nat_tests)) (grind (arith, nat_tests))
