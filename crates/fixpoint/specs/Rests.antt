-- What stays while a search writes its two sets, as each memory tells it.
use Rattle.std.specs.Prelude.{ℕ}

-- of two memories: whose each is, and all else that it holds
pub record ApartRest (C N : Type 0) : Type 0 where
  pub current : C
  pub next : N
  pub current_name : ℕ
  pub next_name : ℕ

-- of one value: whose it is, how many indices it has room for, and all else that it holds
pub record PairRest (R : Type 0) : Type 0 where
  pub room : ℕ
  pub rest : R
  pub name : ℕ
