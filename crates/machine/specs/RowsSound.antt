-- Rows with which nothing is wrong are a machine.
use Rattle.std.specs.Prelude.{◌≡◌, ℕ, ◌<◌, ◌≤◌, Bool, true, false, cond, ◌&&◌, List, length, ℤ, pos, negsuc, is_some, Some, Option, nat_le, slice_index_or, refl}
use Rattle.std.proofs.Common.{ap, sym, ⊎_elim, arith}
use Rattle.std.proofs.lemmas.List.{get_or_past}
use Rattle.std.proofs.lemmas.Bool.{and_parts, ltb-true, leb-true, eqb-true, eq-eqb, cases_lt, cases_Bool, both_ways}
use Rattle.ctl.specs.Model.{IsSerial}
use Rattle.ctl.specs.Search.{some, every}
use Rattle.ctl.proofs.Search.{some_found, some_from, every_at}
use Rattle.machine.specs.declared.row.Row.{Row}
use Rattle.machine.specs.Interface.{IsSoundMachine}
use Rattle.machine.specs.Sheet.{is_row}
use Rattle.machine.specs.Rows.{no_row, target, row_leads, rows_model}
use Rattle.machine.specs.Faults.{is_inside, row_fault, IsFaultless, IsSheet}

-- a choice with a fault on one side that comes to none
pub passes : {X : Type 0} (b : Bool) (rest : Option X) (e : X) → is_some (cond b rest (Some e)) ≡ false → (b ≡ true) × (is_some rest ≡ false)
passes true rest e none = (refl, none)
passes false rest e none = absurd (both_ways true none refl)

-- what a row is with which nothing is wrong
pub record IsClean (n s : ℕ) (row : Row) : Type 0 where
  pub low : 1 ≤ row.degree
  pub high : row.degree ≤ 8
  pub lands : (k : ℕ) → k < row.degree → is_inside n (target row s k) ≡ true

pub IsClean_row : (n s : ℕ) (row : Row) → is_some (row_fault n s row) ≡ false → IsClean n s row
IsClean_row n s row none =
    let test : ℕ → Bool = λ k. is_inside n (target row s k) in
    let degrees = passes (nat_le 1 row.degree && nat_le row.degree 8) _ _ none in
    let bounds = and_parts _ _ degrees.0 in
    record {
      low = leb-true _ _ bounds.0;
      high = leb-true _ _ bounds.1;
      lands = every_at row.degree test (passes (every row.degree test) _ _ degrees.1).0;
    }

-- what is inside is a row
lands_at : (n : ℕ) (z : ℤ) → is_inside n z ≡ true → (t : ℕ) × ((t < n) × (is_row t z ≡ true))
lands_at n (pos t) e = (t, (ltb-true _ _ e, eq-eqb t t refl))
lands_at n (negsuc t) e = absurd (both_ways true (sym e) refl)

is_row_inside : (n t : ℕ) (z : ℤ) → is_inside n z ≡ true → is_row t z ≡ true → t < n
is_row_inside n t (pos u) e p = omega (arith, ltb-true u n e, eqb-true u t p)
is_row_inside n t (negsuc u) e p = absurd (both_ways true (sym e) refl)

-- past the rows nothing holds and nothing follows
pub past_atoms : (rows : List Row) (s : ℕ) → length rows ≤ s → (slice_index_or rows s no_row).atoms ≡ 0
past_atoms rows s h = ap (λ (row : Row). row.atoms) (get_or_past rows s no_row h)

pub past_leads : (rows : List Row) (s t : ℕ) → length rows ≤ s → row_leads (slice_index_or rows s no_row) s t ≡ false
unfolding some
past_leads rows s t h = ap (λ (row : Row). row_leads row s t) (get_or_past rows s no_row h)

module _ (rows : List Row) (clean : IsFaultless rows) where
  leads_within : (s t : ℕ) → (rows_model rows).leads s t ≡ true → (s < length rows) × (t < length rows)
  leads_within s t e =
      let row = slice_index_or rows s no_row in
      let h = ⊎_elim (λ below. below) (λ past. absurd (both_ways _ (past_leads rows s t past) e)) (cases_lt s (length rows)) in
      let f = some_found row.degree (λ k. is_row t (target row s k)) e in
      (h, is_row_inside (length rows) t (target row s f.0) ((IsClean_row (length rows) s row (clean s h)).lands f.0 f.1.0) f.1.1)

  -- what is no state neither leads anywhere nor is led to
  pub leads_nowhere : (s t : ℕ) → (s < length rows → t < length rows → ⊥) → (rows_model rows).leads s t ≡ false
  leads_nowhere s t apart =
      ⊎_elim (λ e. let h = leads_within s t e in absurd (apart h.0 h.1)) (λ e. e) (cases_Bool ((rows_model rows).leads s t))

  pub IsSerial-rows_model : 1 ≤ length rows → IsSerial (rows_model rows)
  IsSerial-rows_model inhabited = record {
    inhabited = inhabited;
    successor = λ s h.
        let row = slice_index_or rows s no_row in
        let c = IsClean_row (length rows) s row (clean s h) in
        let at = lands_at (length rows) (target row s 0) (c.lands 0 c.low) in
        (at.0, (at.1.0, some_from row.degree (λ k. is_row at.0 (target row s k)) 0 c.low at.1.1));
    within = leads_within;
  }

pub IsSoundMachine-rows_model : (rows : List Row) → IsSheet rows → IsSoundMachine (rows_model rows)
IsSoundMachine-rows_model rows in_order = record {
  total = record { serial = IsSerial-rows_model rows in_order.clean in_order.inhabited; blank = past_atoms rows };
  bounded = in_order.few;
  fits = in_order.narrow;
}
