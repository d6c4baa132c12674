-- Sets of forms as numbers: form f is in the set s when bit f of s is set.
use Rattle.std.specs.Prelude.{ℕ, ◌/◌, ◌%◌, ◌^◌, Bool, List, length, ◌==◌, bit_and, bit_or, bit_xor, nat_lt}
use Rattle.forms.specs.declared.form.Form.{Form}

-- whether f is in s
abbrev pub member : ℕ → ℕ → Bool
member s f = s / (2 ^ f) % 2 == 1

-- s with f
unfoldable pub set_insert : ℕ → ℕ → ℕ
set_insert s f = bit_or s (2 ^ f)

-- s without f
unfoldable pub set_remove : ℕ → ℕ → ℕ
set_remove s f = bit_xor s (bit_and s (2 ^ f))

-- whether each form of r is in s
unfoldable pub is_subset : ℕ → ℕ → Bool
is_subset r s = bit_and r s == r

-- whether each form of the set is in the table
abbrev pub is_within : List Form → ℕ → Bool
is_within T set = nat_lt set (2 ^ length T)
