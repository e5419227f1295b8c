-- A value of a response as a signed number. Absent is -1.
use Rattle.std.specs.Prelude.{ℕ, zero, suc, ◌-◌, ◌^◌, cond, ltb, ℤ, pos, negsuc, None, Some}
use Rattle.wire_messages.specs.Options.{Amount}

-- "0 to 2^63 - 1": the first number past the largest value, and the largest word, which is none
abbrev pub value_end : ℕ
value_end = 2 ^ 63

abbrev pub most : ℕ
most = 2 ^ 64 - 1

-- FROM C: -1 is absent; any other negative number is a value that no response has, and is refused with 3
unfoldable pub amount_of : ℤ → Amount
amount_of (pos n) = Some n
amount_of (negsuc zero) = None
amount_of (negsuc (suc n)) = Some most

-- TO C, as an ask shows it
unfoldable pub flat_amount : Amount → ℤ
flat_amount None = negsuc 0
flat_amount (Some v) = cond (ltb v value_end) (pos v) (negsuc 0)
