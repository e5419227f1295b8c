-- What is shown of a value.
use Rattle.std.specs.Prelude.{cond, ltb, ℤ, pos, negsuc, None, Some}
use Rattle.wire_messages.specs.Options.{Amount}
use Rattle.device_store.specs.Sizes.{value_end}

-- "-1 is absent"; a number past the largest value, which no history stores, shows as absent
unfoldable pub shown : Amount → ℤ
shown None = negsuc 0
shown (Some v) = cond (ltb v value_end) (pos v) (negsuc 0)
