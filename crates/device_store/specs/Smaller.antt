-- The smaller of two numbers, and the nearer of two seconds.
use Rattle.std.specs.Prelude.{ℕ, cond, ◌&&◌, ltb}

-- the smaller of two numbers
unfoldable pub lesser : ℕ → ℕ → ℕ
lesser a b = cond (ltb a b) a b

-- the nearer of r and, where it lies past cur, e
unfoldable pub nearer : ℕ → ℕ → ℕ → ℕ
nearer cur r e = cond (ltb cur e && ltb e r) e r
