-- A limit of the second row of document 01's table of links.
use Rattle.std.specs.Prelude.{ℕ, cond, ◌&&◌, ltb}
use Rattle.device_claims.specs.Claim.{Claim}

-- "the limit is the smallest of the failsafe limit and all unexpired limits of joined zones": the failsafe limit beside the claim that wins among theirs
unfoldable pub smallest_with : ℕ → Claim → ℕ
smallest_with safe c = cond (c.there && ltb c.value safe) c.value safe
