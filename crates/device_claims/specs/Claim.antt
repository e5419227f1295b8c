-- What the zones claim for a quantity at a second, and which claim wins.
use Rattle.std.specs.Prelude.{ℕ, Bool, true, false, cond, not, ◌&&◌, ◌||◌, ltb, eqb, None, Some}
use mathlib.Core.List.{List, foldl}
use Rattle.wire_messages.specs.Options.{Amount}
use Rattle.device_store.specs.Quantities.{is_setpoint}
use Rattle.device_store.specs.Zones.{id_of, rank_of, is_joined, held_of}
use Rattle.device_store.specs.declared.Zone.{Zone}

-- what a zone claims for a quantity at a second
pub record Claim : Type 0 where
  pub there : Bool
  pub value : ℕ
  pub rank : ℕ
  pub id : ℕ

-- "holds while t < n + d": what a zone claims for quantity q at second t
abbrev pub no_claim : Claim
no_claim = record { there = false; value = 0; rank = 0; id = 0 }

unfoldable pub claim_of : ℕ → ℕ → Zone → Claim
claim_of t q x =
    cond (is_joined x && ltb t (held_of x q).until)
    (record { there = true; value = (held_of x q).value; rank = rank_of x; id = id_of x })
    no_claim

-- of two setpoints "the best rank that has one; equal rank, smaller id"; of two power or current limits the smaller
unfoldable pub goes_before : ℕ → Claim → Claim → Bool
goes_before q a b =
    cond (is_setpoint q) (ltb a.rank b.rank || (eqb a.rank b.rank && ltb a.id b.id))
    (ltb a.value b.value)

-- the winner so far, and one claim more; of two that neither goes before, as no history makes of setpoints, the later
unfoldable pub better : ℕ → Claim → Claim → Claim
better q a b = cond (b.there && not (a.there && goes_before q a b)) b a

-- the claim that wins among all joined zones
unfoldable pub winner : ℕ → ℕ → List Zone → Claim
winner t q zs = foldl (λ a x. better q a (claim_of t q x)) no_claim zs

abbrev pub amount_of : Claim → Amount
amount_of c = cond c.there (Some c.value) None
