-- A zone's record and the list of slots: which slot a zone has, what a slot holds.
use Rattle.std.specs.Prelude.{ℕ, zero, suc, ◌+◌, ◌*◌, ◌/◌, ◌%◌, Bool, true, false, cond, not, ◌&&◌, ◌||◌, List, [], ◌∷◌, ◌++◌, ltb, eqb, get_or, replicate}
use Rattle.device_store.specs.Sizes.{helds, slots, ids}
use Rattle.device_store.specs.declared.Held.{Held}
use Rattle.device_store.specs.declared.Zone.{Zone}

-- f 0, f 1, .. f (n - 1)
unfoldable pub up_to : {A : Type 0} → (ℕ → A) → ℕ → List A
up_to f zero = []
up_to f (suc n) = up_to f n ++ (f n ∷ [])

-- the index of the first element that passes the test p; the length where none does
unfoldable pub first : {A : Type 0} → (A → Bool) → List A → ℕ
first p [] = 0
first p (x ∷ xs) = cond (p x) 0 (suc (first p xs))

-- some element passes the test p
unfoldable pub any : {A : Type 0} → (A → Bool) → List A → Bool
any p [] = false
any p (x ∷ xs) = p x || any p xs

-- never set, or removed
abbrev pub nothing : Held
nothing = record { value = 0; until = 0 }

-- a zone's id and rank in one number, its precedence: the better rank, then the smaller id, is the smaller precedence
abbrev pub precedence_of : ℕ → ℕ → ℕ
precedence_of z k = k * ids + z

unfoldable pub id_of : Zone → ℕ
id_of x = x.precedence % ids

unfoldable pub rank_of : Zone → ℕ
rank_of x = x.precedence / ids

-- a slot that no zone has
abbrev pub free_zone : Zone
free_zone = record { precedence = 0; up = false; held = replicate helds nothing }

-- "Joining brings the link up"; a new zone holds nothing
abbrev pub new_zone : ℕ → ℕ → Zone
new_zone z k = record { precedence = precedence_of z k; up = true; held = replicate helds nothing }

-- a zone with its link told to be u
abbrev pub linked : Zone → Bool → Zone
linked x u = record { precedence = x.precedence; up = u; held = x.held }

-- a zone with other held values
abbrev pub holding : Zone → List Held → Zone
holding x hs = record { precedence = x.precedence; up = x.up; held = hs }

-- a slot is a zone's, and that zone's link is up
unfoldable pub is_joined : Zone → Bool
is_joined x = not (eqb (id_of x) 0)

unfoldable pub is_up : Zone → Bool
is_up x = is_joined x && x.up

-- the first slot whose id is z, `slots` where there is none; of id 0, the first free one
unfoldable pub slot_of : List Zone → ℕ → ℕ
slot_of zs z = first (λ x. eqb (id_of x) z) zs

-- zone z is joined: 0 is no zone
unfoldable pub joined : List Zone → ℕ → Bool
joined zs z = ltb 0 z && ltb (slot_of zs z) slots

-- the record of zone z
unfoldable pub zone_of : List Zone → ℕ → Zone
zone_of zs z = get_or zs (slot_of zs z) free_zone

-- held value q of a zone
unfoldable pub held_of : Zone → ℕ → Held
held_of x q = get_or x.held q nothing

unfoldable pub any_joined : List Zone → Bool
any_joined zs = any is_joined zs

unfoldable pub any_up : List Zone → Bool
any_up zs = any is_up zs
