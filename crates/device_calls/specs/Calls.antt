-- The calls without a frame: each is its number, by a list of tests in document 01's order, and its change.
use Rattle.std.specs.Prelude.{ℕ, ◌+◌, ◌*◌, Bool, cond, not, List, [], ◌∷◌, leb, eqb, set, ℤ}
use Rattle.device_store.specs.Sizes.{slots}
use Rattle.device_store.specs.Zones.{free_zone, new_zone, linked, slot_of, joined, zone_of}
use Rattle.device_store.specs.Words.{clock_of, since_of, override_of, settings_of, zones_of, head_change, after}
use Rattle.device_holds.specs.Links.{since_after}
use Rattle.device_holds.specs.Holds.{situation_of, values_at}
use Rattle.device_rules.specs.Rules.{bad_join, go_together}
use Rattle.device_calls.specs.Refusals.{first_of, late}
use Rattle.device_store.specs.declared.Zone.{Zone}
use Rattle.device_store.specs.declared.Change.{Change}
use Rattle.refusals.specs.Refusals.{ALREADY, BAD_OVERRIDE, BAD_TIME, BAD_ZONE, FULL, NOT_JOINED}

-- a change of slot i alone, at t
unfoldable pub zone_change : List ℕ → ℕ → ℕ → Zone → Change
zone_change ws t i x =
    record { time = t; slot = i; zone = x; since = since_after (zones_of ws) (set (zones_of ws) i x) t (since_of ws); overridden = override_of ws }

-- since when no link is up, once slot i's is told to be u at t: a link that comes up moves nothing
abbrev pub since_told : List ℕ → ℕ → Bool → ℕ → ℕ
since_told ws i u t = cond u (since_of ws) (since_after (zones_of ws) (set (zones_of ws) i free_zone) t (since_of ws))

-- join of zone z with rank k at t: "join of a joined id" is 7, "join with eight zones joined" 8
abbrev pub join_tests : ℕ → Bool → Bool → ℕ → ℕ → ℕ → List (Bool × ℕ)
join_tests clock there full z k t = (late clock t, BAD_TIME) ∷ (bad_join z k, BAD_ZONE) ∷ (there, ALREADY) ∷ (full, FULL) ∷ []

unfoldable pub join_number : List ℕ → ℕ → ℕ → ℕ → ℕ
join_number ws z k t =
    first_of (join_tests (clock_of ws) (joined (zones_of ws) z) (leb slots (slot_of (zones_of ws) 0)) z k t)

unfoldable pub join_after : List ℕ → ℕ → ℕ → ℕ → List ℕ
join_after ws z k t = after ws (join_number ws z k t) (zone_change ws t (slot_of (zones_of ws) 0) (new_zone z k))

-- leave of zone z at t: its slot is free and holds nothing of it
abbrev pub leave_tests : ℕ → Bool → ℕ → List (Bool × ℕ)
leave_tests clock there t = (late clock t, BAD_TIME) ∷ (not there, NOT_JOINED) ∷ []

unfoldable pub leave_number : List ℕ → ℕ → ℕ → ℕ
leave_number ws z t = first_of (leave_tests (clock_of ws) (joined (zones_of ws) z) t)

unfoldable pub leave_after : List ℕ → ℕ → ℕ → List ℕ
leave_after ws z t = after ws (leave_number ws z t) (zone_change ws t (slot_of (zones_of ws) z) free_zone)

-- zone z's link is lost (u false) or back (u true) at t: "link already as told" is 7
unfoldable pub same : Bool → Bool → Bool
same a b = cond a b (not b)

abbrev pub link_tests : ℕ → Bool → Bool → Bool → ℕ → List (Bool × ℕ)
link_tests clock there up u t = (late clock t, BAD_TIME) ∷ (not there, NOT_JOINED) ∷ (same up u, ALREADY) ∷ []

unfoldable pub link_number : List ℕ → ℕ → Bool → ℕ → ℕ
link_number ws z u t = first_of (link_tests (clock_of ws) (joined (zones_of ws) z) (zone_of (zones_of ws) z).up u t)

unfoldable pub link_after : List ℕ → ℕ → Bool → ℕ → List ℕ
link_after ws z u t =
    after ws (link_number ws z u t) (zone_change ws t (slot_of (zones_of ws) z) (linked (zone_of (zones_of ws) z) u))

-- an override that is set, as one number above 0
unfoldable pub override_word : ℕ → ℕ → ℕ
override_word reason d = 1 + 2 * reason + d

-- override with a reason and a direction at t: "Setting again replaces"
abbrev pub override_tests : ℕ → Bool → ℕ → ℕ → ℕ → List (Bool × ℕ)
override_tests clock manager reason d t = (late clock t, BAD_TIME) ∷ (not (go_together manager reason d), BAD_OVERRIDE) ∷ []

unfoldable pub override_number : List ℕ → ℕ → ℕ → ℕ → ℕ
override_number ws reason d t = first_of (override_tests (clock_of ws) (settings_of ws).manager reason d t)

unfoldable pub override_after : List ℕ → ℕ → ℕ → ℕ → List ℕ
override_after ws reason d t = after ws (override_number ws reason d t) (head_change ws t (override_word reason d))

-- clear the override at t: 7 where none is set
abbrev pub clear_tests : ℕ → ℕ → ℕ → List (Bool × ℕ)
clear_tests clock override t = (late clock t, BAD_TIME) ∷ (eqb override 0, ALREADY) ∷ []

unfoldable pub clear_number : List ℕ → ℕ → ℕ
clear_number ws t = first_of (clear_tests (clock_of ws) (override_of ws) t)

unfoldable pub clear_after : List ℕ → ℕ → List ℕ
clear_after ws t = after ws (clear_number ws t) (head_change ws t 0)

-- "one call answers the values at the device's own last time and takes no time at all": the control state and the ten quantities
unfoldable pub ask_answer : List ℕ → List ℤ
ask_answer ws = values_at (situation_of ws) (clock_of ws)

-- "another only moves the clock to a given second"
abbrev pub move_tests : ℕ → ℕ → List (Bool × ℕ)
move_tests clock t = (late clock t, BAD_TIME) ∷ []

unfoldable pub move_number : List ℕ → ℕ → ℕ
move_number ws t = first_of (move_tests (clock_of ws) t)

unfoldable pub move_after : List ℕ → ℕ → List ℕ
move_after ws t = after ws (move_number ws t) (head_change ws t (override_of ws))
