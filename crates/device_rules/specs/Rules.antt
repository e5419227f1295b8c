-- What a call's second, a start, a join and an override may say. Assumes nothing: these are definitions.
use Rattle.std.specs.Prelude.{ℕ, Bool, not, ◌&&◌, ◌||◌, ltb, leb, eqb, get_or}
use Rattle.device_store.specs.Quantities.{phases}
use Rattle.device_store.specs.Sizes.{most, end, value_end}
use Rattle.device_store.specs.declared.Settings.{Settings}

-- 5: "A time below the last accepted call's, or past the end"
unfoldable pub late : ℕ → ℕ → Bool
late clock t = ltb t clock || leb end t

-- "a contractual maximum per direction or none"
unfoldable pub bad_maximum : ℕ → Bool
bad_maximum m = leb value_end m && not (eqb m most)

-- below the lowest or above the highest
unfoldable pub outside : ℕ → ℕ → ℕ → Bool
outside low v high = ltb v low || ltb high v

-- 16: "A setting out of range, or a contractual consumption maximum below the minimum, is bad settings"; L5: "the phase count (1 to 3 ..)"
unfoldable pub bad_settings : Settings → Bool
bad_settings s =
    ltb 2 s.directions
    || (leb value_end s.minimum
    || (bad_maximum (get_or s.maxima 0 0)
    || (bad_maximum (get_or s.maxima 1 0)
    || (leb value_end (get_or s.failsafe 0 0)
    || (leb value_end (get_or s.failsafe 1 0)
    || (outside 7200 s.duration 86400
    || (outside 1 s.phases phases
    || ltb (get_or s.maxima 0 0) s.minimum)))))))

-- L11: "New devices know 1 to 3"
abbrev pub ranks : ℕ
ranks = 3

-- 6: "id outside 1 to 255"; L11: "6 now covers every rank outside 1 to 3"
unfoldable pub bad_join : ℕ → ℕ → Bool
bad_join z k = not (leb 1 z && leb z 255) || not (leb 1 k && leb k ranks)

-- 18: "reasons 0 and 1 go with consumption only; 3 with consumption, 4 with production, both only on an energy manager; 2 with either"
unfoldable pub go_together : Bool → ℕ → ℕ → Bool
go_together manager reason d =
    (ltb reason 2 && eqb d 0) || ((eqb reason 2 && ltb d 2) || (manager && ((eqb reason 3 && eqb d 0) || (eqb reason 4 && eqb d 1))))
