-- The kinds of records and the sizes of a record. Assumes nothing: these are definitions.
use Rattle.std.specs.Prelude.{ℕ, ◌+◌, Bool, cond, ◌&&◌, leb, eqb}

-- "Kinds: 1 join, 2 leave, 3 lost, 4 back, 5 frame, 6 plan, 7 override, 8 clear override"
abbrev pub join : ℕ
join = 1

abbrev pub leave : ℕ
leave = 2

abbrev pub lost : ℕ
lost = 3

abbrev pub back : ℕ
back = 4

abbrev pub frame : ℕ
frame = 5

abbrev pub plan : ℕ
plan = 6

abbrev pub override : ℕ
override = 7

abbrev pub clear : ℕ
clear = 8

-- "The bench kind 9 becomes the clock move; kind 10 is the ask"
abbrev pub move : ℕ
move = 9

abbrev pub ask : ℕ
ask = 10

-- kinds are 1 up to this one
abbrev pub kinds : ℕ
kinds = ask

-- "frame (prefix and payload, 4 to 2,052 bytes)"
abbrev pub frame_least : ℕ
frame_least = 4

abbrev pub frame_most : ℕ
frame_most = frame_least + 2048

-- "the mark 4D 48, kind, zone, time (4 bytes), body length (2 bytes)"
abbrev pub head : ℕ
head = 10

-- the longest record
abbrev pub longest : ℕ
longest = head + frame_most

-- "1 join (rank)", "5 frame (.. 4 to 2,052 bytes)", "7 override (reason, direction)", "bodies otherwise empty"
unfoldable pub right_length : ℕ → ℕ → Bool
right_length kind n =
    cond (eqb kind join) (eqb n 1)
    (cond (eqb kind frame) (leb frame_least n && leb n frame_most)
    (cond (eqb kind override) (eqb n 2) (eqb n 0)))

-- there is such a kind, and its body may be so long
unfoldable pub right_body : ℕ → ℕ → Bool
right_body kind n = (leb 1 kind && leb kind kinds) && right_length kind n
