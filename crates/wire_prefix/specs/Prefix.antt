-- A frame: four bytes of length, most significant first, and the payload. Assumes nothing: these are definitions.
use Rattle.std.specs.Prelude.{ℕ, ◌+◌, ◌-◌, Bool, cond, ◌&&◌, ◌||◌, List, ◌++◌, length, drop, leb, ltb, eqb}
use Rattle.wire_bytes.specs.Bytes.{number_at, bytes_of}

-- "four bytes of length"
abbrev pub prefix_bytes : ℕ
prefix_bytes = 4

-- "four bytes of length, most significant first, equal to the payload that follows; nothing after it"
unfoldable pub frame_of : List ℕ → List ℕ
frame_of payload = bytes_of prefix_bytes (length payload) ++ payload

-- "Frame payload: 1 to 2,048 bytes"
abbrev pub most_payload : ℕ
most_payload = 2048

-- the longest frame, prefix and payload
abbrev pub most_frame : ℕ
most_frame = prefix_bytes + most_payload

-- what follows the prefix
abbrev pub payload_in : List ℕ → List ℕ
payload_in frame = drop prefix_bytes frame

-- the prefix says how many bytes follow it, and they are 1 to 2,048; a frame of which this is false is refused with 1
unfoldable pub framed : List ℕ → Bool
framed frame =
    ltb prefix_bytes (length frame) && leb (length frame - prefix_bytes) most_payload
    && eqb (number_at frame 0 prefix_bytes) (length frame - prefix_bytes)

-- where the frame ends that s begins with; 5, the soonest, while its prefix is not whole
unfoldable pub end_of : List ℕ → ℕ
end_of s = cond (ltb (length s) prefix_bytes) (prefix_bytes + 1) (prefix_bytes + number_at s 0 prefix_bytes)

-- "a length of 0 or above 2,048", with the prefix's four bytes
unfoldable pub bad_end : ℕ → Bool
bad_end e = leb e prefix_bytes || ltb most_frame e
