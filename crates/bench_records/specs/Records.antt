-- One record of a bench script: "the mark 4D 48, kind, zone, time (4 bytes), body length (2 bytes), body".
-- Assumes nothing: these are definitions.
use Rattle.std.specs.Prelude.{ℕ, ◌+◌, Bool, cond, ◌&&◌, List, leb, eqb, length, get_or, Option, None, Some}
use Rattle.wire_bytes.specs.Bytes.{number_at}
use Rattle.bench_records.specs.Kinds.{head, right_body}
use Rattle.bench_records.specs.declared.fields.Record.{Record}

-- "the mark 4D 48"
unfoldable pub is_mark : List ℕ → ℕ → Bool
is_mark s p = eqb (get_or s p 0) 0x4D && eqb (get_or s (p + 1) 0) 0x48

-- "numbers most significant first, other fields one byte"
unfoldable pub fields_at : List ℕ → ℕ → Record
fields_at s p =
    record {
      kind = get_or s (p + 2) 0;
      zone = get_or s (p + 3) 0;
      time = number_at s (p + 4) 4;
      body = p + head;
      length = number_at s (p + 8) 2;
    }

-- bad "at a wrong mark, kind, body length or cut record"
unfoldable pub good : List ℕ → ℕ → Record → Bool
good s p r = is_mark s p && (right_body r.kind r.length && leb (r.body + r.length) (length s))

unfoldable pub record_at : List ℕ → ℕ → Option Record
record_at s p = cond (good s p (fields_at s p)) (Some (fields_at s p)) None
