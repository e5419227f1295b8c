-- The walk over a damaged script. Assumes nothing: these are definitions.
use Rattle.std.specs.Prelude.{ℕ, zero, suc, ◌+◌, cond, List, [], ◌∷◌, ◌++◌, eqb, length, take, drop, Option, None, Some}
use Rattle.bench_records.specs.Kinds.{head}
use Rattle.bench_records.specs.Records.{record_at}
use Rattle.bench_records.specs.declared.fields.Record.{Record}

-- the bytes of a record that was read, 0 for none
unfoldable pub scan_len : Option Record → ℕ
scan_len (Some r) = head + r.length
scan_len None = 0

-- "if a whole record with mark, known kind and right body length starts here": its bytes, 0 where s begins with none
unfoldable pub record_len : List ℕ → ℕ
record_len s = scan_len (record_at s 0)

-- a record's bytes, or those of a longest run of passed-over ones
pub data Piece : Type 0 where
  copied : List ℕ → Piece
  passed : List ℕ → Piece

-- "otherwise pass over one byte": it goes in front of the run that follows, or is a run by itself
unfoldable pub pass : ℕ → List Piece → List Piece
pass x [] = passed (x ∷ []) ∷ []
pass x (copied r ∷ ps) = passed (x ∷ []) ∷ (copied r ∷ ps)
pass x (passed r ∷ ps) = passed (x ∷ r) ∷ ps

-- "copy it unchanged and continue behind it", in at most n steps
unfoldable pub walk_in : ℕ → List ℕ → List Piece
walk_in zero s = []
walk_in (suc n) [] = []
walk_in (suc n) (x ∷ s) =
    cond (eqb (record_len (x ∷ s)) 0) (pass x (walk_in n s))
    (copied (take (record_len (x ∷ s)) (x ∷ s)) ∷ walk_in n (drop (record_len (x ∷ s)) (x ∷ s)))

-- "starting at byte 0"; each step goes on by a byte at least
unfoldable pub walk : List ℕ → List Piece
walk s = walk_in (length s) s

-- the records' bytes
unfoldable pub kept : List Piece → List ℕ
kept [] = []
kept (copied r ∷ ps) = r ++ kept ps
kept (passed r ∷ ps) = kept ps

-- "each longest run of passed-over bytes by offset and length", where the first piece stands at p
unfoldable pub runs_from : ℕ → List Piece → List ℕ
runs_from p [] = []
runs_from p (copied r ∷ ps) = runs_from (p + length r) ps
runs_from p (passed r ∷ ps) = p ∷ (length r ∷ runs_from (p + length r) ps)

unfoldable pub run_count : List Piece → ℕ
run_count [] = 0
run_count (copied r ∷ ps) = run_count ps
run_count (passed r ∷ ps) = suc (run_count ps)

-- WHAT COMES OUT, and the report
unfoldable pub rescued : List ℕ → List ℕ
rescued s = kept (walk s)

unfoldable pub runs : List ℕ → List ℕ
runs s = runs_from 0 (walk s)

-- how many bytes are passed over before the next record or the end
unfoldable pub run_len : List ℕ → ℕ
run_len [] = 0
run_len (x ∷ s) = cond (eqb (record_len (x ∷ s)) 0) (suc (run_len s)) 0

-- the position behind the record at p, none where none starts there
unfoldable pub record_end : List ℕ → ℕ → Option ℕ
record_end s p = cond (eqb (record_len (drop p s)) 0) None (Some (p + record_len (drop p s)))
