-- What is asked of the pieces of a script, and of a sound script. Assumes nothing: these are definitions.
use Rattle.std.specs.Prelude.{ℕ, zero, suc, Bool, true, false, cond, ◌&&◌, not, List, [], ◌∷◌, ◌++◌, eqb, length, drop}
use Rattle.rescue_walk.specs.Walk.{record_len, Piece, copied, passed}

-- all bytes of the pieces, in order
unfoldable pub joined : List Piece → List ℕ
joined [] = []
joined (copied r ∷ ps) = r ++ joined ps
joined (passed r ∷ ps) = r ++ joined ps

-- no run is empty, and none touches another
unfoldable pub filled : List ℕ → Bool
filled [] = false
filled (x ∷ s) = true

unfoldable pub run_first : List Piece → Bool
run_first [] = false
run_first (copied r ∷ ps) = false
run_first (passed r ∷ ps) = true

unfoldable pub apart : List Piece → Bool
apart [] = true
apart (copied r ∷ ps) = apart ps
apart (passed r ∷ ps) = filled r && (not (run_first ps) && apart ps)

-- at no byte of r, with t behind it, a record starts
unfoldable pub none_starts : List ℕ → List ℕ → Bool
none_starts [] t = true
none_starts (x ∷ r) t = eqb (record_len ((x ∷ r) ++ t)) 0 && none_starts r t

-- each copied piece is the record that starts there, and in no run one starts
unfoldable pub faithful : List Piece → Bool
faithful [] = true
faithful (copied r ∷ ps) = filled r && (eqb (record_len (r ++ joined ps)) (length r) && faithful ps)
faithful (passed r ∷ ps) = none_starts r (joined ps) && faithful ps

-- read record after record, at most n: whether that ends at the end and never fails
unfoldable pub reads_in : ℕ → List ℕ → Bool
reads_in zero [] = true
reads_in zero (x ∷ s) = false
reads_in (suc n) [] = true
reads_in (suc n) (x ∷ s) = cond (eqb (record_len (x ∷ s)) 0) false (reads_in n (drop (record_len (x ∷ s)) (x ∷ s)))

-- A SOUND SCRIPT: whole records, one behind the other
unfoldable pub sound : List ℕ → Bool
sound s = reads_in (length s) s
