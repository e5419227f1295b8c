-- Where the runs of a report lie in the input. The proof of Located is located, in proofs/, and so for the others.
-- Assumes nothing: these are definitions and statements.
use Rattle.std.specs.Prelude.{ℕ, suc, ◌+◌, ◌*◌, ◌≤◌, ◌<◌, ◌⊎◌, ◌≡◌, List, ◌∷◌, ◌++◌, length, get_or, take, drop}
use Rattle.bench_records.specs.Kinds.{head}
use Rattle.rescue_walk.specs.Walk.{record_len, Piece, copied, passed, walk, run_count, runs}
use Rattle.bench_laws.specs.Sound.{joined}

-- the i-th pair of the report on s, counted from 0: "by offset and length"
abbrev pub offset_in : List ℕ → ℕ → ℕ
offset_in s i = get_or (runs s) (2 * i) 0

abbrev pub length_in : List ℕ → ℕ → ℕ
length_in s i = get_or (runs s) (2 * i + 1) 0

-- and where that run ends
abbrev pub end_in : List ℕ → ℕ → ℕ
end_in s i = offset_in s i + length_in s i

-- the i-th run of s lies at o and has l bytes: what stands before it are the first o bytes of s, and it is the next l
pub record NthRun (s : List ℕ) (i o l : ℕ) : Type 0 where
  pub before : List Piece
  pub run : List ℕ
  pub behind : List Piece
  pub pieces : walk s ≡ before ++ (passed run ∷ behind)
  pub nth : run_count before ≡ i
  pub inside : o + l ≤ length s
  pub offset : take o s ≡ joined before
  pub bytes : take l (drop o s) ≡ run

-- "lists .. each longest run of passed-over bytes": two numbers for each, and no more
abbrev pub Listed : Type 0
Listed = (s : List ℕ) → length (runs s) ≡ 2 * run_count (walk s)

-- "by offset and length": the i-th pair is where the i-th run lies in the input
abbrev pub Located : Type 0
Located = (s : List ℕ) (i : ℕ) → i < run_count (walk s) → NthRun s i (offset_in s i) (length_in s i)

-- "in order": offsets ascend; between a run's end and the next lies a record at least, so no two touch
abbrev pub Ascending : Type 0
Ascending = (s : List ℕ) (i : ℕ) → suc i < run_count (walk s) → end_in s i + head ≤ offset_in s (suc i)

-- "longest": it has a byte, at none of its bytes a record starts, and where it ends one does, or the input ends
pub record LongestRun (s : List ℕ) (o l : ℕ) : Type 0 where
  pub some : 0 < l
  pub none : (k : ℕ) → o ≤ k → k < o + l → record_len (drop k s) ≡ 0
  pub ends : (o + l ≡ length s) ⊎ (0 < record_len (drop (o + l) s))

abbrev pub LongestEach : Type 0
LongestEach = (s : List ℕ) (i : ℕ) → i < run_count (walk s) → LongestRun s (offset_in s i) (length_in s i)

-- a copied record lies in the input behind the runs before it, and in front of all others
pub record RecordLies (s : List ℕ) (before : List Piece) (r : List ℕ) : Type 0 where
  pub bytes : take (length r) (drop (length (joined before)) s) ≡ r
  pub earlier : (i : ℕ) → i < run_count before → end_in s i ≤ length (joined before)
  pub later : (i : ℕ) → run_count before ≤ i → i < run_count (walk s) → length (joined before) + length r ≤ offset_in s i

abbrev pub Between : Type 0
Between = (s : List ℕ) (before behind : List Piece) (r : List ℕ) → walk s ≡ before ++ (copied r ∷ behind) → RecordLies s before r
