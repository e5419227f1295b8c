-- What is proved of the walk and of what comes out. The proof of MakeUp is make_up, in proofs/, and so for the others.
-- Assumes nothing: these are statements.
use Rattle.std.specs.Prelude.{ℕ, ◌≡◌, true, List, []}
use Rattle.rescue_walk.specs.Walk.{Piece, walk, rescued, runs}
use Rattle.bench_script.specs.Bench.{bench_text}
use Rattle.bench_laws.specs.Sound.{joined, apart, faithful, sound}
use Rattle.bench_laws.specs.Answers.{copies, Answers, letterless}

-- "Copied records and runs together make up the input exactly"
abbrev pub MakeUp : Type 0
MakeUp = (s : List ℕ) → joined (walk s) ≡ s

-- "each longest run": none is empty, none touches another
abbrev pub Longest : Type 0
Longest = (s : List ℕ) → apart (walk s) ≡ true

-- what is copied is a whole, sound record; where bytes are passed over none starts
abbrev pub Faithful : Type 0
Faithful = (s : List ℕ) → faithful (walk s) ≡ true

-- and no other pieces are so: these three laws say the walk
abbrev pub Only : Type 0
Only = (ps : List Piece) → apart ps ≡ true → faithful ps ≡ true → walk (joined ps) ≡ ps

-- what comes out is a sound script
abbrev pub ReadsOn : Type 0
ReadsOn = (s : List ℕ) → sound (rescued s) ≡ true

-- "writes one that `bench` reads to its end": on whatever device, by the bench's own definition, it answers each copied record,
-- and prints nothing else
abbrev pub BenchReads : Type 0
BenchReads = (ws s : List ℕ) → Answers ws (rescued s) (copies (walk s))

-- so it never says `bad record`
abbrev pub NeverBad : Type 0
NeverBad = (s : List ℕ) → letterless (bench_text (rescued s)) ≡ true

-- "a sound script comes out unchanged with an empty report"
abbrev pub Unchanged : Type 0
Unchanged = (s : List ℕ) → sound s ≡ true → (rescued s ≡ s) × (runs s ≡ [])

-- rescuing twice changes nothing more
abbrev pub Once : Type 0
Once = (s : List ℕ) → (rescued (rescued s) ≡ rescued s) × (runs (rescued s) ≡ [])
